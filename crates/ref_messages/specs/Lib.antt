pub mod Queue
pub mod Refusal
pub mod Laws
pub mod Places
