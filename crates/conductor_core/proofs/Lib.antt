pub mod Bits
mod Notes
pub mod Recording
pub mod Sending
pub mod Deciding
pub mod Hearing
pub mod Settling
pub mod Telling
