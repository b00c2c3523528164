pub mod Spelling
pub mod Packs
pub mod Faults
pub mod Reading
pub mod Laws
