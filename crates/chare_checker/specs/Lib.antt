pub mod FirstUses
pub mod Gathered
pub mod Wording
