pub mod Checks
pub mod FirstParts
