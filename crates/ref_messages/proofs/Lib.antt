pub mod Lawful
pub mod Beside
pub mod Told
pub mod Found
