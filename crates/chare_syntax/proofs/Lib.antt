pub mod Skips
pub mod Named
pub mod Filled
