pub mod Stamps
pub mod Truth
pub mod Orders
