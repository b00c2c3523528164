pub mod Objects
pub mod Turns
pub mod Laws
pub mod Partial
pub mod Totals
