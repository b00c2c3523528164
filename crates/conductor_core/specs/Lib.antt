pub mod Openings
pub mod Endings
pub mod Moves
pub mod Verdicts
pub mod Orders
pub mod Conductors
pub mod Made
pub mod Tells
