pub mod Joins
pub mod Sides
pub mod Cuts
pub mod Joined
pub mod Lasts
pub mod Telling
pub mod FaultFree
