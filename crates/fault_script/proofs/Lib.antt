pub mod Cutting
pub mod Capping
pub mod Ranges
pub mod Placed
pub mod Holding
pub mod Continuing
pub mod Following
pub mod Fitting
