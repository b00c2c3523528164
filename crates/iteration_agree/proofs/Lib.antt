pub mod OneSlot
pub mod Lists
pub mod Keeping
pub mod Holding
pub mod Changing
pub mod Following
pub mod Looking
