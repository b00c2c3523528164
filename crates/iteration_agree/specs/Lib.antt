pub mod Rounds
pub mod Slots
pub mod Cuts
pub mod Under
pub mod Moves
pub mod Laws
pub mod Looks
