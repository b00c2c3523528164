pub mod Moves
pub mod Worlds
pub mod Steps
pub mod Sound
pub mod Bounds
pub mod Drills
pub mod Still
pub mod Costs
