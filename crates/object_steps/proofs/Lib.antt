pub mod Missing
pub mod Nodes
pub mod Turns
pub mod Kept
pub mod Along
pub mod Finding
