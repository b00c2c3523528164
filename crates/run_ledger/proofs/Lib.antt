mod Bits
mod Counts
mod Checkpoints
mod Bare
mod Lineages
mod Spending
mod Counting
pub mod Allowed
mod Following
mod OneReplica
mod Right
pub mod Fair
