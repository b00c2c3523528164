pub mod RecordLists
pub mod Lines
pub mod Ledgers
pub mod Conditions
pub mod Lawful
pub mod Checkpoints
pub mod Laws
pub mod Apart
