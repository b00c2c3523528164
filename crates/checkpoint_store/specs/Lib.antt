pub mod Stored
pub mod Assembled
pub mod Marks
pub mod Laws
