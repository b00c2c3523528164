pub mod Names
pub mod Lines
pub mod Slips
pub mod Answers
pub mod Report
pub mod Marks
pub mod Laws
