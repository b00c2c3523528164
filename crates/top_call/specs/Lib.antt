pub mod Split
pub mod Due
pub mod Laws
