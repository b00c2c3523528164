pub mod Lengths
pub mod Plans
pub mod Tops
pub mod Refusals
pub mod Lines
pub mod Splitting
