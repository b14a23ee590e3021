pub mod Certificate
pub mod Grid
pub mod Kept
pub mod Openness
pub mod Reading
pub mod Spread
pub mod Tree
