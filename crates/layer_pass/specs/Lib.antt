pub mod Layering
pub mod inside
