pub mod Slices
pub mod Rows
pub mod Laws
pub mod Pictures
pub mod inside
