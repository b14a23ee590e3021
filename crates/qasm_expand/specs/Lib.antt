pub mod Flats
pub mod Limits
pub mod Sound
pub mod Placed
pub mod Rows
pub mod inside
