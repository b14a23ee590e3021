pub mod Heads
pub mod Wholes
pub mod Turns
pub mod Placed
pub mod Longest
pub mod Shapes
pub mod Splitting
pub mod Laws
