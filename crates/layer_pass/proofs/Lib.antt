pub mod Finds
pub mod Bounds
pub mod Rising
pub mod Rows
pub mod Placing
pub mod Tracing
pub mod Sets
