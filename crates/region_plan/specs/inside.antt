pub mod Finish
pub mod Follow
pub mod Growing
pub mod Kept
pub mod Ports
pub mod Tree
pub mod Walk
pub mod Ways
