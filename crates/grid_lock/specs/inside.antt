pub mod Hands
pub mod Passes
pub mod Plays
pub mod Views
