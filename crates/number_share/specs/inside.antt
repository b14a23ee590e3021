pub mod Hands
pub mod Plays
pub mod Views
