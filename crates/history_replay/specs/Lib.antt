pub mod Replay
pub mod Answers
pub mod Laws
pub mod inside
