pub mod Views
pub mod Turn
pub mod Answers
pub mod Passes
pub mod Replies
pub mod Moments
pub mod inside
