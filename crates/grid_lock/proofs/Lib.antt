pub mod Lists
pub mod Keeps
pub mod Hands
pub mod Refusals
pub mod Ends
pub mod Gathers
pub mod Opens
pub mod Moments
