pub mod Lists
pub mod Rule
pub mod Hands
pub mod Moments
pub mod inside
