pub mod Commuting
pub mod Sharing
pub mod inside
