pub mod Columns
pub mod Commuting
pub mod Sharing
pub mod Words
