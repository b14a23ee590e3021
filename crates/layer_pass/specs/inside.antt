pub mod Drafts
pub mod Lows
