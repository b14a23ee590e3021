pub mod Beside
pub mod Cut
pub mod Drafts
pub mod Told
