pub mod Needs
pub mod Pulled
pub mod inside
