pub mod Prefix
pub mod Corrected
