pub mod Lexed
pub mod Meets
pub mod Pass
pub mod Refused
pub mod Small
pub mod Tried
