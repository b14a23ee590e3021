pub mod Places
pub mod Joined
pub mod Programs
pub mod Laws
pub mod inside
