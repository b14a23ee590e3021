pub mod Steps
pub mod Workers
pub mod Routing
