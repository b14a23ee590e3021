pub mod Line
pub mod Made
pub mod Messages
pub mod Strays
pub mod inside
