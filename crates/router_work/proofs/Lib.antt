pub mod Passings
pub mod Waitings
pub mod Histories
pub mod Tryings
pub mod Workings
pub mod Makings
pub mod Closings
pub mod Crews
