pub mod Lines
pub mod MemoryShelf
pub mod MemorySink
pub mod Names
pub mod Outside
pub mod Passes
pub mod Texts
pub mod inside
