pub mod Shared
pub mod Workers
pub mod Carried
pub mod Commands
pub mod Ends
pub mod Entries
