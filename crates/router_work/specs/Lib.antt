pub mod Gates
pub mod Passing
pub mod Routing
pub mod Tries
pub mod Ends
pub mod Routes
pub mod Waits
pub mod inside
