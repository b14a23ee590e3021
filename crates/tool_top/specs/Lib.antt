pub mod Faults
pub mod Serial
pub mod Lower
pub mod Layers
pub mod Schedules
pub mod Ends
pub mod Told
pub mod inside
