pub mod Subset
pub mod Table
pub mod Growth
pub mod Trace
pub mod Pick
