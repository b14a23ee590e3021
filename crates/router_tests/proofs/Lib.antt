pub mod Wide
pub mod Outcomes
pub mod Tries
