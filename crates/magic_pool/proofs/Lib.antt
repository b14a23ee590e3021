pub mod Histories
pub mod Readiness
pub mod Runs
