pub mod Two
pub mod Outcomes
