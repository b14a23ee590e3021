pub mod Jobs
pub mod Sites
