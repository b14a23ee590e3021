pub mod Finished
pub mod Looks
pub mod Next
