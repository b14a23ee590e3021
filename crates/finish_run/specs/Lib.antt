pub mod Next
pub mod Finished
pub mod inside
