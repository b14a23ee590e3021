pub mod Carried
pub mod Replayed
pub mod Told
