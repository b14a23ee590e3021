pub mod Reads
pub mod Carried
pub mod Told
