pub mod Forms
pub mod Grammar
pub mod Spelling
pub mod Meaning
pub mod Laws
pub mod Rows
pub mod inside
