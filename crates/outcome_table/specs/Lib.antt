pub mod OutcomeText
pub mod Laws
pub mod Rows
pub mod inside
