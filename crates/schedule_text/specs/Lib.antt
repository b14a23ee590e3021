pub mod Text
pub mod Written
pub mod Laws
pub mod Pens
pub mod Lines
pub mod Bits
pub mod inside
