pub mod ListText
pub mod Printed
pub mod Listable
pub mod Laws
pub mod inside
