pub mod Decimals
pub mod Growth
pub mod Passing
pub mod Pieces
pub mod Shelves
pub mod TextLemmas
