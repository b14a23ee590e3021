pub mod Bits
pub mod BitsNow
pub mod Books
pub mod Cells
pub mod Judging
pub mod Kept
pub mod Uses
