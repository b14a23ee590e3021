mod Cut
mod Circuits
mod Layouts
mod Tables
mod Ports
pub mod Keeping
mod Wholes
mod Once
mod Boards
mod AtHand
