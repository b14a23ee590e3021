pub mod Clashes
pub mod Factories
pub mod Marks
pub mod Numbers
pub mod Pages
pub mod Tables
