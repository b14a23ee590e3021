pub mod Factories
