mod Keeps
mod Two
