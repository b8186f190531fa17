-- Interlinks as plain functions, without chains.
pub mod Inverses
pub mod Linked
pub mod Skips
pub mod Puts
