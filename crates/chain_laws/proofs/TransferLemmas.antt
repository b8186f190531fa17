-- Transfers of chains from one arena to another.
pub mod Source
pub mod Target
