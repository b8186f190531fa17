-- Exchanges of the links after two links.
pub mod Swaps
pub mod Pairs
pub mod Chains
pub mod Determinacy
pub mod Merges
