-- Cuts between two neighbors.
pub mod Pairs
pub mod Chains
