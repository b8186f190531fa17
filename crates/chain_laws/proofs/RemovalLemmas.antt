-- Removals.
pub mod Pairs
pub mod Chains
pub mod Determinacy
