-- Reversals of a chain.
pub mod Turns
pub mod Chains
