-- Insertions.
pub mod Positions
pub mod Pairs
pub mod Undo
pub mod Chains
pub mod Determinacy
pub mod Writes
pub mod Growth
