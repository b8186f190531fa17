-- Moves of a run.
pub mod Interlinks
pub mod Undo
pub mod Follows
pub mod Chains
