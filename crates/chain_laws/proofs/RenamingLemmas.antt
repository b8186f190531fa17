-- Renamings, arrangements and moves.
pub mod Images
pub mod Chains
pub mod Positions
pub mod ChainRuns
pub mod Moves
pub mod HoleClosing
pub mod LeastIndexOrder
