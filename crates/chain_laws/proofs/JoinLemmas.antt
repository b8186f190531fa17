-- Joins of two links, and on new links that have no neighbors.
pub mod Lists
pub mod Chains
pub mod LoneLinks
