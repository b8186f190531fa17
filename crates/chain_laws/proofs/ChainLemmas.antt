-- Chains: membership, existence and uniqueness.
pub mod LinkedLists
pub mod Uniqueness
pub mod Rotations
pub mod ChainLists
pub mod Existence
pub mod NeighborPairs
pub mod Partitions
pub mod Determinacy
pub mod MemberLaws
pub mod Frame
