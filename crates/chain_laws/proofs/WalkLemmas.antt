-- Walks along a chain.
pub mod Walker
pub mod Ahead
pub mod Steps
pub mod Members
pub mod Backward
pub mod Drains
pub mod WalkBack
