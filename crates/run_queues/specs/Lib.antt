pub mod Histories
pub mod RunQueues
pub mod Turns
