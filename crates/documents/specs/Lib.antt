pub mod Histories
pub mod Renumbering
