pub mod Renumbering
pub mod MoveTables
