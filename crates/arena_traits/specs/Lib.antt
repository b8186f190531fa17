pub mod Arena
pub mod Entries
pub mod Advancers
pub mod AdvancerLaws
pub mod EntryLaws
pub mod Compressions
pub mod Growth
pub mod CallOutcomes
