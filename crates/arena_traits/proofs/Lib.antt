pub mod EntrySearchLemmas
pub mod ArenaViewLemmas
pub mod ClosureLemmas
pub mod CallOutcomeLemmas
pub mod EntryChangeLemmas
pub mod InsertionLemmas
