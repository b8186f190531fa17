pub mod ArenaInsertionLemmas
pub mod MappedArenaLemmas
pub mod LinkStateLemmas
pub mod RestLemmas
pub mod CallEffectLemmas
pub mod OccupiedIndexLemmas
