mod SlotShapeLemmas
pub mod HoleClosingLemmas
pub mod SlotCopyLemmas
pub mod SlotPartitionLemmas
pub mod FoldLemmas
mod FreeListLemmas
pub mod CompactedArenaLemmas
mod CloneLemmas
mod DetachedSlotLemmas
mod ExchangeLemmas
pub mod PackedSlotLemmas
pub mod EntryRangeLemmas
pub mod ArenaGrowthLemmas
pub mod SlotLemmas
mod SoundnessLemmas
mod TrimLemmas
mod ArenaModelLemmas
mod TallyLemmas
pub mod InsertedEntryLemmas
