mod RingLemmas
mod ListLemmas
mod InsertionLemmas
mod ReadingLemmas
mod ChangeLemmas
mod MoveLemmas
mod RunLemmas
mod HandleLemmas
mod SplitLemmas
mod WalkedLemmas
mod ListRemovalLemmas
mod RangeLemmas
mod RangeMoveLemmas
mod RangeTestLemmas
pub mod KeptItemLemmas
