pub mod ResponseLemmas
pub mod ProgressLemmas
pub mod RunEndLemmas
pub mod LineSplitLemmas
pub mod KindLemmas
pub mod PointerWordLemmas
pub mod MovesLengthLemmas
pub mod WordLemmas
