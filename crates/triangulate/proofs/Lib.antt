pub mod LineLemmas
pub mod RingTextLemmas
