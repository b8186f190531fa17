pub mod OptionLemmas
pub mod PointerKindLemmas
