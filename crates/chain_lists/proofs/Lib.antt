pub mod ItemListLemmas
pub mod ListChangeLemmas
pub mod ItemRemovalLemmas
pub mod ValueWriteLemmas
