pub mod GenericArenaLemmas
pub mod NeighborPointerLemmas
pub mod OutcomeLemmas
pub mod GenericRemovalLemmas
pub mod AdvancerWalkLemmas
pub mod SecondCompressionLemmas
pub mod LinkOrderLemmas
pub mod ChainVisitLemmas
