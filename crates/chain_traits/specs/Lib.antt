pub mod Clones
pub mod DrainOrder
pub mod CompressionLaws
pub mod ChainVisits
