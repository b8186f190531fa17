-- Worked examples, computed from the definitions.
pub mod Joins
pub mod Removals
pub mod ReversalsAndMoves
pub mod Cuts
pub mod Insertions
pub mod Exchanges
pub mod Definitions
pub mod Renamings
pub mod Members
