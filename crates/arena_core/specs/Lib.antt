pub mod Numbers
pub mod PackedOptions
pub mod PointerKinds
pub mod Invalidation
pub mod Errors
pub mod PointerText
pub mod SlotStack
pub mod SlotVectors
