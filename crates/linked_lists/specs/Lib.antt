pub mod LinkedLists
pub mod RingCalls
