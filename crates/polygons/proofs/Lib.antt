mod CyclicLemmas
mod RingLemmas
mod WalkedRingLemmas
mod RingRemovalLemmas
