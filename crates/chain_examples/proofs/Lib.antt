mod OwnerLemmas
mod PlaceLemmas
