mod BlockLemmas
mod ChunkStackLemmas
mod BlockSwapLemmas
