-- The starts left are those of the links left.
use Rattle.std.proofs.Common.{◌≡◌, length}
use Rattle.chain_links.specs.Links.{entry_views}
use Rattle.chain_arena.specs.Starts.{starts_among}
use Rattle.chain_arena.proofs.starts.StartsIterator.next.Given as goal

abbrev pub invariant-loop-item : goal.invariant-loop-item
invariant-loop-item g l = starts_among (entry_views g.P.Inx.InxKey.packed_number l.self-inside.links) ≡ starts_among (entry_views g.P.Inx.InxKey.packed_number l.initial.self-inside.links)

abbrev pub decreases-loop-item : goal.decreases-loop-item
decreases-loop-item g l = length l.self-inside.links
