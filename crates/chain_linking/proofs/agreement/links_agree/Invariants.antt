-- The interlinks at the indexes up to k agree.
use Rattle.std.proofs.Common.{ℕ, ◌+◌, ◌<◌}
use Rattle.chain_linking.specs.Agreement.{IsWellLinkedAt}
use Rattle.chain_links.specs.ChainArena.{link_map}
use Rattle.chain_links.specs.Links.{links_view}
use Rattle.chain_linking.proofs.agreement.links_agree.Given as goal

abbrev pub invariant-loop-k : goal.invariant-loop-k
invariant-loop-k g l = (k : ℕ) → k < l.k → IsWellLinkedAt (link_map (links_view g.P.Inx.InxKey.packed_number l.arena)) (k + 1)
