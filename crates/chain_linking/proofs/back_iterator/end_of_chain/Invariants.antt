-- The link reached is on the way to the end.
use Rattle.std.specs.Prelude.{length}
use Rattle.chain_links.specs.ChainArena.{link_map}
use Rattle.chain_links.specs.Links.{links_view}
use Rattle.chain_linking.proofs.BackWalkerLemmas.{IsOnToEnd, steps_on}
use Rattle.chain_linking.proofs.back_iterator.end_of_chain.Given as goal

abbrev pub invariant-loop-k : goal.invariant-loop-k
invariant-loop-k g l =
    let number = g.P.Inx.InxKey.number in
    let a = links_view g.P.Inx.InxKey.packed_number l.fn.arena in
    record { on : IsOnToEnd (link_map a) (number l.fn.start) (length a.slots) (number l.end) }

abbrev pub decreases-loop-k : goal.decreases-loop-k
decreases-loop-k g l =
    let number = g.P.Inx.InxKey.number in
    let a = links_view g.P.Inx.InxKey.packed_number l.fn.arena in
    steps_on (link_map a) (number l.fn.start) (length a.slots) (number l.end)
