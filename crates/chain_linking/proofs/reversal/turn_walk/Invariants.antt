-- The links ahead are still to be turned: by next, then back from the end.
use Rattle.std.specs.Prelude.{None, Some}
use Rattle.std.specs.Option.{option_map}
use Rattle.chain_links.specs.Links.{links_view, AreAtRest}
use Rattle.chain_linking.proofs.ReversalLemmas.{IsTurning, left_to_turn}
use Rattle.chain_linking.proofs.reversal.turn_walk.Given as goal

abbrev pub invariant-loop-k : goal.invariant-loop-k
invariant-loop-k g l =
    let number = g.P.Inx.InxKey.number in
    let packed = g.P.Inx.InxKey.packed_number in
    record {
      turning : IsTurning (links_view packed l.fn.arena) (links_view packed l.arena) (number l.fn.start) (Some (number l.at)) (option_map number l.fn.back);
      at_rest : AreAtRest packed l.fn.arena.slots → AreAtRest packed l.arena.slots;
    }

abbrev pub decreases-loop-k : goal.decreases-loop-k
decreases-loop-k g l =
    let number = g.P.Inx.InxKey.number in
    left_to_turn (links_view g.P.Inx.InxKey.packed_number l.fn.arena) (number l.fn.start) (Some (number l.at)) (option_map number l.fn.back)

abbrev pub invariant-loop-back : goal.invariant-loop-back
invariant-loop-back g l =
    let number = g.P.Inx.InxKey.number in
    let packed = g.P.Inx.InxKey.packed_number in
    record {
      turning : IsTurning (links_view packed l.fn.arena) (links_view packed l.arena) (number l.fn.start) None (option_map number l.back);
      at_rest : AreAtRest packed l.fn.arena.slots → AreAtRest packed l.arena.slots;
    }

abbrev pub decreases-loop-back : goal.decreases-loop-back
decreases-loop-back g l =
    let number = g.P.Inx.InxKey.number in
    left_to_turn (links_view g.P.Inx.InxKey.packed_number l.fn.arena) (number l.fn.start) None (option_map number l.back)
