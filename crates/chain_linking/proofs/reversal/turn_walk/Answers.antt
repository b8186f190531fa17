use Rattle.std.proofs.Common.{◌≡◌, None, Some, refl, sym, ap, ◌∙◌, subst}
use Rattle.std.proofs.lemmas.Bool.{false≢true}
use Rattle.std.specs.Option.{option_map}
use Rattle.chain_laws.proofs.InterlinkLemmas.Inverses.{one_some}
use Rattle.chain_links.specs.Links.{links_view}
use Rattle.chain_linking.proofs.ReversalLemmas.{IsTurning, turning_begins, turning_ends, turning_on, turning_back, steps_unless, steps_nowhere, forward_valid, back_valid}
use Rattle.chain_linking.proofs.reversal.turn_walk.Goals as goal

pub loop-k-init : goal.loop-k-init
loop-k-init g c =
    let a = links_view g.P.Inx.InxKey.packed_number c.args.arena.now in
    let start = g.P.Inx.InxKey.number c.args.start in
    record {
      turning = subst (IsTurning a a start (Some start)) (sym c.requires.back) (turning_begins a start c.requires.agrees c.requires.start);
      at_rest = λ rest. rest;
    }

pub turn-requires : goal.turn-requires
turn-requires g c =
    let number = g.P.Inx.InxKey.number in
    let packed = g.P.Inx.InxKey.packed_number in
    forward_valid (links_view packed c.args.arena.now) (links_view packed c.loop-k.arena) (number c.args.start) (number c.loop-k.at) (option_map number c.args.back) c.loop-k.invariant.turning

pub returns-then-is_same : goal.returns-then-is_same
returns-then-is_same g c =
    let number = g.P.Inx.InxKey.number in
    let packed = g.P.Inx.InxKey.packed_number in
    let a = links_view packed c.args.arena.now in
    let now = links_view packed c.loop-k.arena in
    let new = links_view packed c.turn.new.arena in
    let next = option_map number c.turn.result.1 in
    let back = option_map number c.args.back in
    let same : next ≡ Some (number c.args.start) = ap (option_map number) c.in-Some.is ∙ ap (λ i. Some (number i)) ((g.met.P.Inx.InxKey.same_is_equal c.in-Some.k c.args.start).0 (sym c.is_same.ensures ∙ c.if-is_same.true)) in
    let steps = steps_nowhere (number c.args.start) next back same in
    record {
      links = turning_ends a new (number c.args.start)
          (turning_on a now (number c.args.start) new (number c.loop-k.at) c.turn.ensures.links.links back next None None c.loop-k.invariant.turning c.turn.ensures.next steps.0 steps.1).0;
      at_rest = λ rest. c.turn.ensures.links.at_rest (c.loop-k.invariant.at_rest rest);
    }

pub loop-k-preserved : goal.loop-k-preserved
loop-k-preserved g c =
    let number = g.P.Inx.InxKey.number in
    let packed = g.P.Inx.InxKey.packed_number in
    let next = Some (number c.in-Some.k) in
    let back = option_map number c.args.back in
    let steps = steps_unless (number c.args.start) next back (λ same. absurd (false≢true (sym c.if-is_same.false ∙ (c.is_same.ensures ∙ (g.met.P.Inx.InxKey.same_is_equal c.in-Some.k c.args.start).1 (g.met.P.Inx.InxKey.same_number c.in-Some.k c.args.start (one_some same)))))) in
    record {
      turning = (turning_on (links_view packed c.args.arena.now) (links_view packed c.loop-k.arena) (number c.args.start) (links_view packed c.turn.new.arena) (number c.loop-k.at) c.turn.ensures.links.links
          back next next back c.loop-k.invariant.turning (sym (ap (option_map number) c.in-Some.is) ∙ c.turn.ensures.next) steps.0 steps.1).0;
      at_rest = λ rest. c.turn.ensures.links.at_rest (c.loop-k.invariant.at_rest rest);
    }

pub loop-k-smaller : goal.loop-k-smaller
loop-k-smaller g c =
    let number = g.P.Inx.InxKey.number in
    let packed = g.P.Inx.InxKey.packed_number in
    let next = Some (number c.in-Some.k) in
    let back = option_map number c.args.back in
    let steps = steps_unless (number c.args.start) next back (λ same. absurd (false≢true (sym c.if-is_same.false ∙ (c.is_same.ensures ∙ (g.met.P.Inx.InxKey.same_is_equal c.in-Some.k c.args.start).1 (g.met.P.Inx.InxKey.same_number c.in-Some.k c.args.start (one_some same)))))) in
    (turning_on (links_view packed c.args.arena.now) (links_view packed c.loop-k.arena) (number c.args.start) (links_view packed c.turn.new.arena) (number c.loop-k.at) c.turn.ensures.links.links
    back next next back c.loop-k.invariant.turning (sym (ap (option_map number) c.in-Some.is) ∙ c.turn.ensures.next) steps.0 steps.1).1

pub loop-back-init : goal.loop-back-init
loop-back-init g c =
    let number = g.P.Inx.InxKey.number in
    let packed = g.P.Inx.InxKey.packed_number in
    record {
      turning = (turning_on (links_view packed c.args.arena.now) (links_view packed c.loop-k.arena) (number c.args.start) (links_view packed c.turn.new.arena) (number c.loop-k.at) c.turn.ensures.links.links
          (option_map number c.args.back) None None (option_map number c.args.back) c.loop-k.invariant.turning (sym (ap (option_map number) c.in-None.is) ∙ c.turn.ensures.next) refl refl).0;
      at_rest = λ rest. c.turn.ensures.links.at_rest (c.loop-k.invariant.at_rest rest);
    }

pub turn-back-requires : goal.turn-back-requires
turn-back-requires g c =
    let number = g.P.Inx.InxKey.number in
    let packed = g.P.Inx.InxKey.packed_number in
    back_valid (links_view packed c.args.arena.now) (links_view packed c.loop-back.arena) (number c.args.start) (number c.in-Some-back.i) (rw c.in-Some-back.is at c.loop-back.invariant.turning)

pub loop-back-preserved : goal.loop-back-preserved
loop-back-preserved g c =
    let number = g.P.Inx.InxKey.number in
    let packed = g.P.Inx.InxKey.packed_number in
    record {
      turning = (turning_back (links_view packed c.args.arena.now) (links_view packed c.loop-back.arena) (number c.args.start) (links_view packed c.turn-back.new.arena) (number c.in-Some-back.i) c.turn-back.ensures.links.links
          (option_map number c.turn-back.result.0) (rw c.in-Some-back.is at c.loop-back.invariant.turning) c.turn-back.ensures.prev).0;
      at_rest = λ rest. c.turn-back.ensures.links.at_rest (c.loop-back.invariant.at_rest rest);
    }

pub loop-back-smaller : goal.loop-back-smaller
loop-back-smaller g c =
    let number = g.P.Inx.InxKey.number in
    let packed = g.P.Inx.InxKey.packed_number in
    rw c.in-Some-back.is ((turning_back (links_view packed c.args.arena.now) (links_view packed c.loop-back.arena) (number c.args.start) (links_view packed c.turn-back.new.arena) (number c.in-Some-back.i) c.turn-back.ensures.links.links
    (option_map number c.turn-back.result.0) (rw c.in-Some-back.is at c.loop-back.invariant.turning) c.turn-back.ensures.prev).1)

pub returns : goal.returns
returns g c =
    let packed = g.P.Inx.InxKey.packed_number in
    record {
      links = turning_ends (links_view packed c.args.arena.now) (links_view packed c.loop-back.arena) (g.P.Inx.InxKey.number c.args.start) (rw c.in_default.is at c.loop-back.invariant.turning);
      at_rest = c.loop-back.invariant.at_rest;
    }
