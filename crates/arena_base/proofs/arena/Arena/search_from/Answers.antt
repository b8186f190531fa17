use Rattle.std.proofs.Common.{◌<◌, length, refl, ◌∙◌, ap, arith}
use Rattle.std.proofs.lemmas.List.{length-map}
use Rattle.arena_base.specs.Slots.{entry_of}
use Rattle.arena_base.proofs.EntryRangeLemmas.{entries_from-past, entries_from-step, next_entry}
use Rattle.arena_base.proofs.arena.Arena.search_from.Goals as goal

pub loop-k-init : goal.loop-k-init
loop-k-init g c = refl

pub returns-in-Some : goal.returns-in-Some
returns-in-Some g c =
    let slots = c.args.self.now.slots in
    let long = ap (λ a. length a.slots) c.self.view_is in
    let below : c.loop-k.k < length slots = omega (arith, long, length-map (g.S.SlotStack.items c.self.inside.slots) entry_of, c.len-k-end.ensures) in
    record {
      none = tt;
      some = next_entry slots c.args.from c.loop-k.k _ (g.P.PtrKey.key c.in-Some.pair.0) c.in-Some.pair.1.now (omega arith) below c.loop-k.invariant c.in-Some.ensures.key c.in-Some.ensures.value;
      fits = omega (arith, below, long, length-map (g.S.SlotStack.items c.self.inside.slots) entry_of, g.met.S.SlotStack.has_capacity c.self.inside.slots, g.met.S.SlotStack.capacity_fits c.self.inside.slots);
    }

pub loop-k-preserved : goal.loop-k-preserved
loop-k-preserved g c =
    let slots = c.args.self.now.slots in
    let long = ap (λ a. length a.slots) c.self.view_is in
    let below : c.loop-k.k < length slots = omega (arith, long, length-map (g.S.SlotStack.items c.self.inside.slots) entry_of, c.len-k-end.ensures) in
    c.loop-k.invariant ∙ entries_from-step slots c.loop-k.k _ (omega arith) below c.in_default.ensures.key

pub returns : goal.returns
returns g c =
    let long = ap (λ a. length a.slots) c.self.view_is in
    record {
      none = c.loop-k.invariant ∙ entries_from-past c.args.self.now.slots _ c.loop-k.k (omega (arith, long, length-map (g.S.SlotStack.items c.self.inside.slots) entry_of, c.len-k-end.ensures));
      some = tt;
      fits = tt;
    }
