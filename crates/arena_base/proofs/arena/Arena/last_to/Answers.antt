use Rattle.std.proofs.Common.{◌≡◌, ◌+◌, ◌<◌, ◌-◌, refl, length, Some, None, sym, ◌∙◌, ap, arith}
use Rattle.std.proofs.lemmas.List.{length-map}
use Rattle.arena_base.specs.Slots.{entry_of}
use Rattle.arena_base.proofs.EntryRangeLemmas.{last_key-step, next_entry}
use Rattle.arena_base.proofs.arena.Arena.last_to.Goals as goal

pub returns-in-Some : goal.returns-in-Some
returns-in-Some g c =
    let slots = c.args.self.now.slots in
    let k = c.loop-k.k - 1 in
    let long = ap (λ a. length a.slots) c.self.view_is in
    let below : k < length slots = omega (arith, long, length-map (g.S.SlotStack.items c.self.inside.slots) entry_of) in
    record {
      key = sym (last_key-step slots k c.loop-k.k (Some (g.P.PtrKey.key c.in-Some.pair.0)) (omega arith) below c.in-Some.ensures.key) ∙ c.loop-k.invariant;
      fits =
          let at = next_entry slots k k (k + 1) (g.P.PtrKey.key c.in-Some.pair.0) c.in-Some.pair.1.now (omega arith) below refl c.in-Some.ensures.key c.in-Some.ensures.value in
          omega (arith, at.index, below, long, length-map (g.S.SlotStack.items c.self.inside.slots) entry_of, g.met.S.SlotStack.has_capacity c.self.inside.slots, g.met.S.SlotStack.capacity_fits c.self.inside.slots);
    }

pub loop-k-preserved : goal.loop-k-preserved
loop-k-preserved g c =
    let slots = c.args.self.now.slots in
    let long = ap (λ a. length a.slots) c.self.view_is in
    let below : c.loop-k.k - 1 < length slots = omega (arith, long, length-map (g.S.SlotStack.items c.self.inside.slots) entry_of) in
    sym (last_key-step slots (c.loop-k.k - 1) c.loop-k.k None (omega arith) below c.in_default.ensures.key) ∙ c.loop-k.invariant

pub returns : goal.returns
returns g c =
    let none : c.loop-k.k ≡ 0 = omega arith in
    record { key = rw none at c.loop-k.invariant; fits = tt }
