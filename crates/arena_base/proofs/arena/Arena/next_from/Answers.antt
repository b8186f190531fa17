use Rattle.std.proofs.Common.{◌+◌, ◌<◌, length, Option, None, Some, refl, ap, arith}
use Rattle.std.specs.Prelude.{IfSome}
use Rattle.std.proofs.lemmas.List.{length-map}
use Rattle.arena_base.specs.Slots.{entry_of}
use Rattle.arena_base.proofs.EntryRangeLemmas.{entries_from-past, entries_from-step, next_entry, next_entry-step}
use Rattle.arena_base.proofs.arena.Arena.next_from.Goals as goal

if_some : {R : Type 0} {X Z : R → Type 0} (o : Option R) → IfSome o X → ((r : R) → X r → Z r) → IfSome o Z
if_some None x so = tt
if_some (Some r) x so = so r x

pub returns-then-from-len : goal.returns-then-from-len
returns-then-from-len g c =
    let long = ap (λ a. length a.slots) c.self.view_is in
    record {
      none = entries_from-past c.args.self.now.slots _ c.args.from (omega (arith, long, length-map (g.S.SlotStack.items c.self.inside.slots) entry_of, c.len.ensures));
      some = tt;
      fits = tt;
    }

pub returns-in-Some : goal.returns-in-Some
returns-in-Some g c =
    let slots = c.args.self.now.slots in
    let long = ap (λ a. length a.slots) c.self.view_is in
    let below : c.args.from < length slots = omega (arith, long, length-map (g.S.SlotStack.items c.self.inside.slots) entry_of, c.len.ensures) in
    record {
      none = tt;
      some = next_entry slots c.args.from c.args.from _ (g.P.PtrKey.key c.in-Some.pair.0) c.in-Some.pair.1.now (omega arith) below refl c.in-Some.ensures.key c.in-Some.ensures.value;
      fits = omega (arith, below, long, length-map (g.S.SlotStack.items c.self.inside.slots) entry_of, g.met.S.SlotStack.has_capacity c.self.inside.slots, g.met.S.SlotStack.capacity_fits c.self.inside.slots);
    }

pub returns-in-None : goal.returns-in-None
returns-in-None g c =
    let slots = c.args.self.now.slots in
    let long = ap (λ a. length a.slots) c.self.view_is in
    let below : c.args.from < length slots = omega (arith, long, length-map (g.S.SlotStack.items c.self.inside.slots) entry_of, c.len.ensures) in
    let step = entries_from-step slots c.args.from (c.args.from + 1) (omega arith) below c.in-None.ensures.key in
    record {
      none = rw step c.search_from.ensures.none;
      some = if_some c.search_from.result c.search_from.ensures.some (λ e next. next_entry-step slots c.args.from (c.args.from + 1) e.0 (g.P.PtrKey.key e.1) e.2.now step next);
      fits = c.search_from.ensures.fits;
    }
