use Rattle.std.proofs.Common.{◌<◌, length, ap, ◌∙◌, arith}
use Rattle.std.specs.Prelude.{slice_get, slice_set}
use Rattle.std.proofs.lemmas.List.{length-set}
use Rattle.arena_base.specs.Slots.{allocated_slot, free_slot, entry_in}
use Rattle.arena_base.proofs.SlotLemmas.{slice_get-set-other, slice_get-below, the_value, allocated-at}
use Rattle.arena_base.proofs.ExchangeLemmas.{set_thrice, same_entry}
use Rattle.arena_base.proofs.exchange.exchange_values_at.Goals as goal

pub write_at-requires : goal.write_at-requires
write_at-requires g c =
    let items = g.S.SlotStack.items c.args.slots.now in
    let k = c.args.k in
    let m = c.args.m in
    let first = allocated-at (slice_get items k) c.in-Some.entry c.in-Some.ensures.entry in
    let f = the_value (entry_in (slice_get items m)) c.requires.second in
    let second = allocated-at (slice_get items m) f.0 f.1 in
    let freed = c.in-Some.ensures.some in
    let kept = ap (λ is. slice_get is m) freed ∙ (slice_get-set-other items k m (free_slot c.pack.result) c.requires.apart ∙ second) in
    let written = (c.replace_value_at-u.ensures.items f.0.0 f.0.1 kept).1 in
    let below : k < length items = slice_get-below items k _ first in
    let once = length-set items k (free_slot c.pack.result) in
    let twice = length-set (slice_set items k (free_slot c.pack.result)) m (allocated_slot f.0.0 c.in-Some.entry.1) in
    rw (written, freed) (omega (arith, below, once, twice))

pub returns : goal.returns
returns g c = record {
  items = λ a b t u first second.
      let items = g.S.SlotStack.items c.args.slots.now in
      let k = c.args.k in
      let m = c.args.m in
      let freed = c.in-Some.ensures.some in
      let e = same_entry c.in-Some.entry a t (c.in-Some.ensures.entry ∙ ap entry_in first) in
      let kept = ap (λ is. slice_get is m) freed ∙ (slice_get-set-other items k m (free_slot c.pack.result) c.requires.apart ∙ second) in
      let replaced = c.replace_value_at-u.ensures.items b u kept in
      rw (c.write_at.ensures.items, replaced.1, replaced.0, freed, e.0, e.1) (set_thrice items k m (free_slot c.pack.result) (allocated_slot b t) (allocated_slot a u) c.requires.apart);
  bounds = (c.write_at.ensures.bounds.0 ∙ (c.replace_value_at-u.ensures.bounds.0 ∙ c.vacate_at.ensures.bounds.0), c.write_at.ensures.bounds.1 ∙ (c.replace_value_at-u.ensures.bounds.1 ∙ c.vacate_at.ensures.bounds.1));
}
