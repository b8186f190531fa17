use Rattle.std.proofs.Common.{refl, ap, ◌∙◌, Some}
use Rattle.arena_base.proofs.SlotLemmas.{slice_index_or-map}
use Rattle.arena_base.proofs.arena.Arena.pair_at.Goals as goal

pub returns-in-None : goal.returns-in-None
returns-in-None g c = rw (← c.self.view_is, slice_index_or-map (g.S.SlotStack.items c.self.inside.slots) c.args.k, ← c.in-None.ensures) (record { key = refl; value = refl })

pub returns-in-Some-Allocated : goal.returns-in-Some-Allocated
returns-in-Some-Allocated g c = rw (← c.self.view_is, slice_index_or-map (g.S.SlotStack.items c.self.inside.slots) c.args.k, ← c.in-Some-Allocated.ensures, c.in-Some-Allocated.field-0-is) (record {
  key = ap Some (c._from_raw.ensures ∙ ap (λ n. (n, c.in-Some-Allocated.generation)) c.inx_at.ensures);
  value = refl;
})

pub returns-in-Some-Free : goal.returns-in-Some-Free
returns-in-Some-Free g c = rw (← c.self.view_is, slice_index_or-map (g.S.SlotStack.items c.self.inside.slots) c.args.k, ← c.in-Some-Free.ensures, c.in-Some-Free.field-0-is) (record { key = refl; value = refl })
