use Rattle.std.proofs.Common.{ap}
use Rattle.arena_base.specs.Slots.{arena_of, freed_of}
use Rattle.arena_base.proofs.SlotCopyLemmas.{on_ok, on_err}
use Rattle.arena_base.proofs.arena.ArenaSetMaxCapacity.set_max_capacity.Goals as goal

pub returns : goal.returns
returns g c =
    let inside = c.self.inside in
    let made = c.set_max_capacity.ensures in
    rw (← c.self.view_is) (record {
      variant = rw (← g.met.S.LimitStack.same_capacity inside.slots) made.variant;
      ok = on_ok c.set_max_capacity.result (λ limits. let only = g.met.S.LimitStack.limited inside.slots c.set_max_capacity.new.self c.args.n limits in rw (only.0, only.1, only.2)) made.ok;
      err = on_err c.set_max_capacity.result (λ same. ap (λ slots. arena_of (g.S.SlotStack.items slots) (freed_of g.P.Inx.InxKey.packed_number (g.S.SlotStack.items slots) inside.first_free) inside.counter g.P.Inx.InxKey.greatest (g.S.SlotStack.capacity slots) (g.S.SlotStack.maximum slots) inside.placed.count inside.touched.count) same) made.err;
    })
