use Rattle.std.proofs.Common.{ℕ, refl, ap, arith}
use Rattle.arena_core.specs.SlotStack.{IsWithinMaximum}
use Rattle.arena_base.specs.Slots.{arena_of, freed_of}
use Rattle.arena_base.proofs.SlotCopyLemmas.{on_ok, on_err}
use Rattle.arena_base.proofs.SlotPartitionLemmas.{capacity_for}
use Rattle.arena_base.proofs.ArenaGrowthLemmas.{stack_reach, grows_for}
use Rattle.arena_base.proofs.arena.Arena.grow_to.Goals as goal

pub returns : goal.returns
returns g c =
    let greatest = g.P.Inx.InxKey.greatest in
    let inside = c.self.inside in
    let items = g.S.SlotStack.items inside.slots in
    let new = c.reserve_to.new.self in
    let grown = c.reserve_to.ensures in
    let within : IsWithinMaximum (g.S.SlotStack.maximum inside.slots) (g.S.SlotStack.capacity new) = rw (← grown.maximum) (g.met.S.SlotStack.within_maximum new) in
    let reached = stack_reach c.reserve_to.result grown.within grown.reached grown.refused in
    let arena_within = λ (capacity : ℕ). arena_of items (freed_of g.P.Inx.InxKey.packed_number items inside.first_free) inside.counter greatest capacity (g.S.SlotStack.maximum inside.slots) inside.placed.count inside.touched.count in
    rw (← c.self.view_is, grown.items, grown.maximum) (record {
      outcome = grows_for g.S.SlotStack.may_reach greatest c.args.n (arena_within (g.S.SlotStack.capacity inside.slots)) (arena_within (g.S.SlotStack.capacity new)) c.reserve_to.result
          (λ few. (grown.within (omega (arith, few))).0) grown.beyond
          (on_ok c.reserve_to.result (λ fits. record {
            state = refl;
            capacity = record {
              capacity = (capacity_for greatest c.args.n (g.S.SlotStack.capacity new) (g.S.SlotStack.maximum inside.slots) fits (omega (arith, c.greatest.ensures.value)) within, refl, within);
              reached = reached;
            };
            within = λ few. ap arena_within (grown.within (omega (arith, few))).1;
          }) grown.grown);
      err = on_err c.reserve_to.result (ap arena_within) grown.refused;
    })
