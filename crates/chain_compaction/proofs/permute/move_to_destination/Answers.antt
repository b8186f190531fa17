use Rattle.std.proofs.Common.{◌≡◌, ℕ, Bool, true, false, Some, refl, sym, ap, ◌∙◌, subst, arith}
use Rattle.std.specs.Prelude.{not}
use Rattle.std.specs.Option.{option_map}
use Rattle.arena_traits.specs.Arena.{slot_at}
use Rattle.arena_base.specs.DetachedSlots.{with_placed_entry}
use Rattle.chain_compaction.specs.Permutations.{HasDestination, IsSettling, waiting_count, Settles, IsWorkOn}
use Rattle.chain_compaction.proofs.PermutationStepLemmas.{settling_begins, from_within, to_within, entry_there, one_less_after, settles_after, fewer_after, none_after, capacity_after, maximum_after, none_waits}
use Rattle.chain_compaction.proofs.PermutationLoopLemmas.{work_on-moves, work_on-reads, work_on-either}
use Rattle.chain_compaction.proofs.WorkCountLemmas.{counts_place, counts_on, slots_detached}
use Rattle.chain_compaction.proofs.permute.move_to_destination.Given.{Over}
use Rattle.chain_compaction.proofs.permute.move_to_destination.Goals.{In-Some}
use Rattle.chain_compaction.proofs.permute.move_to_destination.Goals as goal
use Rattle.chain_links.specs.Links.{destination_of, destination_at}

destination_is : (g : Over) (c : In-Some g) → Some (g.P.Inx.InxKey.number c.in-Some.to) ≡ destination_at g.P.Inx.InxKey.packed_number c.args.compactor.now.detached.slots (g.P.Inx.InxKey.number c.args.i)
destination_is g c = sym (ap (option_map g.P.Inx.InxKey.number) c.in-Some.is) ∙ c.read_link.ensures.destination

pub place-requires-clause-from : goal.place-requires-clause-from
place-requires-clause-from g c =
    let old = c.args.compactor.now.detached in
    rw c.read_link.ensures.was_read.detached (from_within g.P.Inx.InxKey.packed_number c.args.generation _ _ old old old (destination_is g (goal.at.place-requires-clause-from g c).In-Some) c.requires.within)

pub place-requires-clause-to : goal.place-requires-clause-to
place-requires-clause-to g c =
    let old = c.args.compactor.now.detached in
    rw c.read_link.ensures.was_read.detached (to_within g.P.Inx.InxKey.packed_number c.args.generation _ _ old old old (destination_is g (goal.at.place-requires-clause-to g c).In-Some) c.requires.within)

pub place-requires-clause-entry : goal.place-requires-clause-entry
place-requires-clause-entry g c =
    let old = c.args.compactor.now.detached in
    rw c.read_link.ensures.was_read.detached (entry_there g.P.Inx.InxKey.packed_number c.args.generation _ _ old old old (destination_is g (goal.at.place-requires-clause-entry g c).In-Some) c.requires.within)

pub overflow_sub-unplaced : goal.overflow_sub-unplaced
overflow_sub-unplaced g c =
    let old = c.args.compactor.now.detached in
    let moved = c.place.ensures.detached ∙ ap (λ h. with_placed_entry h (g.P.Inx.InxKey.number c.args.i) (g.P.Inx.InxKey.number c.in-Some.to) c.args.generation) c.read_link.ensures.was_read.detached in
    omega (arith, c.requires.unplaced, one_less_after g.P.Inx.InxKey.packed_number c.args.generation _ _ old c.place.new.self.detached c.remove_destination_at.new.compactor.detached (destination_is g (goal.at.overflow_sub-unplaced g c).In-Some) c.requires.within moved c.remove_destination_at.ensures.directed)

not_false : (b : Bool) → not b ≡ false → b ≡ true
not_false true is = refl
not_false false is = cc

pub returns-in-Some : goal.returns-in-Some
returns-in-Some g c =
    let packed_number = g.P.Inx.InxKey.packed_number in
    let target = destination_of packed_number in
    let i = g.P.Inx.InxKey.number c.args.i in
    let d = g.P.Inx.InxKey.number c.in-Some.to in
    let old = c.args.compactor.now in
    let read = c.read_link.new.compactor in
    let was_read = c.read_link.ensures.was_read in
    let placed = c.place.new.self in
    let after = c.remove_destination_at.new.compactor in
    let emptied = c.remove_destination_at.ensures in
    let is : Some d ≡ destination_at packed_number old.detached.slots i
    = sym (ap (option_map g.P.Inx.InxKey.number) c.in-Some.is) ∙ c.read_link.ensures.destination in
    let moved : placed.detached ≡ with_placed_entry old.detached i d c.args.generation
    = c.place.ensures.detached ∙ ap (λ h. with_placed_entry h i d c.args.generation) was_read.detached in
    let less = one_less_after packed_number c.args.generation i d old.detached placed.detached after.detached is c.requires.within moved emptied.directed in
    record {
      settles = settles_after packed_number c.args.generation i d old.detached placed.detached after.detached is c.requires.within moved emptied.directed;
      none = none_after packed_number c.args.generation i d old.detached placed.detached after.detached is c.requires.within moved emptied.directed (not c.is_same.result)
          (λ is. ap g.P.Inx.InxKey.number ((g.met.P.Inx.InxKey.same_is_equal c.in-Some.to c.args.i).0 (sym c.is_same.ensures ∙ not_false c.is_same.result is)));
      fewer = fewer_after packed_number c.args.generation i d old.detached placed.detached after.detached is c.requires.within moved emptied.directed (not c.is_same.result);
      kept = record {
        capacity = capacity_after packed_number c.args.generation i d old.detached placed.detached after.detached is c.requires.within moved emptied.directed;
        maximum = maximum_after packed_number c.args.generation i d old.detached placed.detached after.detached is c.requires.within moved emptied.directed;
        counts = counts_on old placed after (counts_on old read placed was_read.counts
            (counts_place read placed c.place.ensures.same_reference c.place.ensures.arena c.place.ensures.placed c.place.ensures.touched)) emptied.touched.counts;
      };
      work = work_on-either old.arena.now after.arena.now (waiting_count target old.detached.slots) (waiting_count target after.detached.slots) (not c.is_same.result)
          (work_on-moves old.arena.now read.arena.now placed.arena.now after.arena.now (waiting_count target old.detached.slots) (waiting_count target after.detached.slots) was_read.arena c.place.ensures.arena emptied.touched.arena less);
      unplaced = omega (arith, c.requires.unplaced, less);
    }

pub returns-in-None : goal.returns-in-None
returns-in-None g c =
    let packed_number = g.P.Inx.InxKey.packed_number in
    let target = destination_of packed_number in
    let i = g.P.Inx.InxKey.number c.args.i in
    let read = c.read_link.ensures in
    let old = c.args.compactor.now in
    let after = c.read_link.new.compactor in
    let kept : after.detached ≡ old.detached = read.was_read.detached in
    let slots = ap (λ h. h.slots) kept in
    record {
      settles = subst (IsSettling target (Settles packed_number c.args.generation) (λ (j : ℕ). j ≡ i) old.detached.slots) (sym slots)
          (settling_begins target (Settles packed_number c.args.generation) (λ (j : ℕ). j ≡ i) old.detached.slots);
      none = subst (λ s. (d : ℕ) (e : _) → HasDestination target (slot_at s) i e d → ⊥) (sym slots)
          (none_waits target old.detached.slots i (sym (ap (option_map g.P.Inx.InxKey.number) c.in-None.is) ∙ read.destination));
      fewer = tt;
      kept = slots_detached old after kept read.was_read.counts;
      work = subst (λ s. IsWorkOn old.arena.now after.arena.now (waiting_count target old.detached.slots) (waiting_count target s) 1) (sym slots) (work_on-reads old.arena.now after.arena.now (waiting_count target old.detached.slots) read.was_read.arena);
      unplaced = c.requires.unplaced ∙ ap (waiting_count target) (sym slots);
    }
