use Rattle.std.proofs.Common.{◌≤◌, length, map, refl, arith}
use Rattle.std.proofs.lemmas.List.{length-map}
use Rattle.arena_base.specs.Slots.{entry_of}
use Rattle.arena_base.proofs.FreeListLemmas.{listed}
use Rattle.arena_base.proofs.SlotPartitionLemmas.{entries_within, they_fill, capacity_for}
use Rattle.arena_traits.proofs.ArenaViewLemmas.{length-entries_from}
use Rattle.arena_base.proofs.arena_trait.ArenaArenaTrait.len.Goals as goal

pub returns : goal.returns
returns g c =
    let greatest = g.P.Inx.InxKey.greatest in
    let inside = c.self.inside in
    let slots = inside.slots in
    let items = g.S.SlotStack.items slots in
    let capacity = g.S.SlotStack.capacity slots in
    let sound = c.self.invariant in
    let many = length-map items entry_of in
    let within : length items ≤ capacity = g.met.S.SlotStack.has_capacity slots in
    let are_listed = listed g.P.Inx.InxKey.packed_number sound inside.counter capacity (g.S.SlotStack.maximum slots) inside.placed.count inside.touched.count in
    let all = map entry_of items in
    rw (← c.self.view_is) (record {
      count = rw (length-entries_from 1 all) sound.counted;
      sound = record {
        fits = rw (length-entries_from 1 all) (omega (arith, sound.total, sound.counted, sound.fits, within));
        one_more = rw (length-entries_from 1 all) (omega (arith, sound.total, sound.counted, within, g.met.S.SlotStack.capacity_fits slots));
        indexes = entries_within all greatest (omega (arith, sound.fits, many));
        filled = they_fill _ are_listed _ _;
      };
      entries = sound.counted;
      listed = are_listed;
      capacity = (capacity_for greatest _ capacity (g.S.SlotStack.maximum slots) (omega (arith, many, within)) (omega (arith, many, sound.fits)) (g.met.S.SlotStack.within_maximum slots), refl, g.met.S.SlotStack.within_maximum slots);
    })
