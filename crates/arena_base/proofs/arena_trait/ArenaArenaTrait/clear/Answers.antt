use Rattle.std.proofs.Common.{ap, ◌∙◌}
use Rattle.arena_traits.specs.Arena.{arena_after_clear}
use Rattle.arena_base.specs.Slots.{freed_of}
use Rattle.arena_traits.specs.Entries.{view_of}
use Rattle.arena_traits.proofs.ArenaViewLemmas.{length-entries, viewed_cleared}
use Rattle.arena_base.proofs.SoundnessLemmas.{none_sound}
use Rattle.arena_base.proofs.ArenaModelLemmas.{cleared_view}
use Rattle.arena_base.proofs.arena_trait.ArenaArenaTrait.clear.Goals as goal

pub invariant_of-self : goal.invariant_of-self
invariant_of-self g c = none_sound g.P.Inx.InxKey.packed_number _ g.P.Inx.InxKey.greatest _ c.pack-self-inside.ensures c.truncate.ensures.items

pub returns : goal.returns
returns g c =
    let following = g.P.Gen.GenKey.following in
    let inside = c.self.inside in
    let made = c.after_clear-generation.ensures in
    let after = cleared_view g.P.Inx.InxKey.packed_number (g.S.SlotStack.items inside.slots) (g.S.SlotStack.items c.truncate.new.self) c.pack-self-inside.result (freed_of g.P.Inx.InxKey.packed_number (g.S.SlotStack.items inside.slots) inside.first_free) inside.counter c.after_clear-generation.result.0 g.P.Inx.InxKey.greatest (g.S.SlotStack.capacity inside.slots) (g.S.SlotStack.capacity c.truncate.new.self) (g.S.SlotStack.maximum inside.slots) (g.S.SlotStack.maximum c.truncate.new.self) inside.placed.count inside.touched.count
    inside.len following c.truncate.ensures.items c.truncate.ensures.capacity c.truncate.ensures.maximum c.self.invariant.counted made.next ∙ ap (arena_after_clear following) c.self.view_is in
    record {
      outcome = record {
        after = ap view_of after ∙ viewed_cleared following c.args.self.now;
        overflow = rw (length-entries c.args.self.now, ← c.self.view_is, ← c.self.invariant.counted, ← made.overflow) c.from_overflow.ensures;
      };
      implementation = after;
    }
