use Rattle.std.proofs.Common.{map, sym, subst}
use Rattle.std.specs.Prelude.{[]}
use Rattle.arena_base.specs.DetachedSlots.{IsPacked}
use Rattle.arena_base.specs.Slots.{entry_of, IsSound}
use Rattle.arena_base.proofs.SoundnessLemmas.{closed, walked_all}
use Rattle.arena_base.proofs.PackedSlotLemmas.{packed-within, packed-entries, packed-none_free, packed_sound}
use Rattle.arena_base.proofs.arena.Arena.return_packed.Goals.{After-pack-self-inside}
use Rattle.arena_base.proofs.arena.Arena.return_packed.Given.{Over}
use Rattle.arena_base.proofs.arena.Arena.return_packed.Goals as goal

pub truncate-requires : goal.truncate-requires
truncate-requires g c =
    packed-within c.args.count (g.S.SlotStack.items c.detached.inside.slots) (subst (λ h. IsPacked h.slots c.args.count) (sym c.detached.view_is) c.requires)

sound : (g : Over) (c : After-pack-self-inside g) → IsSound g.P.Inx.InxKey.packed_number (g.S.SlotStack.items c.truncate.new.self) g.P.Inx.InxKey.greatest c.args.count c.pack-self-inside.result []
sound g c =
    let items = g.S.SlotStack.items c.detached.inside.slots in
    rw c.truncate.ensures.items (packed_sound c.args.count items (subst (λ h. IsPacked h.slots c.args.count) (sym c.detached.view_is) c.requires) g.P.Inx.InxKey.packed_number g.P.Inx.InxKey.greatest _ c.pack-self-inside.ensures c.detached.invariant)

pub invariant_of-self : goal.invariant_of-self
invariant_of-self g c = closed g.P.Inx.InxKey.packed_number (sound g (goal.at.invariant_of-self g c).After-pack-self-inside)

pub returns : goal.returns
returns g c =
    let items = g.S.SlotStack.items c.detached.inside.slots in
    let packed = subst (λ h. IsPacked h.slots c.args.count) (sym c.detached.view_is) c.requires in
    rw (← c.self.view_is, ← c.detached.view_is, walked_all g.P.Inx.InxKey.packed_number (sound g (goal.at.returns g c).After-pack-self-inside), c.truncate.ensures.capacity, c.truncate.ensures.maximum, c.truncate.ensures.items, packed-entries c.args.count items packed, packed-none_free c.args.count (map entry_of items) packed)
