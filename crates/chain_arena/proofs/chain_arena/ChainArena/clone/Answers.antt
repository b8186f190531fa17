use Rattle.std.proofs.Common.{◌≡◌, ◌↔◌, Err, length, refl, ap, sym, ◌∙◌, subst, subst₂}
use Rattle.arena_core.specs.SlotStack.{IsBeyond}
use Rattle.arena_core.specs.declared.errors.ReallocationError.TheVariants as refused
use Rattle.arena_traits.specs.Arena.{Arena, new_arena, IsWithinReach, HasCapacityFor, ReachesCapacity}
use Rattle.arena_base.proofs.SlotCopyLemmas.{on_ok_is}
use Rattle.chain_arena.specs.LinkCopies.{ClonesOrRefuses}
use Rattle.chain_links.specs.ChainArena.{LinkView}
use Rattle.chain_links.specs.Links.{link_view, links_view}
use Rattle.chain_links.proofs.MappedArenaLemmas.{length-with_each}
use Rattle.chain_arena.proofs.InsertEntryLemmas.{ok_apart}
use Rattle.chain_arena.proofs.LinkCopyLemmas.{refuses_clone, clone_agrees, copied_at_rest, is_clone_of, no_capacity_needed}
use Rattle.chain_arena.proofs.chain_arena.ChainArena.clone.Goals as goal

pub returns-in-Err-clause-cloned : goal.returns-in-Err-clause-cloned
returns-in-Err-clause-cloned g c =
    let number = g.P.Inx.InxKey.packed_number in
    let source = c.self.inside.arena in
    let made = c.clone_from_by-done in
    let none = ap (λ a. a.maximum) (c.new-arena.ensures.implementation.none refl) in
    let may_reach = g.S.SlotStack.may_reach in
    let greatest = g.P.Inx.InxKey.greatest in
    let first = g.P.Gen.GenKey.first in
    let initial = g.S.SlotStack.initial_maximum in
    let why = c.in-Err.why in
    subst (λ a. ClonesOrRefuses may_reach greatest first initial a (Err why)) c.self.view_is
    (refuses_clone may_reach greatest first initial (links_view number source) made.result.0 why c.in-Err.is
    (subst₂ (λ most n. (made.result.0 ≡ Err refused.BeyondMaxCapacity) ↔ IsBeyond most n) none (sym (length-with_each (link_view number) source)) made.ensures.beyond))

pub returns-in-Err-clause-no_capacity : goal.returns-in-Err-clause-no_capacity
returns-in-Err-clause-no_capacity g c none =
    let made = c.clone_from_by-done in
    absurd (no_capacity_needed g.P.Inx.InxKey.packed_number _ g.P.PtrKey.key c.self.inside.arena made.result.0 c.in-Err.why c.new-arena.result.capacity c.in-Err.is (ap (λ a. a.slots) c.self.view_is ∙ none) made.ensures.within)

pub invariant_of-result : goal.invariant_of-result
invariant_of-result g c =
    let made = c.clone_from_by-done in
    let number = g.P.Inx.InxKey.packed_number in
    let copied = on_ok_is made.result.0 _ c.in-Ok.is made.ensures.copied in
    let slots = on_ok_is made.result.0 _ c.in-Ok.is made.ensures.slots in
    record {
      agree = clone_agrees number g.T.Clone.is_clone c.requires.clones_equal g.P.PtrKey.key _ made.result.1 c.self.inside.arena c.new-arena.result made.new.self copied slots c.self.invariant.agree;
      at_rest = copied_at_rest number (λ _ _ u t _. g.T.Clone.is_clone u.value t) (λ h. h) g.P.PtrKey.key _ made.result.1 c.self.inside.arena c.new-arena.result made.new.self copied slots;
    }

pub returns-in-Ok-clause-cloned : goal.returns-in-Ok-clause-cloned
returns-in-Ok-clause-cloned g c =
    let number = g.P.Inx.InxKey.packed_number in
    let first = g.P.Gen.GenKey.first in
    let most = g.S.SlotStack.initial_maximum in
    let greatest = g.P.Inx.InxKey.greatest in
    let may_reach = g.S.SlotStack.may_reach in
    let source = c.self.inside.arena in
    let made = c.clone_from_by-done in
    let none = c.new-arena.ensures.implementation.none refl in
    let same_length = sym (length-with_each (link_view number) source) in
    let empty : Arena g.row.P-Gen.Denot (LinkView g.row.T.Denot) = new_arena first most in
    let fits : HasCapacityFor greatest (length source.slots) made.new.self = on_ok_is made.result.0 _ c.in-Ok.is made.ensures.ok in
    let over = subst (λ a. IsWithinReach may_reach (length source.slots) a made.new.self) none made.ensures.reached in
    let known = subst₂ (λ most n. (made.result.0 ≡ Err refused.BeyondMaxCapacity) ↔ IsBeyond most n) (ap (λ a. a.maximum) none) same_length made.ensures.beyond in
    rw (← c.self.view_is) (
      is_clone_of number g.T.Clone.is_clone c.requires.clones_equal g.P.PtrKey.key _ made.result.1 source c.new-arena.result made.new.self
          (on_ok_is made.result.0 _ c.in-Ok.is made.ensures.copied) (on_ok_is made.result.0 _ c.in-Ok.is made.ensures.slots) first most none,
      subst (λ n. ReachesCapacity may_reach greatest n empty (links_view number made.new.self)) same_length (record { capacity = fits; reached = over }),
      λ beyond. absurd (ok_apart c.in-Ok.field-0 _ (sym c.in-Ok.is ∙ known.1 beyond)),
    )
