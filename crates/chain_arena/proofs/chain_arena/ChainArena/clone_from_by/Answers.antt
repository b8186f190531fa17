use Rattle.std.proofs.Common.{◌≡◌, ◌↔◌, ◌≤◌, Err, OnOk, ap, length, subst, sym}
use Rattle.arena_core.specs.SlotStack.{IsBeyond}
use Rattle.arena_core.specs.declared.errors.ReallocationError.TheVariants as refused
use Rattle.arena_traits.specs.Arena.{HasCapacityFor, IsWithinReach}
use Rattle.arena_base.proofs.SlotCopyLemmas.{either_as, on_err_either, on_ok_both}
use Rattle.chain_links.specs.Links.{link_view, links_view, AreAtRest, IsChainArena}
use Rattle.chain_links.proofs.RestLemmas.{nothing_at_rest}
use Rattle.chain_links.proofs.MappedArenaLemmas.{length-with_each}
use Rattle.chain_arena.specs.LinkCopies.{MakesOf}
use Rattle.chain_arena.proofs.LinkCopyLemmas.{agrees_copied, copied_at_rest, copies_or_refuses, either_way, copy_abandoned_agrees, link_copied, on_ok_three, refusable_viewed}
use Rattle.chain_arena.proofs.chain_arena.ChainArena.clone_from_by.Goals as goal

pub invariant_of-self : goal.invariant_of-self
invariant_of-self g c =
    let number = g.P.Inx.InxKey.packed_number in
    let source = c.source.inside.arena in
    let old = c.self.inside.arena in
    let called = c.clone_from_by-done in
    let new = called.new.self in
    let makes = MakesOf (link_view number) g.M.ValueMap.makes in
    either_way called.result.0
    (λ made has. record {
      agree = agrees_copied number makes (λ m. m.values) g.P.PtrKey.key _ called.result.1 source old new made has c.source.invariant.agree;
      at_rest = copied_at_rest number makes (λ m. m.values) g.P.PtrKey.key _ called.result.1 source old new made has;
    })
    (λ same. subst (IsChainArena number) (sym same.0) c.self.invariant)
    (λ gave_up. record {
      agree = copy_abandoned_agrees (links_view number old) (links_view number new) (ap (links_view number) gave_up.1);
      at_rest = subst (λ a. AreAtRest number a.slots) (sym gave_up.1) (nothing_at_rest number);
    })
    called.ensures.copied called.ensures.slots called.ensures.err

pub returns-clause-copied : goal.returns-clause-copied
returns-clause-copied g c =
    let number = g.P.Inx.InxKey.packed_number in
    let source = c.source.inside.arena in
    let old = c.self.inside.arena in
    let called = c.clone_from_by-done in
    let made = called.ensures in
    let same_length = length-with_each (link_view number) source in
    rw (← c.source.view_is, ← c.self.view_is)
    (copies_or_refuses _ _ (length (links_view number source).slots) old.capacity old.maximum called.result.0
    (λ few. either_as (refusable_viewed number g.M.ValueMap.may_refuse g.P.PtrKey.key source) (made.within (subst (λ n. n ≤ old.capacity) same_length few)))
    (subst (λ n. (called.result.0 ≡ Err refused.BeyondMaxCapacity) ↔ IsBeyond old.maximum n) (sym same_length) made.beyond)
    (λ is. let same = made.unchanged is in (ap (links_view number) same.0, ap (λ m. m.values) same.1))
    (on_ok_three called.result.0 (λ fits copied ready. (fits, copied, ready)) (subst (λ n. OnOk called.result.0 (HasCapacityFor g.P.Inx.InxKey.greatest n called.new.self)) (sym same_length) made.ok)
    (on_ok_both called.result.0 (link_copied number (MakesOf (link_view number) g.M.ValueMap.makes) (λ m. m.values) g.P.PtrKey.key _ called.result.1 source old called.new.self) made.copied made.slots) made.ready)
    (on_err_either called.result.0 (λ same. (ap (links_view number) same.0, ap (λ m. m.values) same.1))
    (λ gave_up. (refusable_viewed number g.M.ValueMap.may_refuse g.P.PtrKey.key source gave_up.0, ap (links_view number) gave_up.1)) made.err))

pub returns-clause-capacity : goal.returns-clause-capacity
returns-clause-capacity g c =
    let made = c.clone_from_by-done.ensures in
    rw (← c.source.view_is, ← c.self.view_is)
    (made.never_less, λ few. (made.within (subst (λ n. n ≤ c.self.inside.arena.capacity) (length-with_each (link_view g.P.Inx.InxKey.packed_number) c.source.inside.arena) few)).1)

pub returns-clause-reached : goal.returns-clause-reached
returns-clause-reached g c =
    let number = g.P.Inx.InxKey.packed_number in
    let source = c.source.inside.arena in
    rw (← c.source.view_is, ← c.self.view_is)
    (subst (λ n. IsWithinReach g.S.SlotStack.may_reach n c.self.inside.arena c.clone_from_by-done.new.self) (sym (length-with_each (link_view number) source)) c.clone_from_by-done.ensures.reached)
