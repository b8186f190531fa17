use Rattle.std.proofs.Common.{◌≡◌, ◌↔◌, ◌≤◌, Err, OnOk, length, refl, subst, sym}
use Rattle.std.proofs.lemmas.Result.{on_ok_weaker}
use Rattle.arena_core.specs.SlotStack.{IsBeyond}
use Rattle.arena_core.specs.declared.errors.ReallocationError.TheVariants as refused
use Rattle.arena_traits.specs.Arena.{IsCapacityFor}
use Rattle.arena_base.proofs.SlotCopyLemmas.{either_as, on_err_either}
use Rattle.chain_links.specs.Links.{link_view, links_view}
use Rattle.chain_links.proofs.MappedArenaLemmas.{length-with_each}
use Rattle.chain_arena.proofs.LinkCopyLemmas.{copies_or_refuses, copy_as_viewed, on_ok_four, refusable_viewed}
use Rattle.chain_arena.proofs.chain_arena.ChainArena.clone_to_arena_by.Goals as goal

pub returns-clause-copied : goal.returns-clause-copied
returns-clause-copied g c =
    let number = g.P.Inx.InxKey.packed_number in
    let links = c.self.inside.arena in
    let called = c.clone_from_by in
    let made = called.ensures in
    let old = g.A.ArenaTrait.view c.args.arena.now in
    let new = g.A.ArenaTrait.view called.new.self in
    let same_length = length-with_each (link_view number) links in
    rw (← c.self.view_is)
    (copies_or_refuses _ _ (length (links_view number links).slots) old.capacity old.maximum called.result.0
    (λ few. either_as (refusable_viewed number g.M.ValueMap.may_refuse g.P.PtrKey.key links) (made.within (subst (λ n. n ≤ old.capacity) same_length few)))
    (subst (λ n. (called.result.0 ≡ Err refused.BeyondMaxCapacity) ↔ IsBeyond old.maximum n) (sym same_length) made.beyond)
    made.unchanged
    (on_ok_four called.result.0 (λ fits copied ready below. (fits, copied, ready, below)) (subst (λ n. OnOk called.result.0 (IsCapacityFor g.P.Inx.InxKey.greatest new.maximum n new.capacity)) (sym same_length) made.ok)
    (on_ok_weaker called.result.0 (copy_as_viewed number g.M.ValueMap.makes g.P.PtrKey.key c.args.values called.result.1 links _ _) made.copied)
    made.ready
    (on_ok_weaker called.result.0 (λ copied. record { links = links; view_after = refl; copied = copied }) made.implementation))
    (on_err_either called.result.0 (λ same. same)
    (λ gave_up. (refusable_viewed number g.M.ValueMap.may_refuse g.P.PtrKey.key links gave_up.0, gave_up.1)) made.err))

pub returns-clause-capacity : goal.returns-clause-capacity
returns-clause-capacity g c =
    let made = c.clone_from_by.ensures in
    rw (← c.self.view_is)
    (made.never_less, λ few. (made.within (subst (λ n. n ≤ (g.A.ArenaTrait.view c.args.arena.now).capacity) (length-with_each (link_view g.P.Inx.InxKey.packed_number) c.self.inside.arena) few)).1)
