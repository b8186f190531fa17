use Rattle.std.proofs.Common.{◌≡◌, ◌+◌, ℕ, true, Option, None, Some, refl, sym, ap, ◌∙◌, subst, length, arith, of_calls}
use Rattle.std.specs.Prelude.{is_some, IfSome}
use Rattle.std.specs.Option.{option_map}
use Rattle.arena_traits.specs.Arena.{Arena, next_index}
use Rattle.arena_traits.specs.Entries.{found}
use Rattle.chain_arena.specs.Transfers.{AreEnds}
use Rattle.chain_traits.proofs.GenericArenaLemmas.{links_within}
use Rattle.chain_arena.proofs.TransferLoopLemmas.{IsCarrying, carrying_begins, agrees_left, cursor_up, some_left, stored_on, carries_next_link, next_index_at, bounds_at, position_at, capacity_at, carries_link, carries_all}
use Rattle.chain_arena.proofs.transfer.transfer_links.Given.{Over}
use Rattle.chain_arena.proofs.transfer.transfer_links.Goals.{After-take_next-taken}
use Rattle.chain_arena.proofs.transfer.transfer_links.Goals as goal

stored : (g : Over) (a : g.row.A.Denot) (i : ℕ) → is_some (g.A.ChainArenaTrait.interlinks a i) ≡ is_some (found i (g.A.ArenaTrait.view a).entries)
stored g a i = g.met.A.ChainArenaTrait.links_are_entries a i ∙ ap is_some (sym ((g.A.ArenaTrait.state a).finds i))

stored_entry : (g : Over) (a : g.row.A.Denot) (on : Option g.row.Q-Inx.Denot) → IfSome on (λ j. is_some (found (g.Q.Inx.InxKey.number j) (g.A.ArenaTrait.view a).entries) ≡ true)
    → IfSome on (λ j. is_some (g.A.ArenaTrait.entry a (g.Q.Inx.InxKey.number j)) ≡ true)
stored_entry g a None there = tt
stored_entry g a (Some j) there = ap is_some (sym ((g.A.ArenaTrait.state a).finds (g.Q.Inx.InxKey.number j))) ∙ there

pub loop-k-init : goal.loop-k-init
loop-k-init g c =
    let source = c.args.source.now in
    record {
      callable = c.requires.callable;
      carrying = carrying_begins g.Q.PtrKey.key g.P.PtrKey.key g.Q.Gen.GenKey.following g.Q.Gen.GenKey.wraps g.F.FnMut g.P.Inx.InxKey.number (g.A.ArenaTrait.view source) (g.A.ChainArenaTrait.interlinks source) c.args.map c.args.target.now
          g.Q.Inx.InxKey.greatest (g.A.ArenaTrait.cursor c.advancer-advancer.result) _ c.agrees.ensures
          (links_within (g.A.ChainArenaTrait.interlinks source) (g.A.ArenaTrait.entry source) (g.A.ArenaTrait.view source).entries (g.met.A.ChainArenaTrait.links_are_entries source) (g.A.ArenaTrait.state source).finds g.Q.Inx.InxKey.greatest c.len-k-end.ensures.sound.indexes)
          c.requires.empty.0 c.advancer-advancer.ensures;
    }

pub take_next-taken-requires : goal.take_next-taken-requires
take_next-taken-requires g c = record {
  agree = agrees_left _ _ _ _ _ _ _ _ _ _ _ _ _ _ _ _ _ _ (stored g c.loop-k.source) _ c.loop-k.invariant.carrying;
  low = λ none. cursor_up _ _ _ _ _ _ _ _ _ _ _ _ _ _ _ _ _ _ (stored g c.loop-k.source) _ (ap (option_map g.Q.Inx.InxKey.number) none) c.loop-k.invariant.carrying (g.A.ArenaTrait.state c.loop-k.source).ascends;
  some = λ none. some_left _ _ _ _ _ _ _ _ _ _ _ _ _ _ _ _ _ _ (stored g c.loop-k.source) _ c.loop-k.invariant.carrying (omega (arith, c.loop-k-test.true, c.len-k-end.ensures.count));
  stored = stored_entry g c.loop-k.source c.loop-k.on (stored_on _ _ _ _ _ _ _ _ _ _ _ _ _ _ _ _ _ _ (stored g c.loop-k.source) g.Q.Inx.InxKey.number c.loop-k.on c.loop-k.invariant.carrying);
}

carrying_it : (g : Over) (c : After-take_next-taken g) → IsCarrying g.Q.PtrKey.key g.P.PtrKey.key g.Q.Gen.GenKey.following g.Q.Gen.GenKey.wraps g.F.FnMut g.P.Inx.InxKey.number
    (g.A.ArenaTrait.view c.args.source.now) (g.A.ChainArenaTrait.interlinks c.args.source.now) c.args.map c.args.target.now
    c.loop-k.k (g.A.ArenaTrait.view c.loop-k.source) (g.A.ChainArenaTrait.interlinks c.loop-k.source) (g.A.ArenaTrait.cursor c.take_next-taken.new.advancer)
    (Some (g.Q.PtrKey.key c.take_next-taken.result.ptr).0) c.take_next-taken.result.is_cyclic c.and-arranged.result c.loop-k.map c.loop-k.target
carrying_it g c =
    carries_next_link _ _ _ _ _ _ _ _ _ _ _ _ _ _ _ _ _ _ (stored g c.loop-k.source) g.Q.Inx.InxKey.number c.loop-k.on _ _ _ _ c.loop-k.invariant.carrying c.take_next-taken.ensures.order.continues c.take_next-taken.ensures.order.begins c.and-arranged.ensures

pub map-t-requires : goal.map-t-requires
map-t-requires g c = search of_calls

the_place : (g : Over) (c : After-take_next-taken g) → next_index c.loop-k.target ≡ c.loop-k.k + 1
the_place g c = next_index_at _ _ _ _ _ _ _ _ _ _ _ _ _ _ _ _ _ _ (stored g c.loop-k.source) _ (carrying_it g c) c.requires.empty.1

pub append_link-ends-requires-clause-ends : goal.append_link-ends-requires-clause-ends
append_link-ends-requires-clause-ends g c =
    let at = (goal.at.append_link-ends-requires-clause-ends g c).After-take_next-taken in
    let it = carrying_it g at in (
      length it.taken,
      bounds_at _ _ _ _ _ _ _ _ _ _ _ _ _ _ _ _ _ _ (stored g at.loop-k.source) _ it at.requires.empty.1,
      position_at _ _ _ _ _ _ _ _ _ _ _ _ _ _ _ _ _ _ (stored g at.loop-k.source) _ it at.requires.empty.1 _ _ refl refl,
    )

pub append_link-ends-requires-clause-capacity : goal.append_link-ends-requires-clause-capacity
append_link-ends-requires-clause-capacity g c =
    let at = (goal.at.append_link-ends-requires-clause-capacity g c).After-take_next-taken in
    capacity_at _ _ _ _ _ _ _ _ _ _ _ _ _ _ _ _ _ _ (stored g at.loop-k.source) _ (carrying_it g at) at.requires.empty.1 c.len-k-end.result c.loop-k-test.true
    (omega (arith, c.len-k-end.ensures.count, at.requires.empty.2))

pub append_link-ends-requires-clause-index : goal.append_link-ends-requires-clause-index
append_link-ends-requires-clause-index g c =
    let at = (goal.at.append_link-ends-requires-clause-index g c).After-take_next-taken in
    ap (λ (p : ℕ × _). p.0) c.pointer_at-to.ensures ∙ sym (the_place g at)

pub loop-k-preserved : goal.loop-k-preserved
loop-k-preserved g c =
    let at = (goal.at.loop-k-preserved g c).After-take_next-taken in
    let it = carrying_it g at in
    let bounds = bounds_at _ _ _ _ _ _ _ _ _ _ _ _ _ _ _ _ _ _ (stored g at.loop-k.source) _ it at.requires.empty.1 in
    let arranged = c.append_link-ends.ensures.arranged (length it.taken) bounds in
    let was_stored = (g.A.ArenaTrait.state c.loop-k.source).finds (g.Q.PtrKey.key c.take_next-taken.result.ptr).0 ∙ c.take_next-taken.ensures.taken.was_stored in
    record {
      callable = search of_calls;
      carrying = carries_link _ _ _ _ _ _ _ _ _ _ _ _ _ _ _ _ _ _ (stored g at.loop-k.source) _ it at.requires.empty.1 c.append_link-ends.ensures.listed
          c.take_next-taken.result.ptr c.take_next-taken.result.value c.pointer_at-to.result c.map-t.result _ was_stored refl
          (c.pointer_at-to.ensures ∙ ap (λ n. (c.loop-k.k + 1, n)) c.generation-generation.ensures) c.map-t.ensures
          (agrees_left _ _ _ _ _ _ _ _ _ _ _ _ _ _ _ _ _ _ (stored g at.loop-k.source) _ it) _ _ _ _ _ c.take_next-taken.ensures.taken.overflow c.take_next-taken.ensures.taken.next c.take_next-taken.ensures.taken.view_after c.take_next-taken.ensures.taken.links arranged.0
          (subst (λ n. AreEnds g.P.Inx.InxKey.number c.append_link-ends.result (length it.taken + 1) (n + 1)) (the_place g at) arranged.1);
    }

pub returns : goal.returns
returns g c =
    let carrying = c.loop-k.invariant.carrying in record {
      transferred = carries_all _ _ _ _ _ _ _ _ _ _ _ _ _ _ _ _ _ _ (stored g c.loop-k.source) _ carrying c.requires.empty.1 (omega (arith, c.loop-k-test.false, c.len-k-end.ensures.count));
      capacity = (ap (λ (a : Arena _ _). a.capacity) carrying.landed.state, ap (λ (a : Arena _ _). a.stack_capacity) carrying.landed.state);
    }
