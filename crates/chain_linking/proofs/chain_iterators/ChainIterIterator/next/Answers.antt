use Rattle.std.proofs.Common.{of_calls, arith, ◌≡◌, ℕ, ◌<◌, List, ◌∷◌, length, None, Some, ap, ap₂, sym, ◌∙◌}
use Rattle.std.specs.Prelude.{◌-◌}
use Rattle.std.specs.Option.{option_map}
use Rattle.std.proofs.lemmas.Bool.{false≢true}
use Rattle.arena_traits.specs.Arena.{entry_at}
use Rattle.chain_laws.proofs.InterlinkLemmas.Inverses.{one_some}
use Rattle.chain_links.specs.ChainArena.{LinkView}
use Rattle.chain_links.specs.Links.{link_view, links_view}
use Rattle.chain_links.specs.Walkers.{index_and_entry, links_ahead}
use Rattle.chain_linking.proofs.WalkerLemmas.{behind_stored, nowhere, passes_back, read_some, onward_stored, passes_last, passes_on}
use Rattle.chain_linking.proofs.chain_iterators.ChainIterIterator.next.Goals.{then-is_index, else-is_index}
use Rattle.chain_linking.proofs.chain_iterators.ChainIterIterator.next.Goals as goal

shorter : {X : Type 0} (x : X) (s t : List X) → s ≡ x ∷ t → length t < length s
shorter x s t is = let h = ap length is in omega (arith, h)

pub returns-then-self-eq0-clause-steps : goal.returns-then-self-eq0-clause-steps
returns-then-self-eq0-clause-steps g c =
    let it = c.self.inside in
    let ended = sym c.self.view_is ∙ ap (λ n. links_ahead (links_view g.P.Inx.InxKey.packed_number it.arena.now) n (g.P.Inx.InxKey.number it.start) (option_map g.P.Inx.InxKey.number it.forward) (option_map g.P.Inx.InxKey.number it.back)) c.if-self-eq0.true in
    (ended, ended)

pub invariant_of-self : goal.invariant_of-self
invariant_of-self g c =
    let number = g.P.Inx.InxKey.number in
    let packed = g.P.Inx.InxKey.packed_number in
    let i = number c.in-Some.i in
    let link = c.in-Some-lookup.item.1.now in
    let named : option_map number c.next-self-inside.result ≡ packed link.next = search of_calls in
    rw named (onward_stored (links_view packed c.self.inside.arena.now) i (option_map number c.self.inside.back) ((g.P.PtrKey.key c.in-Some-lookup.item.0).1, link_view packed link)
    (read_some i _ _ _ c.in-Some-lookup.ensures.link) c.self.invariant.agrees c.self.invariant.behind)

pub invariant_of-self-else-is_index : goal.invariant_of-self-else-is_index
invariant_of-self-else-is_index g c =
    let number = g.P.Inx.InxKey.number in
    let packed = g.P.Inx.InxKey.packed_number in
    let i = number c.in-Some.i in
    let link = c.in-Some-lookup.item.1.now in
    let named : option_map number c.next-self-inside.result ≡ packed link.next = search of_calls in
    rw named (onward_stored (links_view packed c.self.inside.arena.now) i (option_map number c.self.inside.back) ((g.P.PtrKey.key c.in-Some-lookup.item.0).1, link_view packed link)
    (read_some i _ _ _ c.in-Some-lookup.ensures.link) c.self.invariant.agrees c.self.invariant.behind)

pub invariant_of-self-in-Some-lookup-2 : goal.invariant_of-self-in-Some-lookup-2
invariant_of-self-in-Some-lookup-2 g c =
    let number = g.P.Inx.InxKey.number in
    let packed = g.P.Inx.InxKey.packed_number in
    let a = links_view packed c.self.inside.arena.now in
    let i = number c.in-Some-back.i in
    let link = c.in-Some-lookup-2.item.1.now in
    let named : option_map number c.prev-self-inside.result ≡ packed link.prev = search of_calls in
    rw (c.in-None.is, named)
    (behind_stored a i ((g.P.PtrKey.key c.in-Some-lookup-2.item.0).1, link_view packed link)
    (read_some i _ _ _ c.in-Some-lookup-2.ensures.link) c.self.invariant.agrees)

pub returns-after-is_index-clause-steps : goal.returns-after-is_index-clause-steps
returns-after-is_index-clause-steps g c =
    let number = g.P.Inx.InxKey.number in
    let packed = g.P.Inx.InxKey.packed_number in
    let a = links_view packed c.self.inside.arena.now in
    let start = number c.self.inside.start in
    let back = option_map number c.self.inside.back in
    let left = c.self.inside.left in
    let i = number c.in-Some.i in
    let link = c.in-Some-lookup.item.1.now in
    let next = option_map number c.next-self-inside.result in
    let e : g.row.P-Gen.Denot × LinkView g.row.T.Denot = ((g.P.PtrKey.key c.in-Some-lookup.item.0).1, link_view packed link) in
    let named : next ≡ packed link.next = search of_calls in
    let stored : entry_at a i ≡ Some e = read_some i _ _ _ c.in-Some-lookup.ensures.link in
    let item : (let x : ℕ × (g.row.P-Gen.Denot × LinkView g.row.T.Denot) = ((g.P.PtrKey.key c.in-Some-lookup.item.0).0, e) in x) ≡ (i, e) =
    one_some (c.in-Some-lookup.ensures.link ∙ ap (option_map (index_and_entry i)) stored) in
    sym c.self.view_is ∙ rw c.in-Some.is (elim c.if-is_index.branch [
      | then-is_index w ↦
          rw w.self-is (passes_last a start i back e stored left next c.if-self-eq0.false named (c.is_index.ensures.0 w.if-is_index.true) ∙ ap (λ x. x ∷ links_ahead a 0 start next back) (sym item))
      | else-is_index w ↦
          rw w.self-is (passes_on a start i back e stored left next c.if-self-eq0.false named (λ same. false≢true (sym w.if-is_index.false ∙ c.is_index.ensures.1 same)) ∙ ap (λ x. x ∷ links_ahead a (left - 1) start next back) (sym item))
    ])

pub returns-in-Some-lookup-2-clause-steps : goal.returns-in-Some-lookup-2-clause-steps
returns-in-Some-lookup-2-clause-steps g c =
    let number = g.P.Inx.InxKey.number in
    let packed = g.P.Inx.InxKey.packed_number in
    let a = links_view packed c.self.inside.arena.now in
    let start = number c.self.inside.start in
    let left = c.self.inside.left in
    let i = number c.in-Some-back.i in
    let link = c.in-Some-lookup-2.item.1.now in
    let prev = option_map number c.prev-self-inside.result in
    let e : g.row.P-Gen.Denot × LinkView g.row.T.Denot = ((g.P.PtrKey.key c.in-Some-lookup-2.item.0).1, link_view packed link) in
    let stored : entry_at a i ≡ Some e = read_some i _ _ _ c.in-Some-lookup-2.ensures.link in
    let item : (let x : ℕ × (g.row.P-Gen.Denot × LinkView g.row.T.Denot) = ((g.P.PtrKey.key c.in-Some-lookup-2.item.0).0, e) in x) ≡ (i, e) =
    one_some (c.in-Some-lookup-2.ensures.link ∙ ap (option_map (index_and_entry i)) stored) in
    sym c.self.view_is ∙ rw (c.in-None.is, c.in-Some-back.is) (passes_back a start i None e stored left prev c.if-self-eq0.false c.prev-self-inside.ensures ∙ ap (λ x. x ∷ links_ahead a (left - 1) start None prev) (sym item))

pub returns-in-None-back-clause-steps : goal.returns-in-None-back-clause-steps
returns-in-None-back-clause-steps g c =
    let number = g.P.Inx.InxKey.number in
    let a = links_view g.P.Inx.InxKey.packed_number c.self.inside.arena.now in
    let start = number c.self.inside.start in
    let left = c.self.inside.left in
    let ended = sym c.self.view_is ∙ (ap₂ (λ forward back. links_ahead a left start (option_map number forward) (option_map number back)) c.in-None.is c.in-None-back.is ∙ nowhere a left start) in
    (ended, ended)

pub returns-then-self-eq0-clause-goes : goal.returns-then-self-eq0-clause-goes
returns-then-self-eq0-clause-goes g c = record { on = λ _. tt; keeps = tt; rests = λ finite. finite }

pub returns-in-None-back-clause-goes : goal.returns-in-None-back-clause-goes
returns-in-None-back-clause-goes g c = record { on = λ _. tt; keeps = tt; rests = λ finite. finite }

pub returns-after-is_index-clause-goes : goal.returns-after-is_index-clause-goes
returns-after-is_index-clause-goes g c = record { on = λ _. (tt, tt, shorter _ _ _ (returns-after-is_index-clause-steps g c)); keeps = tt; rests = λ _. tt }

pub returns-in-Some-lookup-2-clause-goes : goal.returns-in-Some-lookup-2-clause-goes
returns-in-Some-lookup-2-clause-goes g c = record { on = λ _. (tt, tt, shorter _ _ _ (returns-in-Some-lookup-2-clause-steps g c)); keeps = tt; rests = λ _. tt }
