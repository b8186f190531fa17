use Rattle.std.proofs.Common.{◌≡◌, ℕ, Some, refl, ap, sym, ◌∙◌, subst}
use Rattle.chain_laws.specs.Chains.{HasLink, next_of}
use Rattle.chain_laws.specs.Cuts.{without_pair}
use Rattle.chain_laws.specs.Neighbors.{AreNeighbors}
use Rattle.chain_laws.proofs.ChainLemmas.LinkedLists.{next_valid, prev_valid}
use Rattle.arena_traits.specs.Arena.{Arena}
use Rattle.chain_links.specs.Links.{links_view}
use Rattle.chain_links.specs.ChainArena.{LinkView, with_link_map, link_map}
use Rattle.chain_arena.proofs.BreakAndExchangeLemmas.{at_known, disconnected, agrees_cut, cut_known}
use Rattle.chain_arena.proofs.impl_chain_arena_trait.ChainArenaChainArenaTrait.break_next.Given.{Over}
use Rattle.chain_arena.proofs.impl_chain_arena_trait.ChainArenaChainArenaTrait.break_next.Goals.{After-write_beside}
use Rattle.chain_arena.proofs.impl_chain_arena_trait.ChainArenaChainArenaTrait.break_next.Goals as goal

abbrev links : (g : Over) → After-write_beside g → Arena g.row.P-Gen.Denot (LinkView g.row.T.Denot)
links g c = links_view g.P.Inx.InxKey.packed_number c.self.inside.arena

abbrev cut_links : (g : Over) → After-write_beside g → Arena g.row.P-Gen.Denot (LinkView g.row.T.Denot)
cut_links g c = links_view g.P.Inx.InxKey.packed_number c.write_beside.new.arena

known : (g : Over) (c : After-write_beside g) → next_of (link_map (links g c)) (g.P.PtrKey.key c.args.p).0 ≡ Some (g.P.Inx.InxKey.number c.in-Some.after)
known g c = sym (c.in-Some.ensures.neighbor (c.in-Some.ensures.some refl))

pair : (g : Over) (c : After-write_beside g) → AreNeighbors (link_map (links g c)) (g.P.PtrKey.key c.args.p).0 (g.P.Inx.InxKey.number c.in-Some.after)
pair g c = known g c

is_cut : (g : Over) (c : After-write_beside g) → cut_links g c ≡ with_link_map (links g c) (without_pair (link_map (links g c)) (g.P.PtrKey.key c.args.p).0 (g.P.Inx.InxKey.number c.in-Some.after))
is_cut g c = c.write_beside.ensures.links ∙ ap (λ (i : ℕ). with_link_map (links g c) (without_pair (link_map (links g c)) i (g.P.Inx.InxKey.number c.in-Some.after))) c.inx.ensures

pub write_beside-requires-clause-before : goal.write_beside-requires-clause-before
write_beside-requires-clause-before g c =
    let s = link_map (links_view g.P.Inx.InxKey.packed_number c.self.inside.arena) in
    let p = (g.P.PtrKey.key c.args.p).0 in
    subst (HasLink s) (sym c.inx.ensures) (next_valid s p (g.P.Inx.InxKey.number c.in-Some.after) (sym (c.in-Some.ensures.neighbor (c.in-Some.ensures.some refl))))

pub write_beside-requires-clause-after : goal.write_beside-requires-clause-after
write_beside-requires-clause-after g c =
    let s = link_map (links_view g.P.Inx.InxKey.packed_number c.self.inside.arena) in
    let p = (g.P.PtrKey.key c.args.p).0 in
    let after = g.P.Inx.InxKey.number c.in-Some.after in
    prev_valid s after p ((c.self.invariant.agree.both p after).0 (sym (c.in-Some.ensures.neighbor (c.in-Some.ensures.some refl))))

pub invariant_of-self : goal.invariant_of-self
invariant_of-self g c = record {
  agree = agrees_cut (links g c) (cut_links g c) _ _ (is_cut g c) c.self.invariant.agree (pair g c);
  at_rest = c.write_beside.ensures.at_rest c.self.invariant.at_rest;
}

pub returns-in-Some : goal.returns-in-Some
returns-in-Some g c =
    let a = links g c in
    let b = cut_links g c in
    let i = (g.P.PtrKey.key c.args.p).0 in
    let j = (g.P.Inx.InxKey.number c.in-Some.after) in
    let at = known g c in
    let is = is_cut g c in
    rw (← c.self.view_is) (record {
      outcome = (c.in-Some.ensures.some refl, j, at, disconnected a b i j is);
      none = tt;
      implementation = at_known _ _ _ at (cut_known a b i j is (pair g c));
    })

pub returns-in-None : goal.returns-in-None
returns-in-None g c = rw (← c.self.view_is) (record {
  outcome = λ valid. sym (c.in-None.ensures.neighbor valid);
  none = refl;
  implementation = tt;
})
