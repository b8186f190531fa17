-- The items of a chain and their neighbors.
use Rattle.std.proofs.Common.{◌≡◌, ℕ, List, [], ◌∷◌, ◌++◌, length, length-append, arith, Option, None, Some, refl, sym, ap, ◌∙◌, subst, subst₂}
use Rattle.chain_laws.specs.Chains.{linear, cyclic, IsMember, IsChain, AreLinked, first_or, last_or, prev_in, next_in, prev_of, next_of}
use Rattle.chain_laws.specs.Members.{MembersAreLinks, FreeIsInNoChain, MembersNameNeighbors, PlacesInALine, PlacesInARing, LinesEnd, RingsAreCyclic}
use Rattle.chain_laws.specs.Members.{NeighborsShareAChain, ChainsShareEach, RotationsHaveTheSame, RotationsAreAsLong, MemberInAll}
use Rattle.chain_laws.proofs.ListLemmas.Members.{IsMember-rotated, IsMember-written, first_or-append, last_or-append}
use Rattle.chain_laws.proofs.InterlinkLemmas.Inverses.{one_some}
use Rattle.chain_laws.proofs.ChainLemmas.LinkedLists.{link, AreLinked-first, AreLinked-last}
use Rattle.chain_laws.proofs.ChainLemmas.Uniqueness.{chain_valid, chain_closed, chains_share, cyclic_prev_some}
use Rattle.chain_laws.proofs.ChainLemmas.ChainLists.{IsMember-all_items, chain_at}
use Rattle.chain_laws.proofs.InsertionLemmas.Pairs.{free_invalid}
use Rattle.chain_laws.proofs.ChainLemmas.NeighborPairs.{chain_next, chain_prev, chain_reports}

pub members_are_links : MembersAreLinks
members_are_links link_map c i is has = chain_valid link_map c i is has

pub free_is_in_no_chain : FreeIsInNoChain
free_is_in_no_chain link_map c q free is has = free_invalid link_map q free (chain_valid link_map c q is has)

pub members_name_neighbors : MembersNameNeighbors
members_name_neighbors link_map c i j is has = (chain_next link_map c i j is has, chain_prev link_map c i j is has)

pub places_in_a_line : PlacesInALine
places_in_a_line link_map x y i is = chain_reports link_map (linear (x ++ i ∷ y)) x y i is refl

pub places_in_a_ring : PlacesInARing
places_in_a_ring link_map x y i is = subst₂ (λ (before after : Option ℕ). link_map i ≡ Some (link (last_or x before) (first_or y after)))
    (last_or-append x (i ∷ y) None) (first_or-append x (i ∷ y) None) (chain_reports link_map (cyclic (x ++ i ∷ y)) x y i is refl)

pub lines_end : LinesEnd
lines_end link_map xs i is has = (
  (λ none. ends (IsMember-written xs i has) none, λ last. AreLinked-last link_map None xs None i is.2 is.0 last),
  (λ none. AreLinked-first link_map xs None i is.2 has none None, λ first. starts xs is.2 first),
)
  where
    ends : (before : List ℕ) × (after : List ℕ) × (xs ≡ before ++ i ∷ after) → next_of link_map i ≡ None → last_or xs None ≡ Some i
    ends w none = nothing_after w.1 w.2 (sym (ap next_in (chain_reports link_map (linear xs) w.0 w.1 i is w.2)) ∙ none)
      where
        nothing_after : (after : List ℕ) → xs ≡ w.0 ++ i ∷ after → first_or after None ≡ None → last_or xs None ≡ Some i
        nothing_after [] e first = ap (λ (zs : List ℕ). last_or zs None) e ∙ last_or-append w.0 (i ∷ []) None
        nothing_after (y ∷ ys) e first = absurd (cc)

    starts : (zs : List ℕ) → AreLinked link_map None zs None → first_or zs None ≡ Some i → prev_of link_map i ≡ None
    starts [] stored first = absurd (cc)
    starts (z ∷ zs) stored first = subst (λ (k : ℕ). prev_of link_map k ≡ None) (one_some first) (ap prev_in stored.0)

some_first : (xs : List ℕ) (after : ℕ) → (j : ℕ) × (first_or xs (Some after) ≡ Some j)
some_first [] after = (after, refl)
some_first (x ∷ xs) after = (x, refl)

pub rings_are_cyclic : RingsAreCyclic
rings_are_cyclic link_map xs i is has =
    let closed = chain_closed link_map (cyclic xs) is in
    let w = IsMember-written xs i has in
    let links = places_in_a_ring link_map w.0 w.1 i (subst (λ (zs : List ℕ). IsChain link_map (cyclic zs)) w.2 is) in
    let once_around = some_first w.0 i in
    let after = some_first w.1 once_around.0 in
    let next = ap next_in links ∙ (ap (first_or w.1) once_around.1 ∙ after.1) in
    let prev = cyclic_prev_some link_map xs i is has in
    ((after.0, next, closed.forward i after.0 has next), (prev.0, prev.1, closed.back i prev.0 has prev.1))

pub neighbors_share_a_chain : NeighborsShareAChain
neighbors_share_a_chain link_map c a b agrees pair is =
    let closed = chain_closed link_map c is in
    (λ has. closed.forward a b has pair, λ has. closed.back b a has ((agrees.both a b).0 pair))

pub chains_share_each : ChainsShareEach
chains_share_each link_map c other i j is also has too = (chains_share link_map c other i j is also has too, chains_share link_map other c i j also is too has)

pub rotations_have_the_same : RotationsHaveTheSame
rotations_have_the_same (linear xs) (linear ys) i same = (subst (λ (zs : List ℕ). IsMember zs i) same, subst (λ (zs : List ℕ). IsMember zs i) (sym same))
rotations_have_the_same (linear xs) (cyclic ys) i same = absurd same
rotations_have_the_same (cyclic xs) (linear ys) i same = absurd same
rotations_have_the_same (cyclic xs) (cyclic ys) i same = (
  λ has. subst (λ (zs : List ℕ). IsMember zs i) (sym same.3) (IsMember-rotated same.0 same.1 i (subst (λ (zs : List ℕ). IsMember zs i) same.2 has)),
  λ has. subst (λ (zs : List ℕ). IsMember zs i) (sym same.2) (IsMember-rotated same.1 same.0 i (subst (λ (zs : List ℕ). IsMember zs i) same.3 has)),
)

pub rotations_are_as_long : RotationsAreAsLong
rotations_are_as_long (linear xs) (linear ys) same = sym (ap length same)
rotations_are_as_long (linear xs) (cyclic ys) same = absurd same
rotations_are_as_long (cyclic xs) (linear ys) same = absurd same
rotations_are_as_long (cyclic xs) (cyclic ys) same = omega (arith, ap length same.2, ap length same.3, length-append same.0 same.1, length-append same.1 same.0)

pub member_in_all : MemberInAll
member_in_all chains i = (chain_at chains i, λ w. IsMember-all_items chains w.0 i w.1 w.2)
