-- Examples of chains, their order and their neighbor pairs.
use Rattle.std.proofs.Common.{◌≡◌, ℕ, ◌<◌, ◌≤◌, Bool, true, false, ◌==◌, if◌then◌else◌, inl, inr, List, [], ◌∷◌, ◌++◌, None, Some, refl, sym, ap, subst, eqb-true, arith}
use Rattle.chain_laws.specs.Chains.{LinkMap, Interlinks, HasLink, HasLinksWithin, IsWellLinked, IsMember, Chain, linear, cyclic, prev_in, next_in, prev_of, next_of, IsChain, HasChain, all_items, AreChains, StartsAtLeast, IsSortedByLeast, IsInOrder}
use Rattle.chain_laws.specs.Neighbors.{IsBeside, AreNeighborsIn, IsRotation, AreTheChains}
use Rattle.chain_laws.proofs.ChainLemmas.LinkedLists.{link}
use Rattle.chain_laws.proofs.ChainLemmas.NeighborPairs.{partitions, interlinks, agrees_from_chains}
use Rattle.chain_laws.proofs.ChainLemmas.Partitions.{no_others}

-- An arena as rows of an index and its interlinks.
abbrev rows : List (ℕ × Interlinks) → LinkMap
rows [] i = None
rows (r ∷ rs) i = if i == r.0 then Some r.1 else rows rs i

abbrev indexes : List (ℕ × Interlinks) → List ℕ
indexes [] = []
indexes (r ∷ rs) = r.0 ∷ indexes rs

-- Each valid index has a row.
rows_valid : (rs : List (ℕ × Interlinks)) (i : ℕ) → HasLink (rows rs) i → IsMember (indexes rs) i
rows_valid [] i v = let links : None ≡ Some v.link = v.links in absurd (cc)
rows_valid (r ∷ rs) i v = by_test (i == r.0) refl v.links (λ e. rows_valid rs i (record { link = v.link; links = e }))
  where
    by_test : (b : Bool) → (i == r.0) ≡ b → (if b then Some r.1 else rows rs i) ≡ Some v.link → (rows rs i ≡ Some v.link → IsMember (indexes rs) i) → IsMember (r.0 ∷ indexes rs) i
    by_test true is e rest = inl (sym (eqb-true i r.0 is))
    by_test false is e rest = inr (rest e)

-- 1 before 2, and the cyclic chain 3.
abbrev three : List (ℕ × Interlinks)
three = (1, link None (Some 2)) ∷ (2, link (Some 1) None) ∷ (3, link (Some 3) (Some 3)) ∷ []

-- The cyclic chain 2 3, and 1 alone.
abbrev ring : List (ℕ × Interlinks)
ring = (3, link (Some 2) (Some 2)) ∷ (2, link (Some 3) (Some 3)) ∷ (1, link None None) ∷ []

-- 4 before 1, and 3 before 2: chains are not ordered by their first items.
abbrev crossed : List (ℕ × Interlinks)
crossed = (1, link (Some 4) None) ∷ (2, link (Some 3) None) ∷ (3, link None (Some 2)) ∷ (4, link None (Some 1)) ∷ []

-- 1 names 2, but 2 does not name 1.
abbrev broken : List (ℕ × Interlinks)
broken = (1, link None (Some 2)) ∷ (2, link None None) ∷ []

-- 1 names 2, which is free.
abbrev stray : List (ℕ × Interlinks)
stray = (1, link None (Some 2)) ∷ []

-- The interlinks of the rows.
three_next : next_of (rows three) 1 ≡ Some 2
three_next = refl

three_end : next_of (rows three) 2 ≡ None
three_end = refl

three_prev : prev_of (rows three) 2 ≡ Some 1
three_prev = refl

three_free : next_of (rows three) 4 ≡ None
three_free = refl

-- 1 and 2 are a linear chain.
three_linear : IsChain (rows three) (linear (1 ∷ 2 ∷ []))
three_linear = ((λ e. cc), (two_apart, ((λ h. h), tt)), (refl, (refl, tt)))
  where
    two_apart : IsMember (2 ∷ []) 1 → ⊥
    two_apart (inl e) = omega arith
    two_apart (inr h) = h

-- 3 alone is a cyclic chain only; 1 alone is no chain.
three_cyclic : IsChain (rows three) (cyclic (3 ∷ []))
three_cyclic = ((λ e. cc), ((λ h. h), tt), (refl, tt))

three_not_linear : IsChain (rows three) (linear (3 ∷ [])) → ⊥
three_not_linear h = let links : next_of (rows three) 3 ≡ None = ap next_in h.2.0 in cc

three_not_whole : IsChain (rows three) (linear (1 ∷ [])) → ⊥
three_not_whole h = let links : next_of (rows three) 1 ≡ None = ap next_in h.2.0 in cc

-- 1 and 2 are no cyclic chain.
three_not_cyclic : IsChain (rows three) (cyclic (1 ∷ 2 ∷ [])) → ⊥
three_not_cyclic h = let links : prev_of (rows three) 1 ≡ Some 2 = ap prev_in h.2.0 in cc

-- No chain is empty.
no_empty_chain : (link_map : LinkMap) → IsChain link_map (linear []) → ⊥
no_empty_chain link_map h = h.0 refl

three_is_apart : IsMember (3 ∷ []) 2 → ⊥
three_is_apart (inl e) = omega arith
three_is_apart (inr h) = h

-- A cyclic chain of two may be written from either link.
ring_from_two : IsChain (rows ring) (cyclic (2 ∷ 3 ∷ []))
ring_from_two = ((λ e. cc), (three_is_apart, ((λ h. h), tt)), (refl, (refl, tt)))

ring_from_three : IsChain (rows ring) (cyclic (3 ∷ 2 ∷ []))
ring_from_three = ((λ e. cc), (apart, ((λ h. h), tt)), (refl, (refl, tt)))
  where
    apart : IsMember (2 ∷ []) 3 → ⊥
    apart (inl e) = omega arith
    apart (inr h) = h

-- 2 3 starts at the least index, and its rotation 3 2 does not.
ring_written : StartsAtLeast (cyclic (2 ∷ 3 ∷ []))
ring_written = (omega arith, tt)

ring_not_written : StartsAtLeast (cyclic (3 ∷ 2 ∷ [])) → ⊥
ring_not_written w = let high : 3 ≤ 2 = w.0 in omega arith

ring_rotated : IsRotation (cyclic (3 ∷ 2 ∷ [])) (cyclic (2 ∷ 3 ∷ []))
ring_rotated = (3 ∷ [], 2 ∷ [], refl, refl)

-- Neighbors in a list, and around the end of a cyclic chain.
beside : IsBeside (1 ∷ 2 ∷ 3 ∷ []) 2 3
beside = (1 ∷ [], [], refl)

cyclic_beside : AreNeighborsIn (cyclic (2 ∷ 3 ∷ [])) 3 2
cyclic_beside = inr (refl, refl)

-- A link alone in a cyclic chain is its own neighbor.
own_neighbor : AreNeighborsIn (cyclic (3 ∷ [])) 3 3
own_neighbor = inr (refl, refl)

-- 1 does not follow 2.
not_beside : IsBeside (1 ∷ 2 ∷ []) 2 1 → ⊥
not_beside b = by_before b.0 b.1 b.2
  where
    by_before : (before after : List ℕ) → 1 ∷ 2 ∷ [] ≡ before ++ 2 ∷ 1 ∷ after → ⊥
    by_before [] after e = cc
    by_before (x ∷ []) after e = cc
    by_before (x ∷ y ∷ []) after e = cc
    by_before (x ∷ y ∷ z ∷ before) after e = cc

-- All items of chains, and the order of chains.
three_items : all_items (linear (1 ∷ 2 ∷ []) ∷ cyclic (3 ∷ []) ∷ []) ≡ 1 ∷ 2 ∷ 3 ∷ []
three_items = refl

crossed_ascends : IsSortedByLeast (linear (4 ∷ 1 ∷ []) ∷ linear (3 ∷ 2 ∷ []) ∷ [])
crossed_ascends = ((1, inr (inl refl), above), ((2, inr (inl refl), λ y h. absurd h), tt))
  where
    above : (y : ℕ) → IsMember (3 ∷ 2 ∷ []) y → 1 < y
    above y (inl e) = let is : 3 ≡ y = e in omega arith
    above y (inr (inl e)) = let is : 2 ≡ y = e in omega arith
    above y (inr (inr h)) = absurd h

crossed_not_ascending : IsSortedByLeast (linear (3 ∷ 2 ∷ []) ∷ linear (4 ∷ 1 ∷ []) ∷ []) → ⊥
crossed_not_ascending r = by_member r.0.0 r.0.1 (r.0.2 1 (inr (inl refl)))
  where
    by_member : (m : ℕ) → IsMember (3 ∷ 2 ∷ []) m → m < 1 → ⊥
    by_member m (inl e) l = let is : 3 ≡ m = e in omega arith
    by_member m (inr (inl e)) l = let is : 2 ≡ m = e in omega arith
    by_member m (inr (inr h)) l = h

-- The three rows have these chains and no others.
three_chains : AreChains (rows three) (linear (1 ∷ 2 ∷ []) ∷ cyclic (3 ∷ []) ∷ [])
three_chains = record {
  each = each;
  once = (apart, (three_is_apart, ((λ h. h), tt)));
  all = λ i v. rows_valid three i v;
}
  where
    each : (c : Chain) → HasChain (linear (1 ∷ 2 ∷ []) ∷ cyclic (3 ∷ []) ∷ []) c → IsChain (rows three) c
    each c (inl e) = subst (IsChain (rows three)) e three_linear
    each c (inr (inl e)) = subst (IsChain (rows three)) e three_cyclic
    each c (inr (inr h)) = absurd h

    apart : IsMember (2 ∷ 3 ∷ []) 1 → ⊥
    apart (inl e) = omega arith
    apart (inr (inl e)) = omega arith
    apart (inr (inr h)) = h

three_in_order : IsInOrder (linear (1 ∷ 2 ∷ []) ∷ cyclic (3 ∷ []) ∷ [])
three_in_order = record { written = written; ascends = ((1, inl refl, above), ((3, inl refl, λ y h. absurd h), tt)) }
  where
    written : (c : Chain) → HasChain (linear (1 ∷ 2 ∷ []) ∷ cyclic (3 ∷ []) ∷ []) c → StartsAtLeast c
    written c (inl e) = subst StartsAtLeast e tt
    written c (inr (inl e)) = subst StartsAtLeast e tt
    written c (inr (inr h)) = absurd h

    above : (y : ℕ) → IsMember (3 ∷ []) y → 1 < y
    above y (inl e) = let is : 3 ≡ y = e in omega arith
    above y (inr h) = absurd h

three_the_chains : AreTheChains (rows three) (linear (1 ∷ 2 ∷ []) ∷ cyclic (3 ∷ []) ∷ [])
three_the_chains = record { partition = partitions (rows three) _ three_chains; interlinks = interlinks (rows three) _ three_chains; order = three_in_order }

three_only : (chains : List Chain) → AreTheChains (rows three) chains → chains ≡ linear (1 ∷ 2 ∷ []) ∷ cyclic (3 ∷ []) ∷ []
three_only chains are = no_others (rows three) chains _ are three_the_chains

-- The rows are well linked and within three slots.
three_agrees : IsWellLinked (rows three)
three_agrees = agrees_from_chains (rows three) _ three_chains

three_within : HasLinksWithin (rows three) 3
three_within = record { within = λ i v. by_row i (rows_valid three i v) }
  where
    by_row : (i : ℕ) → IsMember (1 ∷ 2 ∷ 3 ∷ []) i → (1 ≤ i) × (i ≤ 3)
    by_row i (inl e) = let is : 1 ≡ i = e in omega arith
    by_row i (inr (inl e)) = let is : 2 ≡ i = e in omega arith
    by_row i (inr (inr (inl e))) = let is : 3 ≡ i = e in omega arith
    by_row i (inr (inr (inr h))) = absurd h

-- Rows are not well linked if 2 does not name 1 back, or is free.
broken_disagrees : IsWellLinked (rows broken) → ⊥
broken_disagrees agrees = let back : prev_of (rows broken) 2 ≡ Some 1 = (agrees.both 1 2).0 refl in cc

stray_disagrees : IsWellLinked (rows stray) → ⊥
stray_disagrees agrees = let back : prev_of (rows stray) 2 ≡ Some 1 = (agrees.both 1 2).0 refl in cc

-- An arena without links has no chains.
none_at_all : AreTheChains (rows []) []
none_at_all = record { partition = partitions (rows []) [] empty; interlinks = interlinks (rows []) [] empty; order = record { written = λ c h. absurd h; ascends = tt } }
  where
    empty : AreChains (rows []) []
    empty = record { each = λ c h. absurd h; once = tt; all = λ i v. rows_valid [] i v }
