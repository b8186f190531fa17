-- Examples of the interlinks beside a link, and of what fails without the premises of the laws.
use Rattle.std.specs.Prelude.{◌≡◌, ℕ, [], ◌∷◌, Option, None, Some}
use Rattle.std.proofs.Common.{refl, ap, inl, inr, arith}
use Rattle.chain_laws.specs.Chains.{LinkMap, IsChain, linear, cyclic, IsMember, next_in, next_of}
use Rattle.chain_laws.specs.Neighbors.{AreNeighbors}
use Rattle.chain_laws.specs.Joins.{with_join, with_next_at, with_lone}
use Rattle.chain_laws.specs.Cuts.{without_pair}
use Rattle.chain_laws.specs.Removals.{with_removal}
use Rattle.chain_laws.specs.Insertions.{with_insertion}
use Rattle.chain_laws.specs.Members.{PlacesInARing}
use Rattle.chain_laws.proofs.InterlinkLemmas.Inverses.{not_both_ways}
use Rattle.chain_laws.proofs.ChainLemmas.LinkedLists.{link, first_no_repetition}

-- The lone links 1 and 2.
abbrev two_lone : LinkMap
two_lone = with_lone (with_lone (λ i. None) 1) 2

-- The linear chain 1 2.
abbrev pair : LinkMap
pair = with_join two_lone 1 2

-- 1 names 2 as next, but 2 names nothing as prev.
abbrev torn : LinkMap
torn = with_next_at two_lone (Some 1) (Some 2)

pair_is_a_chain : IsChain pair (linear (1 ∷ 2 ∷ []))
pair_is_a_chain = (λ e. cc, first_no_repetition pair (1 ∷ 2 ∷ []) None (refl, (refl, tt)), (refl, (refl, tt)))

-- Interlinks in cyclic chains of two and of one.
ring_of_two_places : PlacesInARing → (link_map : LinkMap) → IsChain link_map (cyclic (1 ∷ 2 ∷ [])) → link_map 2 ≡ Some (link (Some 1) (Some 1))
ring_of_two_places places link_map is = places link_map (1 ∷ []) [] 2 is

ring_of_one_places : PlacesInARing → (link_map : LinkMap) → IsChain link_map (cyclic (1 ∷ [])) → link_map 1 ≡ Some (link (Some 1) (Some 1))
ring_of_one_places places link_map is = places link_map [] [] 1 is

-- If the arena is not well linked, a chain may have only one of two neighbors.
torn_neighbors : AreNeighbors torn 1 2
torn_neighbors = refl

torn_chain : IsChain torn (linear (2 ∷ []))
torn_chain = (λ e. cc, (λ h. h, tt), (refl, tt))

torn_apart : IsMember (2 ∷ []) 1 → ⊥
torn_apart (inl e) = omega arith
torn_apart (inr h) = h

-- A chain with the link beside a new one does not stay.
insertion_removes_a_pair : IsChain (with_insertion pair 3 (Some 1) (Some 2)) (linear (1 ∷ 2 ∷ [])) → ⊥
insertion_removes_a_pair is = let next : (let o : Option ℕ = Some 3 in o ≡ Some 2) = ap next_in is.2.0 in cc

-- A chain with both neighbors does not survive their cut, or exist before their join.
cut_removes_a_pair : IsChain (without_pair pair 1 2) (linear (1 ∷ 2 ∷ [])) → ⊥
cut_removes_a_pair is = let links = is.2.0 in cc

join_adds_a_pair : IsChain two_lone (linear (1 ∷ 2 ∷ [])) → ⊥
join_adds_a_pair is = not_both_ways (next_of two_lone 1) 2 refl (ap next_in is.2.0)

-- A chain with a link that named the removed one did not exist before.
removal_adds_the_rest : IsChain (with_removal pair 2) (linear (1 ∷ []))
removal_adds_the_rest = (λ e. cc, (λ h. h, tt), (refl, tt))

rest_was_not_there : IsChain pair (linear (1 ∷ [])) → ⊥
rest_was_not_there is = let links = is.2.0 in cc
