-- Examples of joins, and of walks.
use Rattle.std.specs.Prelude.{◌≡◌, [], ◌∷◌, None, Some}
use Rattle.std.proofs.Common.{refl, inl, inr, arith}
use Rattle.chain_laws.specs.Chains.{LinkMap, IsChain, linear, cyclic, prev_of}
use Rattle.chain_laws.specs.Joins.{with_join, with_neighbors, with_lone}
use Rattle.chain_laws.specs.Walks.{IsWalk, of_linear, of_cyclic, walk_ahead}
use Rattle.chain_laws.proofs.ChainLemmas.LinkedLists.{link, first_no_repetition}

abbrev bare : LinkMap
bare i = None

-- The lone links 1 and 2.
abbrev two_lone : LinkMap
two_lone = with_lone (with_lone bare 1) 2

-- The linear chain 1 2, and the lone link 3.
abbrev pair_and_lone : LinkMap
pair_and_lone = with_lone (with_join two_lone 1 2) 3

-- The linear chain 1 2 3.
abbrev three : LinkMap
three = with_join pair_and_lone 2 3

-- The cyclic chain 1 2 3.
abbrev ring : LinkMap
ring = with_join three 3 1

-- The linear chain 4 2 9 7.
abbrev four : LinkMap
four = with_join (with_join (with_join (with_lone (with_lone (with_lone (with_lone bare 2) 4) 7) 9) 4 2) 9 7) 2 9

-- Two lone links joined.
two_lone_joined_first : with_join two_lone 1 2 1 ≡ Some (link None (Some 2))
two_lone_joined_first = refl

two_lone_joined_second : with_join two_lone 1 2 2 ≡ Some (link (Some 1) None)
two_lone_joined_second = refl

-- A lone link joined to itself is a cyclic chain of one; others stay.
lone_joined_with_itself : with_join two_lone 1 1 1 ≡ Some (link (Some 1) (Some 1))
lone_joined_with_itself = refl

lone_beside_a_cycle : with_join two_lone 1 1 2 ≡ Some (link None None)
lone_beside_a_cycle = refl

-- The linear chain 1 2 joined to 3.
pair_joined_with_lone : three 2 ≡ Some (link (Some 1) (Some 3))
pair_joined_with_lone = refl

pair_joined_with_lone_end : three 3 ≡ Some (link (Some 2) None)
pair_joined_with_lone_end = refl

-- The end of a chain joined to its start.
chain_joined_with_itself : ring 1 ≡ Some (link (Some 3) (Some 2))
chain_joined_with_itself = refl

-- A join with a free index adds no link there.
join_with_nothing : with_join two_lone 1 5 5 ≡ None
join_with_nothing = refl

-- Linking to none removes the neighbor on that side.
linked_to_none : with_neighbors three (Some 1) None 1 ≡ Some (link None None)
linked_to_none = refl

-- Two joined lone links are a linear chain.
two_lone_as_a_chain : IsChain (with_join two_lone 1 2) (linear (1 ∷ 2 ∷ []))
two_lone_as_a_chain = (λ e. cc, first_no_repetition (with_join two_lone 1 2) (1 ∷ 2 ∷ []) None (refl, (refl, tt)), (refl, (refl, tt)))

-- The cyclic chain, written from its second link.
ring_as_a_chain : IsChain ring (cyclic (2 ∷ 3 ∷ 1 ∷ []))
ring_as_a_chain = (λ e. cc, (λ h. elim h [ inl e ↦ absurd (omega arith) | inr k ↦ elim k [ inl e ↦ absurd (omega arith) | inr n ↦ n ] ], (λ h. elim h [ inl e ↦ absurd (omega arith) | inr n ↦ n ], (λ h. h, tt))), (refl, (refl, (refl, tt))))

-- A walker in a linear chain: forwards to the end, and then back.
walker_from_second : walk_ahead 4 four 2 (Some 2) (prev_of four 2) ≡ 2 ∷ 9 ∷ 7 ∷ 4 ∷ []
walker_from_second = refl

walker_from_third : walk_ahead 4 four 9 (Some 9) (prev_of four 9) ≡ 9 ∷ 7 ∷ 2 ∷ 4 ∷ []
walker_from_third = refl

walker_from_end : walk_ahead 9 four 7 (Some 7) (prev_of four 7) ≡ 7 ∷ 9 ∷ 2 ∷ 4 ∷ []
walker_from_end = refl

-- A walker in a cyclic chain stops once around, even with steps left.
walker_in_a_cycle : walk_ahead 3 ring 2 (Some 2) (prev_of ring 2) ≡ 2 ∷ 3 ∷ 1 ∷ []
walker_in_a_cycle = refl

walker_in_a_cycle_at_ease : walk_ahead 9 ring 2 (Some 2) (prev_of ring 2) ≡ 2 ∷ 3 ∷ 1 ∷ []
walker_in_a_cycle_at_ease = refl

-- A walker at a link that names itself.
walker_in_a_cycle_of_one : walk_ahead 3 (with_join two_lone 1 1) 1 (Some 1) (prev_of (with_join two_lone 1 1) 1) ≡ 1 ∷ []
walker_in_a_cycle_of_one = refl

-- Walks in linear and cyclic chains.
walk_from_second : (link_map : LinkMap) → IsChain link_map (linear (4 ∷ 2 ∷ 9 ∷ 7 ∷ [])) → IsWalk link_map 2 (2 ∷ 9 ∷ 7 ∷ 4 ∷ [])
walk_from_second link_map chain = of_linear (4 ∷ []) (9 ∷ 7 ∷ []) chain

walk_from_end : (link_map : LinkMap) → IsChain link_map (linear (4 ∷ 2 ∷ 9 ∷ 7 ∷ [])) → IsWalk link_map 7 (7 ∷ 9 ∷ 2 ∷ 4 ∷ [])
walk_from_end link_map chain = of_linear (4 ∷ 2 ∷ 9 ∷ []) [] chain

walk_in_a_cycle : (link_map : LinkMap) → IsChain link_map (cyclic (2 ∷ 3 ∷ 1 ∷ [])) → IsWalk link_map 2 (2 ∷ 3 ∷ 1 ∷ [])
walk_in_a_cycle link_map chain = of_cyclic (3 ∷ 1 ∷ []) chain
