-- Examples of exchanges in linear and cyclic chains, link by link.
use Rattle.std.specs.Prelude.{◌≡◌, ℕ, List, [], ◌∷◌, None, Some}
use Rattle.std.proofs.Common.{refl}
use Rattle.chain_laws.specs.Chains.{LinkMap, AreLinked, first_or, last_or, next_of}
use Rattle.chain_laws.specs.Joins.{with_prev_at, with_next_at, with_join, with_lone}
use Rattle.chain_laws.specs.Exchanges.{with_exchange}
use Rattle.chain_laws.proofs.ChainLemmas.LinkedLists.{link}

abbrev bare : LinkMap
bare i = None

-- The lone links 1 to 5.
abbrev lone : LinkMap
lone = with_lone (with_lone (with_lone (with_lone (with_lone bare 1) 2) 3) 4) 5

-- The linear chain 1 2 3, and the lone links 4 and 5.
abbrev three : LinkMap
three = with_join (with_join lone 1 2) 2 3

-- The linear chain 1 2 3 4, and the lone link 5.
abbrev four : LinkMap
four = with_join three 3 4

-- The linear chains 1 2 3 and 4 5.
abbrev three_and_two : LinkMap
three_and_two = with_join three 4 5

-- The linear chain 1 2 3 and the cyclic chain 4 5.
abbrev three_and_ring : LinkMap
three_and_ring = with_join three_and_two 5 4

-- The cyclic chains 1 2 3 and 4 5.
abbrev two_rings : LinkMap
two_rings = with_join three_and_ring 3 1

-- The cyclic chain 1 2 3 4 5 6.
abbrev ring_of_six : LinkMap
ring_of_six = with_join (with_join (with_join (with_lone four 6) 4 5) 5 6) 6 1

-- The cyclic chains 1 and 2.
abbrev rings_of_one : LinkMap
rings_of_one = with_join (with_join lone 1 1) 2 2

-- The items are linked as a linear chain.
abbrev StoredInLine : LinkMap → List ℕ → Type 0
StoredInLine link_map xs = AreLinked link_map None xs None

-- The items are linked as a cyclic chain.
abbrev StoredInRing : LinkMap → List ℕ → Type 0
StoredInRing link_map xs = AreLinked link_map (last_or xs None) xs (first_or xs None)

-- An exchange is four writes.
exchanged_in_four_writes : (link_map : LinkMap) (p q : ℕ)
    → with_exchange link_map p q
    ≡ with_prev_at (with_next_at (with_prev_at (with_next_at link_map (Some p) (next_of link_map q)) (next_of link_map q) (Some p)) (Some q) (next_of link_map p)) (next_of link_map p) (Some q)
exchanged_in_four_writes link_map p q = refl

-- Two links of a cyclic chain: it splits, and the same exchange again restores it.
six_with_first : StoredInRing (with_exchange ring_of_six 2 5) (1 ∷ 2 ∷ 6 ∷ [])
six_with_first = (refl, (refl, (refl, tt)))

six_with_second : StoredInRing (with_exchange ring_of_six 2 5) (3 ∷ 4 ∷ 5 ∷ [])
six_with_second = (refl, (refl, (refl, tt)))

six_again : StoredInRing (with_exchange (with_exchange ring_of_six 2 5) 2 5) (1 ∷ 2 ∷ 3 ∷ 4 ∷ 5 ∷ 6 ∷ [])
six_again = (refl, (refl, (refl, (refl, (refl, (refl, tt))))))

-- Neighbors in a cyclic chain: the second leaves it.
six_neighbors_second : StoredInRing (with_exchange ring_of_six 2 3) (3 ∷ [])
six_neighbors_second = (refl, tt)

six_neighbors : StoredInRing (with_exchange ring_of_six 2 3) (1 ∷ 2 ∷ 4 ∷ 5 ∷ 6 ∷ [])
six_neighbors = (refl, (refl, (refl, (refl, (refl, tt)))))

-- A link of a linear chain and one of a cyclic chain: the linear one takes in the cyclic one.
ring_taken_in : StoredInLine (with_exchange three_and_ring 1 4) (1 ∷ 5 ∷ 4 ∷ 2 ∷ 3 ∷ [])
ring_taken_in = (refl, (refl, (refl, (refl, (refl, tt)))))

ring_taken_in_back : StoredInLine (with_exchange three_and_ring 4 1) (1 ∷ 5 ∷ 4 ∷ 2 ∷ 3 ∷ [])
ring_taken_in_back = (refl, (refl, (refl, (refl, (refl, tt)))))

ring_taken_in_at_end : StoredInLine (with_exchange three_and_ring 3 5) (1 ∷ 2 ∷ 3 ∷ 4 ∷ 5 ∷ [])
ring_taken_in_at_end = (refl, (refl, (refl, (refl, (refl, tt)))))

-- Neighbors in a linear chain: the second leaves it.
second_left_out : StoredInLine (with_exchange three 1 2) (1 ∷ 3 ∷ [])
second_left_out = (refl, (refl, tt))

second_in_ring : StoredInRing (with_exchange three 1 2) (2 ∷ [])
second_in_ring = (refl, tt)

-- Neighbors in a longer chain, and the same exchange again, which restores it.
four_without_second : StoredInLine (with_exchange four 1 2) (1 ∷ 3 ∷ 4 ∷ [])
four_without_second = (refl, (refl, (refl, tt)))

four_second_in_ring : StoredInRing (with_exchange four 1 2) (2 ∷ [])
four_second_in_ring = (refl, tt)

four_again : StoredInLine (with_exchange (with_exchange four 1 2) 1 2) (1 ∷ 2 ∷ 3 ∷ 4 ∷ [])
four_again = (refl, (refl, (refl, (refl, tt))))

-- Two links with one between them, the later one first.
between_left_out : StoredInLine (with_exchange four 3 1) (1 ∷ 4 ∷ [])
between_left_out = (refl, (refl, tt))

between_in_ring : StoredInRing (with_exchange four 3 1) (2 ∷ 3 ∷ [])
between_in_ring = (refl, (refl, tt))

-- The start and end of a linear chain.
start_and_end : StoredInLine (with_exchange three 1 3) (1 ∷ [])
start_and_end = (refl, tt)

start_and_end_ring : StoredInRing (with_exchange three 1 3) (2 ∷ 3 ∷ [])
start_and_end_ring = (refl, (refl, tt))

-- Links of two linear chains: what follows them is swapped.
two_lines_first : StoredInLine (with_exchange three_and_two 1 4) (1 ∷ 5 ∷ [])
two_lines_first = (refl, (refl, tt))

two_lines_second : StoredInLine (with_exchange three_and_two 1 4) (4 ∷ 2 ∷ 3 ∷ [])
two_lines_second = (refl, (refl, (refl, tt)))

-- Links of two linear chains, one of them the end.
two_lines_end_first : StoredInLine (with_exchange three_and_two 2 5) (1 ∷ 2 ∷ [])
two_lines_end_first = (refl, (refl, tt))

two_lines_end_second : StoredInLine (with_exchange three_and_two 2 5) (4 ∷ 5 ∷ 3 ∷ [])
two_lines_end_second = (refl, (refl, (refl, tt)))

-- The ends of two linear chains: the chains stay.
two_ends : StoredInLine (with_exchange three_and_two 3 5) (1 ∷ 2 ∷ 3 ∷ [])
two_ends = (refl, (refl, (refl, tt)))

-- Links of two cyclic chains: the chains merge.
two_rings_merged : StoredInRing (with_exchange two_rings 1 4) (1 ∷ 5 ∷ 4 ∷ 2 ∷ 3 ∷ [])
two_rings_merged = (refl, (refl, (refl, (refl, (refl, tt)))))

-- Two links that name themselves: the chains merge.
rings_of_one_merged : StoredInRing (with_exchange rings_of_one 1 2) (1 ∷ 2 ∷ [])
rings_of_one_merged = (refl, (refl, tt))

-- A link with itself: nothing changes.
itself_in_line : StoredInLine (with_exchange three 1 1) (1 ∷ 2 ∷ 3 ∷ [])
itself_in_line = (refl, (refl, (refl, tt)))

itself_in_ring : StoredInRing (with_exchange two_rings 5 5) (4 ∷ 5 ∷ [])
itself_in_ring = (refl, (refl, tt))

itself_alone : StoredInRing (with_exchange rings_of_one 2 2) (2 ∷ [])
itself_alone = (refl, tt)

-- A chain without the two links stays.
others_stay : with_exchange two_rings 4 5 2 ≡ Some (link (Some 1) (Some 3))
others_stay = refl
