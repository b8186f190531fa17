-- Examples of removals from each kind of chain.
use Rattle.std.specs.Prelude.{◌≡◌, ℕ, [], ◌∷◌, Option, None, Some}
use Rattle.std.proofs.Common.{refl}
use Rattle.chain_laws.specs.Chains.{LinkMap, linear, cyclic}
use Rattle.chain_laws.specs.Joins.{with_prev_at, with_next_at, with_neighbors, with_join, with_lone}
use Rattle.chain_laws.specs.Removals.{without_link, with_removal, list_without, chain_without}
use Rattle.chain_laws.proofs.ChainLemmas.LinkedLists.{link}

abbrev bare : LinkMap
bare i = None

-- The lone links 1, 2 and 3.
abbrev lone : LinkMap
lone = with_lone (with_lone (with_lone bare 1) 2) 3

-- The linear chain 1 2 3.
abbrev three : LinkMap
three = with_join (with_join lone 1 2) 2 3

-- The cyclic chain 1 2 3.
abbrev ring : LinkMap
ring = with_join three 3 1

-- The cyclic chain 1 2, and the lone link 3.
abbrev ring_of_two : LinkMap
ring_of_two = with_join (with_join lone 1 2) 2 1

-- The cyclic chain 2, and the lone links 1 and 3.
abbrev ring_of_one : LinkMap
ring_of_one = with_join lone 2 2

-- The two writes of a removal are one `linked`.
linked_in_two_writes : (link_map : LinkMap) (q : ℕ) (u v : Option ℕ) → with_prev_at (with_next_at (without_link link_map q) u v) v u ≡ with_neighbors (without_link link_map q) u v
linked_in_two_writes link_map q u v = refl

-- Removing the middle of a chain.
middle_before : with_removal three 2 1 ≡ Some (link None (Some 3))
middle_before = refl

middle_after : with_removal three 2 3 ≡ Some (link (Some 1) None)
middle_after = refl

middle_gone : with_removal three 2 2 ≡ None
middle_gone = refl

-- Removing the start of a chain.
start_after : with_removal three 1 2 ≡ Some (link None (Some 3))
start_after = refl

start_end : with_removal three 1 3 ≡ Some (link (Some 2) None)
start_end = refl

-- Removing the end of a chain.
end_before : with_removal three 3 2 ≡ Some (link (Some 1) None)
end_before = refl

-- Removing a lone link.
lone_gone : with_removal lone 2 2 ≡ None
lone_gone = refl

lone_other : with_removal lone 2 1 ≡ Some (link None None)
lone_other = refl

-- Removing one of a cyclic chain of two leaves a link that names itself.
two_leave_one : with_removal ring_of_two 1 2 ≡ Some (link (Some 2) (Some 2))
two_leave_one = refl

two_leave_other : with_removal ring_of_two 2 1 ≡ Some (link (Some 1) (Some 1))
two_leave_other = refl

-- Removing a link that names itself.
one_gone : with_removal ring_of_one 2 2 ≡ None
one_gone = refl

one_other : with_removal ring_of_one 2 3 ≡ Some (link None None)
one_other = refl

-- Removing one of a cyclic chain of three leaves a cyclic chain of two.
three_leave_two_first : with_removal ring 2 1 ≡ Some (link (Some 3) (Some 3))
three_leave_two_first = refl

three_leave_two_second : with_removal ring 2 3 ≡ Some (link (Some 1) (Some 1))
three_leave_two_second = refl

-- Removing all of a cyclic chain of three.
all_gone : with_removal (with_removal (with_removal ring 2) 3) 1 1 ≡ None
all_gone = refl

-- Removing a free index changes nothing.
nothing_there : with_removal ring 7 2 ≡ Some (link (Some 1) (Some 3))
nothing_there = refl

-- Removing a new lone link.
lone_again : with_removal (with_lone three 7) 7 2 ≡ Some (link (Some 1) (Some 3))
lone_again = refl

-- Lists and chains without one of their items.
list_row : list_without (4 ∷ 2 ∷ 9 ∷ 7 ∷ []) 9 ≡ 4 ∷ 2 ∷ 7 ∷ []
list_row = refl

chain_row : chain_without (cyclic (4 ∷ 2 ∷ 9 ∷ [])) 4 ≡ cyclic (2 ∷ 9 ∷ [])
chain_row = refl

chain_emptied : chain_without (linear (4 ∷ [])) 4 ≡ linear []
chain_emptied = refl
