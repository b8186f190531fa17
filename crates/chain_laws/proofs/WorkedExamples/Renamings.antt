-- Examples of orders of all links, their runs, moves, and closed holes.
use Rattle.std.specs.Prelude.{◌≡◌, [], ◌∷◌, None, Some}
use Rattle.std.specs.Option.{option_map}
use Rattle.std.specs.List.{range_with_len}
use Rattle.std.proofs.Common.{refl}
use Rattle.chain_laws.specs.Chains.{LinkMap, linear, cyclic, all_items, prev_of, next_of}
use Rattle.chain_laws.specs.Joins.{with_prev_at, with_next_at, with_join, with_lone}
use Rattle.chain_laws.specs.Arrangements.{place_in, in_runs}
use Rattle.chain_laws.specs.Moves.{moved_index, with_link_moved, with_link_placed, gathered_place}
use Rattle.chain_laws.proofs.ChainLemmas.LinkedLists.{link}

abbrev bare : LinkMap
bare i = None

-- The linear chain 1 4, and the cyclic chain 2 3.
abbrev two_chains : LinkMap
two_chains = with_join (with_join (with_join (with_lone (with_lone (with_lone (with_lone bare 1) 2) 3) 4) 1 4) 2 3) 3 2

-- The cyclic chain 2.
abbrev ring_of_one : LinkMap
ring_of_one = with_join (with_lone bare 2) 2 2

-- The linear chain 3 4.
abbrev pair : LinkMap
pair = with_join (with_lone (with_lone bare 3) 4) 3 4

-- Links of the two chains.
two_chains_end : two_chains 4 ≡ Some (link (Some 1) None)
two_chains_end = refl

two_chains_ring : two_chains 2 ≡ Some (link (Some 3) (Some 3))
two_chains_ring = refl

-- The chains one after another.
order_row : all_items (linear (1 ∷ 4 ∷ []) ∷ cyclic (2 ∷ 3 ∷ []) ∷ []) ≡ 1 ∷ 4 ∷ 2 ∷ 3 ∷ []
order_row = refl

-- The k-th index in the order moves to k; others do not move.
first_place : place_in (1 ∷ 4 ∷ 2 ∷ 3 ∷ []) 1 ≡ Some 1
first_place = refl

second_place : place_in (1 ∷ 4 ∷ 2 ∷ 3 ∷ []) 4 ≡ Some 2
second_place = refl

third_place : place_in (1 ∷ 4 ∷ 2 ∷ 3 ∷ []) 2 ≡ Some 3
third_place = refl

fourth_place : place_in (1 ∷ 4 ∷ 2 ∷ 3 ∷ []) 3 ≡ Some 4
fourth_place = refl

no_place : place_in (1 ∷ 4 ∷ 2 ∷ 3 ∷ []) 5 ≡ None
no_place = refl

-- The runs of the two chains, in either order.
runs_row : in_runs 1 (linear (1 ∷ 4 ∷ []) ∷ cyclic (2 ∷ 3 ∷ []) ∷ []) ≡ linear (1 ∷ 2 ∷ []) ∷ cyclic (3 ∷ 4 ∷ []) ∷ []
runs_row = refl

runs_row_swapped : in_runs 1 (cyclic (2 ∷ 3 ∷ []) ∷ linear (1 ∷ 4 ∷ []) ∷ []) ≡ cyclic (1 ∷ 2 ∷ []) ∷ linear (3 ∷ 4 ∷ []) ∷ []
runs_row_swapped = refl

-- The items of the runs.
numbers_row : range_with_len 1 4 ≡ 1 ∷ 2 ∷ 3 ∷ 4 ∷ []
numbers_row = refl

-- A link that names itself moves from 2 to 1, as its own neighbor.
ring_moves : with_link_moved ring_of_one 2 1 1 ≡ Some (link (Some 1) (Some 1))
ring_moves = refl

ring_leaves : with_link_moved ring_of_one 2 1 2 ≡ None
ring_leaves = refl

ring_put : with_link_placed ring_of_one 2 1 1 ≡ Some (link (Some 2) (Some 2))
ring_put = refl

ring_known : with_prev_at (with_next_at (with_link_placed ring_of_one 2 1) (option_map (moved_index 2 1) (prev_of ring_of_one 2)) (Some 1)) (option_map (moved_index 2 1) (next_of ring_of_one 2)) (Some 1) 1
    ≡ Some (link (Some 1) (Some 1))
ring_known = refl

-- The start of the chain 3 4 moves to 2; only the end is rewritten.
start_moves : with_link_moved pair 3 2 2 ≡ Some (link None (Some 4))
start_moves = refl

end_names : with_link_moved pair 3 2 4 ≡ Some (link (Some 2) None)
end_names = refl

start_leaves : with_link_moved pair 3 2 3 ≡ None
start_leaves = refl

end_known : with_prev_at (with_next_at (with_link_placed pair 3 2) (option_map (moved_index 3 2) (prev_of pair 3)) (Some 2)) (option_map (moved_index 3 2) (next_of pair 3)) (Some 2) 4
    ≡ Some (link (Some 2) None)
end_known = refl

-- A link of a cyclic chain of two moves.
ring_of_two_moves : with_link_moved two_chains 2 7 3 ≡ Some (link (Some 7) (Some 7))
ring_of_two_moves = refl

-- A link of another chain stays.
other_chain_stays : with_link_moved two_chains 2 7 4 ≡ Some (link (Some 1) None)
other_chain_stays = refl

-- A link that moves to its own index changes nothing.
moves_nowhere : with_link_moved two_chains 4 4 1 ≡ Some (link None (Some 4))
moves_nowhere = refl

-- Gathering the chain 3 4: none moved, 3 moved, both moved.
none_gone : gathered_place pair [] 2 3 ≡ Some 3
none_gone = refl

one_gone : gathered_place pair (3 ∷ []) 3 3 ≡ Some 1
one_gone = refl

one_waits : gathered_place pair (3 ∷ []) 3 4 ≡ Some 4
one_waits = refl

both_gone : gathered_place pair (3 ∷ 4 ∷ []) 4 4 ≡ Some 2
both_gone = refl

-- The gathered chain.
closed_start : with_link_moved (with_link_moved pair 3 1) 4 2 1 ≡ Some (link None (Some 2))
closed_start = refl

closed_end : with_link_moved (with_link_moved pair 3 1) 4 2 2 ≡ Some (link (Some 1) None)
closed_end = refl
