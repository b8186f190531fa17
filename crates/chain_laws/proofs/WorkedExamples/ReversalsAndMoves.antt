-- Examples of reversals of a chain, and of moves of links.
use Rattle.std.specs.Prelude.{◌≡◌, [], ◌∷◌, None, Some}
use Rattle.std.proofs.Common.{refl}
use Rattle.chain_laws.specs.Chains.{LinkMap}
use Rattle.chain_laws.specs.Joins.{with_join, with_lone}
use Rattle.chain_laws.specs.Reversals.{with_turns}
use Rattle.chain_laws.specs.MoveAfter.{with_move_after}
use Rattle.chain_laws.specs.Orders.{with_order}
use Rattle.chain_laws.proofs.ChainLemmas.LinkedLists.{link}

abbrev bare : LinkMap
bare i = None

-- The linear chain 1 2 3, and the lone link 4.
abbrev three : LinkMap
three = with_join (with_join (with_lone (with_lone (with_lone (with_lone bare 1) 2) 3) 4) 1 2) 2 3

-- The cyclic chain 1 2 3, and the lone link 4.
abbrev ring : LinkMap
ring = with_join three 3 1

-- The linear chain, reversed from its middle, is 3 2 1.
reversed_start : with_turns three (2 ∷ 3 ∷ 1 ∷ []) 3 ≡ Some (link None (Some 2))
reversed_start = refl

reversed_middle : with_turns three (2 ∷ 3 ∷ 1 ∷ []) 2 ≡ Some (link (Some 3) (Some 1))
reversed_middle = refl

reversed_end : with_turns three (2 ∷ 3 ∷ 1 ∷ []) 1 ≡ Some (link (Some 2) None)
reversed_end = refl

-- The cyclic chain, reversed, is 1 3 2.
reversed_ring : with_turns ring (1 ∷ 2 ∷ 3 ∷ []) 1 ≡ Some (link (Some 2) (Some 3))
reversed_ring = refl

-- A lone link stays as it is.
reversed_alone : with_turns three (4 ∷ []) 4 ≡ three 4
reversed_alone = refl

-- 1 moved after 3: the chain is 2 3 1.
moved_onward : with_move_after three 1 3 1 ≡ Some (link (Some 3) None)
moved_onward = refl

moved_first : with_move_after three 1 3 2 ≡ Some (link None (Some 3))
moved_first = refl

-- 3 moved after 1: the chain is 1 3 2.
moved_back : with_move_after three 3 1 3 ≡ Some (link (Some 1) (Some 2))
moved_back = refl

-- 2 moved after 4, out of the ring: the ring is 1 3, and 4 is followed by 2.
moved_out : with_move_after ring 2 4 2 ≡ Some (link (Some 4) None)
moved_out = refl

left_ring : with_move_after ring 2 4 1 ≡ Some (link (Some 3) (Some 3))
left_ring = refl

-- 2 moved after 1, where it is already.
moved_nowhere : with_move_after three 2 1 2 ≡ three 2
moved_nowhere = refl

-- The linear chain put in the order 3 1 2.
ordered_first : with_order three (3 ∷ 1 ∷ 2 ∷ []) 3 ≡ Some (link None (Some 1))
ordered_first = refl

ordered_middle : with_order three (3 ∷ 1 ∷ 2 ∷ []) 1 ≡ Some (link (Some 3) (Some 2))
ordered_middle = refl

ordered_last : with_order three (3 ∷ 1 ∷ 2 ∷ []) 2 ≡ Some (link (Some 1) None)
ordered_last = refl

-- The ring put in the order 1 3 2.
ordered_ring : with_order ring (1 ∷ 3 ∷ 2 ∷ []) 1 ≡ Some (link (Some 2) (Some 3))
ordered_ring = refl

-- 2 and 1 put after 4: the linear chain is 3, the other one 4 2 1.
left_alone : with_order three (4 ∷ 2 ∷ 1 ∷ []) 3 ≡ Some (link None None)
left_alone = refl

put_after : with_order three (4 ∷ 2 ∷ 1 ∷ []) 2 ≡ Some (link (Some 4) (Some 1))
put_after = refl

-- 3 put after 1: 2 stays after them.
others_stay : with_order three (1 ∷ 3 ∷ []) 2 ≡ Some (link (Some 3) None)
others_stay = refl
