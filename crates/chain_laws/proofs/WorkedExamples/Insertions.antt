-- Examples of insertions of each kind.
use Rattle.std.specs.Prelude.{◌≡◌, ℕ, None, Some}
use Rattle.std.proofs.Common.{refl}
use Rattle.chain_laws.specs.Chains.{LinkMap}
use Rattle.chain_laws.specs.Joins.{with_prev_at, with_next_at, with_join, with_lone}
use Rattle.chain_laws.specs.Removals.{with_removal}
use Rattle.chain_laws.specs.Insertions.{link_before, link_after, with_insertion}
use Rattle.chain_laws.specs.declared.insert_kind.InsertKind.{InsertKind}
use Rattle.chain_laws.specs.declared.insert_kind.InsertKind.TheVariants.{Disconnected, SingleLinkCyclic, ChainEnd, ChainStart, NextTo, PrevTo, AtInterlink, Bridge}
use Rattle.chain_laws.proofs.ChainLemmas.LinkedLists.{link}

abbrev bare : LinkMap
bare i = None

-- The lone links 1, 2 and 3.
abbrev lone : LinkMap
lone = with_lone (with_lone (with_lone bare 1) 2) 3

-- The linear chain 1 2, and the lone link 3.
abbrev two_and_lone : LinkMap
two_and_lone = with_join lone 1 2

-- The linear chain 1 2 3.
abbrev three : LinkMap
three = with_join two_and_lone 2 3

-- The cyclic chain 1 2 3.
abbrev ring : LinkMap
ring = with_join three 3 1

-- The cyclic chain 1 2, and the lone link 3.
abbrev ring_of_two : LinkMap
ring_of_two = with_join two_and_lone 2 1

-- The cyclic chain 2, and the lone links 1 and 3.
abbrev ring_of_one : LinkMap
ring_of_one = with_join lone 2 2

-- A new link at q, of a kind that names links by their numbers.
abbrev with_insertion_as : LinkMap → InsertKind ℕ ℕ → ℕ → LinkMap
with_insertion_as link_map kind q = with_insertion link_map q (link_before (λ n. n) (λ n. n) link_map kind q) (link_after (λ n. n) (λ n. n) link_map kind q)

-- An insertion is a lone link and four writes.
inserted_in_four_writes : (link_map : LinkMap)
    → with_insertion link_map 7 (Some 1) (Some 2)
    ≡ with_prev_at (with_next_at (with_prev_at (with_next_at (with_lone link_map 7) (Some 1) (Some 7)) (Some 7) (Some 1)) (Some 7) (Some 2)) (Some 2) (Some 7)
inserted_in_four_writes link_map = refl

-- A new lone link.
alone_new : with_insertion_as three Disconnected 7 7 ≡ Some (link None None)
alone_new = refl

alone_other : with_insertion_as three Disconnected 7 3 ≡ Some (link (Some 2) None)
alone_other = refl

-- A new cyclic chain of one.
ring_new : with_insertion_as three SingleLinkCyclic 7 7 ≡ Some (link (Some 7) (Some 7))
ring_new = refl

ring_other : with_insertion_as three SingleLinkCyclic 7 1 ≡ Some (link None (Some 2))
ring_other = refl

-- After a lone link.
lone_end_start : with_insertion_as lone (ChainEnd 2) 7 2 ≡ Some (link None (Some 7))
lone_end_start = refl

lone_end_new : with_insertion_as lone (ChainEnd 2) 7 7 ≡ Some (link (Some 2) None)
lone_end_new = refl

-- After the end of a chain.
end_continues : with_insertion_as three (ChainEnd 3) 7 3 ≡ Some (link (Some 2) (Some 7))
end_continues = refl

end_new : with_insertion_as three (ChainEnd 3) 7 7 ≡ Some (link (Some 3) None)
end_new = refl

end_start : with_insertion_as three (ChainEnd 3) 7 1 ≡ Some (link None (Some 2))
end_start = refl

-- Before a lone link.
lone_start_new : with_insertion_as lone (ChainStart 2) 7 7 ≡ Some (link None (Some 2))
lone_start_new = refl

lone_start_end : with_insertion_as lone (ChainStart 2) 7 2 ≡ Some (link (Some 7) None)
lone_start_end = refl

-- Before the start of a chain.
start_new : with_insertion_as three (ChainStart 1) 7 7 ≡ Some (link None (Some 1))
start_new = refl

start_second : with_insertion_as three (ChainStart 1) 7 1 ≡ Some (link (Some 7) (Some 2))
start_second = refl

-- After the start.
next_to_start : with_insertion_as three (NextTo 1) 7 1 ≡ Some (link None (Some 7))
next_to_start = refl

next_to_start_new : with_insertion_as three (NextTo 1) 7 7 ≡ Some (link (Some 1) (Some 2))
next_to_start_new = refl

next_to_start_second : with_insertion_as three (NextTo 1) 7 2 ≡ Some (link (Some 7) (Some 3))
next_to_start_second = refl

-- After the middle.
next_to_middle : with_insertion_as three (NextTo 2) 7 7 ≡ Some (link (Some 2) (Some 3))
next_to_middle = refl

-- After the end.
next_to_end : with_insertion_as three (NextTo 3) 7 7 ≡ Some (link (Some 3) None)
next_to_end = refl

-- After a lone link.
next_to_lone : with_insertion_as lone (NextTo 2) 7 7 ≡ Some (link (Some 2) None)
next_to_lone = refl

-- After the last link of a cyclic chain.
next_to_last : with_insertion_as ring (NextTo 3) 7 7 ≡ Some (link (Some 3) (Some 1))
next_to_last = refl

next_to_last_first : with_insertion_as ring (NextTo 3) 7 1 ≡ Some (link (Some 7) (Some 2))
next_to_last_first = refl

-- After a link of a cyclic chain of two.
next_to_of_two : with_insertion_as ring_of_two (NextTo 1) 7 7 ≡ Some (link (Some 1) (Some 2))
next_to_of_two = refl

next_to_of_two_one : with_insertion_as ring_of_two (NextTo 1) 7 1 ≡ Some (link (Some 2) (Some 7))
next_to_of_two_one = refl

next_to_of_two_other : with_insertion_as ring_of_two (NextTo 1) 7 2 ≡ Some (link (Some 7) (Some 1))
next_to_of_two_other = refl

-- After a link that names itself: both name each other.
next_to_itself_new : with_insertion_as ring_of_one (NextTo 2) 7 7 ≡ Some (link (Some 2) (Some 2))
next_to_itself_new = refl

next_to_itself : with_insertion_as ring_of_one (NextTo 2) 7 2 ≡ Some (link (Some 7) (Some 7))
next_to_itself = refl

-- Before the middle.
prev_to_middle : with_insertion_as three (PrevTo 2) 7 7 ≡ Some (link (Some 1) (Some 2))
prev_to_middle = refl

prev_to_middle_second : with_insertion_as three (PrevTo 2) 7 2 ≡ Some (link (Some 7) (Some 3))
prev_to_middle_second = refl

prev_to_middle_start : with_insertion_as three (PrevTo 2) 7 1 ≡ Some (link None (Some 7))
prev_to_middle_start = refl

-- Before the start.
prev_to_start : with_insertion_as three (PrevTo 1) 7 7 ≡ Some (link None (Some 1))
prev_to_start = refl

-- Before the first link of a cyclic chain.
prev_to_first : with_insertion_as ring (PrevTo 1) 7 7 ≡ Some (link (Some 3) (Some 1))
prev_to_first = refl

-- Before a link that names itself: both name each other.
prev_to_itself_new : with_insertion_as ring_of_one (PrevTo 2) 7 7 ≡ Some (link (Some 2) (Some 2))
prev_to_itself_new = refl

prev_to_itself : with_insertion_as ring_of_one (PrevTo 2) 7 2 ≡ Some (link (Some 7) (Some 7))
prev_to_itself = refl

-- Between neighbors.
between_first : with_insertion_as three (AtInterlink 2 3) 7 2 ≡ Some (link (Some 1) (Some 7))
between_first = refl

between_new : with_insertion_as three (AtInterlink 2 3) 7 7 ≡ Some (link (Some 2) (Some 3))
between_new = refl

between_second : with_insertion_as three (AtInterlink 2 3) 7 3 ≡ Some (link (Some 7) None)
between_second = refl

-- Between the last and first link of a cyclic chain.
between_cyclic : with_insertion_as ring (AtInterlink 3 1) 7 7 ≡ Some (link (Some 3) (Some 1))
between_cyclic = refl

-- Between a link and itself.
between_itself : with_insertion_as ring_of_one (AtInterlink 2 2) 7 7 ≡ Some (link (Some 2) (Some 2))
between_itself = refl

-- Between two chains.
bridge_end : with_insertion_as two_and_lone (Bridge 2 3) 7 2 ≡ Some (link (Some 1) (Some 7))
bridge_end = refl

bridge_new : with_insertion_as two_and_lone (Bridge 2 3) 7 7 ≡ Some (link (Some 2) (Some 3))
bridge_new = refl

bridge_start : with_insertion_as two_and_lone (Bridge 2 3) 7 3 ≡ Some (link (Some 7) None)
bridge_start = refl

-- Between the end and start of a chain, which becomes cyclic.
close_end : with_insertion_as three (Bridge 3 1) 7 3 ≡ Some (link (Some 2) (Some 7))
close_end = refl

close_new : with_insertion_as three (Bridge 3 1) 7 7 ≡ Some (link (Some 3) (Some 1))
close_new = refl

close_start : with_insertion_as three (Bridge 3 1) 7 1 ≡ Some (link (Some 7) (Some 2))
close_start = refl

-- Between a lone link and itself.
close_lone_new : with_insertion_as lone (Bridge 2 2) 7 7 ≡ Some (link (Some 2) (Some 2))
close_lone_new = refl

close_lone : with_insertion_as lone (Bridge 2 2) 7 2 ≡ Some (link (Some 7) (Some 7))
close_lone = refl

-- A link inserted beside another and removed.
inserted_and_removed : with_removal (with_insertion_as three (NextTo 2) 7) 7 2 ≡ Some (link (Some 1) (Some 3))
inserted_and_removed = refl

inserted_and_removed_itself : with_removal (with_insertion_as ring_of_one (PrevTo 2) 7) 7 2 ≡ Some (link (Some 2) (Some 2))
inserted_and_removed_itself = refl
