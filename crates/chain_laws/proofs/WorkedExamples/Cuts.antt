-- Examples of cuts in linear and cyclic chains.
use Rattle.std.specs.Prelude.{◌≡◌, None, Some}
use Rattle.std.proofs.Common.{refl}
use Rattle.chain_laws.specs.Chains.{LinkMap}
use Rattle.chain_laws.specs.Joins.{with_prev_at, with_next_at, with_join, with_lone}
use Rattle.chain_laws.specs.Cuts.{without_pair}
use Rattle.chain_laws.proofs.ChainLemmas.LinkedLists.{link}

abbrev bare : LinkMap
bare i = None

-- The lone links 1, 2 and 3.
abbrev lone : LinkMap
lone = with_lone (with_lone (with_lone bare 1) 2) 3

-- The linear chain 1 2 3.
abbrev three : LinkMap
three = with_join (with_join lone 1 2) 2 3

-- The cyclic chain 1 2 3.
abbrev ring : LinkMap
ring = with_join three 3 1

-- A cut is two writes.
cut_in_two_writes : (link_map : LinkMap) → without_pair link_map 1 2 ≡ with_prev_at (with_next_at link_map (Some 1) None) (Some 2) None
cut_in_two_writes link_map = refl

-- A linear chain cut after its start.
start_alone : without_pair three 1 2 1 ≡ Some (link None None)
start_alone = refl

rest_starts : without_pair three 1 2 2 ≡ Some (link None (Some 3))
rest_starts = refl

rest_ends : without_pair three 1 2 3 ≡ Some (link (Some 2) None)
rest_ends = refl

-- A cyclic chain cut between last and first.
ring_starts : without_pair ring 3 1 1 ≡ Some (link None (Some 2))
ring_starts = refl

ring_ends : without_pair ring 3 1 3 ≡ Some (link (Some 2) None)
ring_ends = refl

-- A cyclic chain cut inside.
ring_cut_inside : without_pair ring 1 2 2 ≡ Some (link None (Some 3))
ring_cut_inside = refl

ring_continues : without_pair ring 1 2 3 ≡ Some (link (Some 2) (Some 1))
ring_continues = refl

ring_ends_inside : without_pair ring 1 2 1 ≡ Some (link (Some 3) None)
ring_ends_inside = refl

-- A link that names itself, cut, is alone.
ring_of_one : without_pair (with_join lone 2 2) 2 2 2 ≡ Some (link None None)
ring_of_one = refl

-- A cyclic chain of two, cut.
ring_of_two_end : without_pair (with_join (with_join lone 1 2) 2 1) 1 2 1 ≡ Some (link (Some 2) None)
ring_of_two_end = refl

ring_of_two_start : without_pair (with_join (with_join lone 1 2) 2 1) 1 2 2 ≡ Some (link None (Some 1))
ring_of_two_start = refl

-- Joined links cut again are alone.
joined_and_cut : without_pair (with_join lone 1 2) 1 2 2 ≡ Some (link None None)
joined_and_cut = refl
