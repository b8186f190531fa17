-- What a compression does to links.
use Rattle.std.specs.Prelude.{◌≡◌, ℕ, ◌+◌, ◌*◌, ◌≤◌, List, map, length}
use Rattle.std.specs.Fn.{Mut}
use denote.Ref.{MutBor}
use Rattle.chain_laws.specs.Renamings.{IsRenaming}
use Rattle.chain_laws.specs.Arrangements.{place_in}
use Rattle.arena_traits.specs.Arena.{Arena}
use Rattle.arena_traits.specs.Entries.{entries, index_of}
use Rattle.arena_traits.specs.Compressions.{VisitsAll}
use Rattle.arena_base.specs.GatheredSlots.{arena_of_values}
use Rattle.chain_links.specs.ChainArena.{LinkView, link_map, values_of}

-- The link of the k-th least index is now at k; the stack's capacity stays.
pub record ClosesHoles {Gen T : Type 0} (old new : Arena Gen (LinkView T)) : Type 0 where
  pub renamed : IsRenaming (place_in (map index_of (entries (values_of old)))) (link_map old) (link_map new)
  pub stack_capacity : new.stack_capacity ≡ old.stack_capacity

-- Links moved to the front, values as the closure left them, at most four touches per slot.
pub record AreGathered {F P T Gen : Type 0} (g : Mut F (P × (MutBor T × (P × Unit {0}))) (Unit {0} × (MutBor T × Unit {0}))) (key : P → ℕ × Gen) (f : F) (old new : Arena Gen (LinkView T)) : Type 0 where
  pub values : List T
  pub touches : ℕ
  pub few : touches ≤ 4 * length old.slots
  pub arena : values_of new ≡ record (arena_of_values (values_of old) values) { touched = old.touched + touches }
  pub visits : VisitsAll g key f (entries (values_of old)) (entries (values_of new))
  pub renamed : IsRenaming (place_in (map index_of (entries (values_of old)))) (link_map old) (link_map new)
