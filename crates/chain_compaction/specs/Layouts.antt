-- Canonical compression.
use Rattle.std.specs.Prelude.{◌≡◌, ℕ, ◌+◌, ◌*◌, ◌≤◌, ◌<◌, List, [], ◌∷◌, ◌++◌, Vec, vec_len, vec_capacity, map, length, Option, Some}
use Rattle.std.specs.Option.{option_map}
use Rattle.std.specs.Fn.{Mut, Called}
use Rattle.std.specs.List.{FoldsTo, range_with_len}
use Rattle.chain_laws.specs.Chains.{LinkMap}
use Rattle.chain_laws.specs.Renamings.{IsRenaming}
use Rattle.chain_laws.specs.Arrangements.{place_in, IsLeastIndexOrder}
use Rattle.arena_traits.specs.Arena.{Arena}
use Rattle.arena_traits.specs.Entries.{ArenaView, found}
use Rattle.arena_base.specs.GatheredSlots.{arena_of_values}
use Rattle.chain_links.specs.ChainArena.{LinkView, link_map, entry, values_of, ptr_at}

-- The old and new pointers of all links in least-index order, the new ones from 1 on with one
-- generation.
pub record AreAllMoves {P Gen T : Type 0} (key : P → ℕ × Gen) (old : ArenaView Gen T) (links : LinkMap) (generation : Gen) (moves : List (P × P)) : Type 0 where
  pub indexes : List ℕ
  pub order : IsLeastIndexOrder links indexes
  pub from : map (λ m. Some (key m.0)) moves ≡ map (ptr_at (λ i. found i old.entries)) indexes
  pub to : map (λ m. key m.1) moves ≡ map (λ k. (k, generation)) (range_with_len 1 (length indexes))

abbrev pub IsReportedMove : {F P : Type 0} → Mut F (P × (P × Unit {0})) (Unit {0}) → F → P × P → F → Type 0
IsReportedMove g f move next = Called g f (move.0, (move.1, tt)) tt next

-- The closure is called for each link in least-index order.
pub record ReportsLayout {F P Gen T : Type 0} (g : Mut F (P × (P × Unit {0})) (Unit {0})) (key : P → ℕ × Gen) (old : ArenaView Gen T) (links : LinkMap) (generation : Gen) (f : F) : Type 0 where
  pub moves : List (P × P)
  pub last : F
  pub in_turn : FoldsTo (IsReportedMove g) f moves last
  pub all : AreAllMoves key old links generation moves

-- A visitor sees links by their old and new pointers.
module _ {F P Gen : Type 0} (g : F → P → P → F → Type 0) (key : P → ℕ × Gen) where
  -- The visitor sees the links at `indexes`, now from n on with one generation.
  pub record ReportsMoves (pointer : ℕ → Option (ℕ × Gen)) (generation : Gen) (n : ℕ) (f : F) (indexes : List ℕ) (last : F) : Type 0 where
    pub moves : List (P × P)
    pub in_turn : FoldsTo (λ s m t. g s m.0 m.1 t) f moves last
    pub from : map (λ m. Some (key m.0)) moves ≡ map pointer indexes
    pub to : map (λ m. key m.1) moves ≡ map (λ k. (k, generation)) (range_with_len n (length indexes))

  -- The visitor sees all links in least-index order.
  pub record ReportsAll {T : Type 0} (old : ArenaView Gen T) (links : LinkMap) (generation : Gen) (f last : F) : Type 0 where
    pub indexes : List ℕ
    pub order : IsLeastIndexOrder links indexes
    pub reports : ReportsMoves (ptr_at (λ i. found i old.entries)) generation 1 f indexes last

  -- The links are arranged canonically, with the counter as generation.
  pub record AreArranged {T : Type 0} (f last : F) (old new : Arena Gen (LinkView T)) : Type 0 where
    pub indexes : List ℕ
    pub order : IsLeastIndexOrder (link_map old) indexes
    pub renamed : IsRenaming (place_in indexes) (link_map old) (link_map new)
    pub values : List T
    pub was_stored : map (λ t. Some t) values ≡ map (λ i. option_map (λ e. e.1) (entry old i)) indexes
    pub touches : ℕ
    pub few : touches ≤ 4 * length old.slots + 12 * length indexes
    pub arena : values_of new ≡ record (arena_of_values (values_of old) values) { touched = old.touched + touches }
    pub reports : ReportsMoves (ptr_at (entry old)) old.counter 1 f indexes last

pub record IsPairListed {P A : Type 0} (old : Vec (P × P) A) (from to : P) (new : Vec (P × P) A) : Type 0 where
  pub listed : vec_len old < vec_capacity old → (new.items ≡ old.items ++ (from, to) ∷ []) × (vec_len new ≡ vec_len old + 1) × (vec_capacity old ≤ vec_capacity new)
