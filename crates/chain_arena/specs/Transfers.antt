use Rattle.std.specs.Prelude.{◌≡◌, ℕ, zero, suc, ◌+◌, ◌≤◌, Bool, List, [], ◌∷◌, map, length, All, Option, None, Some, IfSome}
use Rattle.std.specs.Fn.{Mut, Called}
use Rattle.std.specs.List.{FoldsTo, range_with_len}
use Rattle.arena_core.specs.Invalidation.{value_in, is_overflow}
use Rattle.arena_core.specs.declared.invalidation.InvalidationOption.{InvalidationOption}
use Rattle.chain_laws.specs.Chains.{LinkMap}
use Rattle.chain_laws.specs.Insertions.{IsInsertPosition}
use Rattle.chain_laws.specs.Transfer.{end_before, end_after}
use Rattle.chain_laws.specs.Renamings.{IsRenaming}
use Rattle.chain_laws.specs.Arrangements.{place_in, IsLeastIndexOrder}
use Rattle.arena_traits.specs.Arena.{Arena, next_index}
use Rattle.arena_traits.specs.Entries.{ArenaView, entries, found, view_after_removal}
use Rattle.chain_links.specs.ChainArena.{LinkView, link_map, values_of, insert_between}
use Rattle.chain_links.specs.CanonicalLayouts.{IsCanonicalLayout}

-- Its old pointer and value (with overflow), new pointer and new value.
pub record TransferredLink (Q P U T : Type 0) : Type 0 where
  pub from : Q
  pub value : InvalidationOption U
  pub to : P
  pub returned : T

-- Whether each of n removals overflows the counter.
abbrev pub overflows : {Gen : Type 0} → (Gen → Gen) → (Gen → Bool) → ℕ → Gen → List Bool
overflows following wraps zero g = []
overflows following wraps (suc n) g = wraps g ∷ overflows following wraps n (following g)

-- The view after these removals, in order.
abbrev pub entries_removed : {Gen T : Type 0} → (Gen → Gen) → ArenaView Gen T → List ℕ → ArenaView Gen T
entries_removed following s [] = s
entries_removed following s (i ∷ rest) = entries_removed following (view_after_removal following s i) rest

abbrev pub old_index : {Q P G U T : Type 0} → (Q → ℕ × G) → TransferredLink Q P U T → ℕ
old_index key c = (key c.from).0

module _ {Q P G Gen U T F : Type 0} (key : Q → ℕ × G) (new_key : P → ℕ × Gen) (following : G → G) (wraps : G → Bool) (call : Mut F (Q × (InvalidationOption U × (P × Unit {0}))) T) where
  -- The closure's call for a link.
  abbrev pub IsMapCall : F → TransferredLink Q P U T → F → Type 0
  IsMapCall f c next = Called call f (c.from, (c.value, (c.to, tt))) c.returned next

  -- All links of a source are moved to another arena.
  pub record IsTransfer (generation : Gen) (f : F) (source : ArenaView G U) (interlinks : LinkMap) (source_after : ArenaView G U) (old new : Arena Gen (LinkView T)) : Type 0 where
    -- Chains by least index, a linear one from its start, a cyclic one from its least index.
    pub transferred : List (TransferredLink Q P U T)
    pub order : IsLeastIndexOrder interlinks (map (old_index key) transferred)
    pub keys : map (λ c. new_key c.to) transferred ≡ map (λ k. (k, generation)) (range_with_len 1 (length transferred))
    pub renamed : IsRenaming (place_in (map (old_index key) transferred)) interlinks (link_map new)
    pub last : F
    pub in_turn : FoldsTo IsMapCall f transferred last
    pub was_stored : All (λ c. found (old_index key c) source.entries ≡ Some ((key c.from).1, value_in c.value)) transferred
    pub overflow : IfSome source.counter (λ g. map (λ c. is_overflow c.value) transferred ≡ overflows following wraps (length transferred) g)
    -- Nothing else changes but the counter, the capacity and the placements.
    pub values : entries (values_of new) ≡ map (λ c. (new_key c.to, c.returned)) transferred
    pub slots : length new.slots ≡ length transferred
    pub state : new ≡ record old {
      slots = new.slots;
      counter = generation;
      freed = [];
      capacity = new.capacity;
      stack_capacity = new.stack_capacity;
      placed = old.placed + length transferred;
    }
    pub removals : source_after ≡ entries_removed following source (map (old_index key) transferred)
    pub empty : source_after.entries ≡ []

abbrev pub ArrangesAlike : {Q P G Gen U T F : Type 0} → (Q → ℕ × G) → (P → ℕ × Gen) → G → (G → G) → (G → Bool) → Mut F (Q × (InvalidationOption U × (P × Unit {0}))) T → Type 0
ArrangesAlike {Q} {P} {G} {Gen} {U} {T} {F} key new_key first following wraps call =
    (reset : Bool) (generation : Gen) (f : F) (source compressed source_after : ArenaView G U) (links compressed_links : LinkMap) (old new : Arena Gen (LinkView T))
    (layout : IsCanonicalLayout first following reset source links compressed compressed_links) (transfer : IsTransfer key new_key following wraps call generation f source links source_after old new)
    → (layout.indexes ≡ map (old_index key) transfer.transferred) × (compressed_links ≡ link_map new)

-- The ends of a chain at the `m` indexes before `q`, or none if `m` is 0.
abbrev pub AreEnds : {I : Type 0} → (I → ℕ) → Option (I × I) → ℕ → ℕ → Type 0
AreEnds number None m q = m ≡ 0
AreEnds number (Some ends) m q = (1 ≤ m) × (number ends.0 + m ≡ q) × (number ends.1 + 1 ≡ q)

module _ {Gen T : Type 0} (is_cyclic : Bool) (m : ℕ) (now : Arena Gen (LinkView T)) where
  -- An insertion position after the last `m` indexes.
  abbrev pub HasPositionAtEnd : Type 0
  HasPositionAtEnd = IsInsertPosition (link_map now) (next_index now) (end_before is_cyclic m (next_index now)) (end_after is_cyclic m (next_index now))

  -- The arena with a link there.
  abbrev pub with_link_at_end : T → Arena Gen (LinkView T)
  with_link_at_end t = insert_between now t (end_before is_cyclic m (next_index now)) (end_after is_cyclic m (next_index now))
