-- The keys of a set as a list of pointers.
use Rattle.std.specs.Prelude.{◌≡◌, ◌↔◌, ⊤, ℕ, List, [], ◌∷◌, map, All, IsSome, IfSome, Option, None, Some}
use Rattle.arena_traits.specs.Arena.{IsValid}
use Rattle.arena_traits.specs.Entries.{ArenaView, ArenaState}
use Rattle.arena_traits.specs.declared.cursor.Cursor.{Cursor}
use Rattle.arena_traits.specs.declared.cursor.Cursor.TheVariants.{Up, Down, Nowhere}
use Rattle.chain_laws.specs.Chains.{LinkMap}
use Rattle.chain_laws.specs.Walks.{IsWalk}
use Rattle.surject_arena.specs.Surjections.{Surjection, IsKey, IsKeyOf, AreKeysOf}

-- The pointers at these indexes, up to the first without an entry.
abbrev pub pointers_at : {Gen T : Type 0} → (ℕ → Option (Gen × T)) → List ℕ → List (ℕ × Gen)
pointers_at entry [] = []
pointers_at entry (i ∷ indexes) = elim (entry i) [ None ↦ [] | Some e ↦ (i, e.0) ∷ pointers_at entry indexes ]

module _ {A P Gen T : Type 0} {view : A → ArenaView Gen T} {entry : A → ℕ → Option (Gen × T)} (state : (a : A) → ArenaState (view a) (entry a)) (interlinks : A → LinkMap) (key : P → ℕ × Gen) where
  -- The pointers of the walk from p, if p is valid.
  abbrev pub ListsKeys : A → P → Option (List (ℕ × Gen)) → Type 0
  ListsKeys a p result = record {
    some : IsSome result ↔ IsValid (entry a) (key p);
    keys : IfSome result (λ keys. (walk : List ℕ) × IsWalk (interlinks a) (key p).0 walk × (keys ≡ pointers_at (entry a) walk));
  }

-- The cursor goes up or is at its end.
abbrev pub IsAscending : Cursor → Type 0
IsAscending (Up i) = ⊤
IsAscending (Down i) = ⊥
IsAscending Nowhere = ⊤

module _ {Gen K V : Type 0} (s : Surjection Gen K V) where
  -- The pointers of all keys, by ascending index.
  abbrev pub all_pointers : List (ℕ × Gen)
  all_pointers = map (λ e. e.0) s.keys.entries

  pub record ArePointersOf (w : ℕ × Gen) (pointers : List (ℕ × Gen)) : Type 0 where
    pub once : AreKeysOf s w (map (λ p. p.0) pointers)
    pub keys : All (λ p. IsKeyOf s w p) pointers

  -- `key_set`: the keys of the set of p, if p is valid.
  abbrev pub ListsSet : {P : Type 0} → (P → ℕ × Gen) → P → Option (List (ℕ × Gen)) → Type 0
  ListsSet key p result = record {
    some : IsSome result ↔ IsKey s (key p);
    pointers : IfSome result (λ pointers. (w : ℕ × Gen) × IsKeyOf s w (key p) × ArePointersOf w pointers);
  }
