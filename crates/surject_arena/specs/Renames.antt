-- The sets' new names in a compression.
use Rattle.std.specs.Prelude.{◌≡◌, ℕ, ◌≤◌, List, [], ◌∷◌, map, Some, slice_index_or}
use Rattle.arena_traits.specs.Compressions.{Visit}
use Rattle.chain_laws.specs.Arrangements.{place_in}
use Rattle.surject_arena.specs.declared.members.Member.{Member}

-- The list has each index's place at that index.
abbrev pub HasPlaces : List ℕ → List ℕ → Type 0
HasPlaces indexes places = (i k : ℕ) → place_in indexes i ≡ Some k → slice_index_or places i 0 ≡ k

-- The items match in order.
abbrev pub AreMatched : {X Y : Type 0} → (X → Y → Type 0) → List X → List Y → Type 0
AreMatched matches [] [] = Unit {0}
AreMatched matches [] (y ∷ ys) = ⊥
AreMatched matches (x ∷ xs) [] = ⊥
AreMatched matches (x ∷ xs) (y ∷ ys) = matches x y × AreMatched matches xs ys

module _ {P Gen K : Type 0} where
  -- The member's set is renamed by its listed place.
  abbrev pub IsRenamed : (P → ℕ × Gen) → List ℕ → Gen → ℕ → Member P K → Member P K → Type 0
  IsRenamed key places generation greatest old new = (k : ℕ) → slice_index_or places (key old.set).0 0 ≡ k → 1 ≤ k → k ≤ greatest → key new.set ≡ (k, generation)

  abbrev pub keys_of : List ((ℕ × Gen) × Member P K) → List ((ℕ × Gen) × K)
  keys_of es = map (λ e. (e.0, e.1.key)) es

abbrev pub visit : {P T : Type 0} → P → T → P → T → Visit P T
visit p value q left = record { from = p; value = value; to = q; left = left }
