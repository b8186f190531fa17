-- Values whose pointers change.
use Rattle.std.specs.Prelude.{◌≡◌, ℕ, Bool, List, map, All, Contains, Option, is_some}
use Rattle.chain_laws.specs.Chains.{LinkMap, AreDistinct}
use Rattle.arena_traits.specs.Arena.{IsValid}
use Rattle.arena_traits.specs.Entries.{ArenaView, found}
use Rattle.chain_links.specs.CanonicalLayouts.{IsCanonicalLayout}
use Rattle.chain_compaction.specs.Layouts.{AreAllMoves}

-- Moves of values from old to new pointers; `Becomes` states what a value becomes.
module _ {X G Gen U T : Type 0} (from : X → ℕ × G) (to : X → ℕ × Gen) (Becomes : X → U → T → Type 0) where
  -- Both pointers are valid, and the value has become what it should.
  abbrev pub IsMove : (ℕ → Option (G × U)) → (ℕ → Option (Gen × T)) → X → Type 0
  IsMove before after m = (was : IsValid before (from m)) × (is : IsValid after (to m)) × Becomes m was.value is.value

  -- All that was valid was moved, and all that is valid was moved there.
  pub record AreMoved (before : ℕ → Option (G × U)) (after : ℕ → Option (Gen × T)) (moves : List X) : Type 0 where
    pub values : All (IsMove before after) moves
    pub old : (p : ℕ × G) → IsValid before p → Contains (map from moves) p
    pub old_apart : AreDistinct (map (λ m. (from m).0) moves)
    pub new : (q : ℕ × Gen) → IsValid after q → Contains (map to moves) q
    pub new_apart : AreDistinct (map (λ m. (to m).0) moves)

abbrev pub IsPointerMove : {P Gen T : Type 0} → (P → ℕ × Gen) → (before after : ℕ → Option (Gen × T)) → P × P → Type 0
IsPointerMove key = IsMove (λ m. key m.0) (λ m. key m.1) (λ m t u. t ≡ u)

abbrev pub ArePointerMoves : {P Gen T : Type 0} → (P → ℕ × Gen) → (before after : ℕ → Option (Gen × T)) → List (P × P) → Type 0
ArePointerMoves key = AreMoved (λ m. key m.0) (λ m. key m.1) (λ m t u. t ≡ u)

abbrev pub FindsEntries : {Gen T : Type 0} → ArenaView Gen T → (ℕ → Option (Gen × T)) → Type 0
FindsEntries view_after entry = (i : ℕ) → found i view_after.entries ≡ entry i

-- Links are exactly where entries are.
abbrev pub HasLinksWhere : {Gen T : Type 0} → LinkMap → (ℕ → Option (Gen × T)) → Type 0
HasLinksWhere links entry = (i : ℕ) → is_some (links i) ≡ is_some (entry i)

abbrev pub CompressionMovesPointers : {P Gen : Type 0} → Type 0 → (P → ℕ × Gen) → Gen → (Gen → Gen) → Type 0
CompressionMovesPointers {P} {Gen} T key first following =
    (reset : Bool) (old new : ArenaView Gen T) (links new_links : LinkMap) (before after : ℕ → Option (Gen × T)) (moves : List (P × P))
    → FindsEntries old before → FindsEntries new after → HasLinksWhere links before
    → (layout : IsCanonicalLayout first following reset old links new new_links) → AreAllMoves key old links layout.generation moves
    → ArePointerMoves key before after moves

abbrev pub CompressionHasMoves : {Gen : Type 0} → Type 0 → Gen → (Gen → Gen) → Type 0
CompressionHasMoves {Gen} T first following =
    (reset : Bool) (old new : ArenaView Gen T) (links new_links : LinkMap) (before after : ℕ → Option (Gen × T))
    → FindsEntries old before → FindsEntries new after → HasLinksWhere links before → (layout : IsCanonicalLayout first following reset old links new new_links)
    → (moves : List ((ℕ × Gen) × (ℕ × Gen))) × AreAllMoves (λ p. p) old links layout.generation moves × ArePointerMoves (λ p. p) before after moves
