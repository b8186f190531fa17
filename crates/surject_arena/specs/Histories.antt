-- Lists of insertions and unions.
use Rattle.std.specs.Prelude.{◌≡◌, ◌↔◌, ◌⊎◌, ℕ, ◌+◌, ◌*◌, ◌^◌, ◌≤◌, List, [], ◌∷◌}
use Rattle.surject_arena.specs.Surjections.{Surjection, IsKey, AreInOneSet, IsSurjection}
use Rattle.surject_arena.specs.SetCalls.{GrowsKeys, IsSetAdded, IsKeyAdded, AreUnited}

-- A key starts a set or joins one, two sets unite, or a capacity grows.
pub data Change (Gen : Type 0) : Type 0 where
  starts_set : ℕ × Gen → Change Gen
  adds_key : ℕ × Gen → ℕ × Gen → Change Gen
  unites : ℕ × Gen → ℕ × Gen → Change Gen
  grows : Change Gen

module _ {Gen K V : Type 0} (following : Gen → Gen) where
  abbrev pub Makes : Surjection Gen K V → Change Gen → Surjection Gen K V → Type 0
  Makes old (starts_set p) new = (k : K) × (t : V) × IsSetAdded old new k t p
  Makes old (adds_key p q) new = (k : K) × IsKeyAdded old new p k q
  Makes old (unites p q) new = (t : V) × (r : ℕ × Gen) × AreUnited old new following p q t r
  Makes old grows new = GrowsKeys old new

  -- Changes one after another, each from a surjection.
  abbrev pub History : Surjection Gen K V → List (Change Gen) → Surjection Gen K V → Type 0
  History old [] new = new ≡ old
  History old (change ∷ changes) new = IsSurjection old × (mid : Surjection Gen K V) × Makes old change mid × History mid changes new

module _ {Gen : Type 0} where
  abbrev pub pairs_of : List (Change Gen) → List ((ℕ × Gen) × (ℕ × Gen))
  pairs_of [] = []
  pairs_of (starts_set p ∷ changes) = pairs_of changes
  pairs_of (adds_key p q ∷ changes) = (p, q) ∷ pairs_of changes
  pairs_of (unites p q ∷ changes) = (p, q) ∷ pairs_of changes
  pairs_of (grows ∷ changes) = pairs_of changes

  abbrev pub HasPair : List ((ℕ × Gen) × (ℕ × Gen)) → ℕ × Gen → ℕ × Gen → Type 0
  HasPair [] p q = ⊥
  HasPair (pair ∷ pairs) p q = (pair ≡ (p, q)) ⊎ HasPair pairs p q

  abbrev pub insertion_count : List (Change Gen) → ℕ
  insertion_count [] = 0
  insertion_count (starts_set p ∷ changes) = 1 + insertion_count changes
  insertion_count (adds_key p q ∷ changes) = 1 + insertion_count changes
  insertion_count (unites p q ∷ changes) = insertion_count changes
  insertion_count (grows ∷ changes) = insertion_count changes

-- The least equivalence with these pairs.
pub data AreEquated {Gen : Type 0} (pairs : List ((ℕ × Gen) × (ℕ × Gen))) : ℕ × Gen → ℕ × Gen → Type 0 where
  itself : (p : ℕ × Gen) → AreEquated pairs p p
  paired : (p q : ℕ × Gen) → HasPair pairs p q → AreEquated pairs p q
  turned : (p q : ℕ × Gen) → AreEquated pairs p q → AreEquated pairs q p
  chained : (p q r : ℕ × Gen) → AreEquated pairs p q → AreEquated pairs q r → AreEquated pairs p r

-- After changes from no keys, keys are in one set exactly if the pairs equate them.
abbrev pub SetsAreTheClasses : (Gen K V : Type 0) → Type 0
SetsAreTheClasses Gen K V = (following : Gen → Gen) (old new : Surjection Gen K V) (changes : List (Change Gen)) → old.keys.entries ≡ [] → History following old changes new → IsSurjection new
    → (p q : ℕ × Gen) → AreInOneSet new p q ↔ (IsKey new p × IsKey new q × AreEquated (pairs_of changes) p q)

-- From no keys, changes that insert at most 2 ^ d keys redirect at most d for each of them.
abbrev pub RedirectsFew : (Gen K V : Type 0) → Type 0
RedirectsFew Gen K V = (following : Gen → Gen) (old new : Surjection Gen K V) (changes : List (Change Gen)) (d : ℕ) → old.keys.entries ≡ [] → History following old changes new → insertion_count changes ≤ 2 ^ d
    → new.redirected ≤ old.redirected + insertion_count changes * d
