-- Renamings.
use Rattle.std.specs.Prelude.{◌≡◌, ◌↔◌, ℕ, List, [], ◌∷◌, Option, Some}
use Rattle.std.specs.Option.{option_and_then}
use Rattle.chain_laws.specs.Chains.{LinkMap, Chain, linear, cyclic, HasLink, IsWellLinked, IsChain, AreChains}
use Rattle.chain_laws.specs.Neighbors.{AreNeighbors}

-- Each link is at its new index and names its neighbors there, no two share an index, and there are
-- no others.
pub record IsRenaming (to : ℕ → Option ℕ) (old new : LinkMap) : Type 0 where
  pub apart : (i j k : ℕ) → to i ≡ Some k → to j ≡ Some k → i ≡ j
  pub each : (i : ℕ) → HasLink old i → (k : ℕ) × (to i ≡ Some k)
  pub onto : (k : ℕ) → HasLink new k → (i : ℕ) × HasLink old i × (to i ≡ Some k)
  pub carries : (i k : ℕ) (before after : Option ℕ) → old i ≡ Some (record { prev = before; next = after }) → to i ≡ Some k
      → new k ≡ Some (record { prev = option_and_then to before; next = option_and_then to after })

abbrev pub AreImages : (ℕ → Option ℕ) → List ℕ → List ℕ → Type 0
AreImages to [] [] = Unit {0}
AreImages to [] (y ∷ ys) = ⊥
AreImages to (x ∷ xs) [] = ⊥
AreImages to (x ∷ xs) (y ∷ ys) = (to x ≡ Some y) × AreImages to xs ys

-- The chain of the new indexes, linear or cyclic as before.
abbrev pub IsImage : (ℕ → Option ℕ) → Chain → Chain → Type 0
IsImage to (linear xs) (linear ys) = AreImages to xs ys
IsImage to (cyclic xs) (cyclic ys) = AreImages to xs ys
IsImage to (linear xs) (cyclic ys) = ⊥
IsImage to (cyclic xs) (linear ys) = ⊥

abbrev pub AreImagesOf : (ℕ → Option ℕ) → List Chain → List Chain → Type 0
AreImagesOf to [] [] = Unit {0}
AreImagesOf to [] (d ∷ others) = ⊥
AreImagesOf to (c ∷ chains) [] = ⊥
AreImagesOf to (c ∷ chains) (d ∷ others) = IsImage to c d × AreImagesOf to chains others

-- A renaming keeps the arena well linked.
abbrev pub RenamingAgrees : Type 0
RenamingAgrees = (to : ℕ → Option ℕ) (old new : LinkMap) → IsRenaming to old new → IsWellLinked old → IsWellLinked new

-- i and j are neighbors exactly if their new indexes are.
abbrev pub RenamingCarriesPairs : Type 0
RenamingCarriesPairs = (to : ℕ → Option ℕ) (old new : LinkMap) (i j k m : ℕ) → IsRenaming to old new → HasLink old i → to i ≡ Some k → to j ≡ Some m
    → AreNeighbors old i j ↔ AreNeighbors new k m

-- The image of a chain is a chain.
abbrev pub RenamingCarriesChains : Type 0
RenamingCarriesChains = (to : ℕ → Option ℕ) (old new : LinkMap) (c d : Chain) → IsRenaming to old new → IsChain old c → IsImage to c d → IsChain new d

-- The images of all chains are all new chains.
abbrev pub RenamingCarriesAll : Type 0
RenamingCarriesAll = (to : ℕ → Option ℕ) (old new : LinkMap) (chains others : List Chain) → IsRenaming to old new → AreChains old chains → AreImagesOf to chains others
    → AreChains new others

-- The new indexes determine the result.
abbrev pub RenamingIsDetermined : Type 0
RenamingIsDetermined = (to : ℕ → Option ℕ) (old new other : LinkMap) → IsRenaming to old new → IsRenaming to old other → new ≡ other

abbrev pub RenamingLaws : Type 0
RenamingLaws = record {
  agrees : RenamingAgrees;
  pairs : RenamingCarriesPairs;
  chains : RenamingCarriesChains;
  all : RenamingCarriesAll;
  determined : RenamingIsDetermined;
}
