-- Transfers of chains.
use Rattle.std.specs.Prelude.{◌≡◌, ℕ, zero, suc, ◌+◌, ◌-◌, Bool, if◌then◌else◌, List, [], ◌∷◌, ◌++◌, length, Option, None, Some}
use Rattle.chain_laws.specs.Chains.{LinkMap, Chain, all_items, IsWellLinked, AreChains, first_or, next_of}
use Rattle.chain_laws.specs.Removals.{with_removal}
use Rattle.chain_laws.specs.Insertions.{with_insertion, IsInsertPosition}
use Rattle.chain_laws.specs.Walks.{step_forward}
use Rattle.chain_laws.specs.Arrangements.{in_runs}
use Rattle.chain_laws.specs.ChainStart.{chain_of}

-- The chain of the items left, if any, before the others.
abbrev pub with_rest : Bool → List ℕ → List Chain → List Chain
with_rest ring [] rest = rest
with_rest ring (x ∷ xs) rest = chain_of ring (x ∷ xs) ∷ rest

-- The chain of the items inserted, if any, after the others.
abbrev pub with_appended : List Chain → Bool → List ℕ → List Chain
with_appended done ring [] = done
with_appended done ring (x ∷ xs) = done ++ chain_of ring (x ∷ xs) ∷ []

abbrev pub FirstIsTaken : Type 0
FirstIsTaken = (link_map : LinkMap) (ring : Bool) (x : ℕ) (xs : List ℕ) (rest : List Chain) → IsWellLinked link_map → AreChains link_map (chain_of ring (x ∷ xs) ∷ rest)
    → AreChains (with_removal link_map x) (with_rest ring xs rest) × (step_forward x (next_of link_map x) ≡ first_or xs None)

-- The neighbors of a new link at q, after the given number of links of its chain.
abbrev pub end_before : Bool → ℕ → ℕ → Option ℕ
end_before ring zero q = if ring then Some q else None
end_before ring (suc m) q = Some (q - 1)

abbrev pub end_after : Bool → ℕ → ℕ → Option ℕ
end_after ring zero q = if ring then Some q else None
end_after ring (suc m) q = if ring then Some (q - suc m) else None

abbrev pub LastIsAppended : Type 0
LastIsAppended = (link_map : LinkMap) (done : List Chain) (ring : Bool) (xs : List ℕ) (x q : ℕ) → AreChains link_map (in_runs 1 (with_appended done ring xs))
    → q ≡ length (all_items done) + length xs + 1
    → (link_map q ≡ None) × IsInsertPosition link_map q (end_before ring (length xs) q) (end_after ring (length xs) q)
    × AreChains (with_insertion link_map q (end_before ring (length xs) q) (end_after ring (length xs) q)) (in_runs 1 (with_appended done ring (xs ++ x ∷ [])))
