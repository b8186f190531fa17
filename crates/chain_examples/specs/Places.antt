use Rattle.std.specs.Prelude.{◌≡◌, ℕ, List, ◌∷◌, ◌++◌, map, length, Option, None, Some}
use Rattle.std.specs.Option.{option_map}
use Rattle.chain_laws.specs.Chains.{LinkMap, IsMember}
use Rattle.chain_laws.specs.Walks.{IsWalk}
use Rattle.arena_traits.specs.Arena.{IsValid}

-- `place_in_walk`: the walk from p has n links before q, or does not pass q.
abbrev pub FindsPlace : {Gen T : Type 0} → (ℕ → Option (Gen × T)) → LinkMap → (p q : ℕ × Gen) → Option ℕ → Type 0
FindsPlace entry links p q None = IsValid entry p → IsValid entry q → (walk : List ℕ) → IsWalk links p.0 walk → IsMember walk q.0 → ⊥
FindsPlace entry links p q (Some n) = IsValid entry p × IsValid entry q × (before : List ℕ) × (after : List ℕ) × IsWalk links p.0 (before ++ q.0 ∷ after) × (length before ≡ n)

-- `values_from`: the values of the walk from p, in order, if p is valid.
abbrev pub ReadsValues : {Gen T : Type 0} → (ℕ → Option (Gen × T)) → LinkMap → ℕ × Gen → Option (List T) → Type 0
ReadsValues entry links p None = IsValid entry p → ⊥
ReadsValues entry links p (Some values) = IsValid entry p × (walk : List ℕ) × IsWalk links p.0 walk × (map (λ i. option_map (λ e. e.1) (entry i)) walk ≡ map (λ t. Some t) values)
