use Rattle.std.specs.Prelude.{◌≡◌, ℕ, Option, Some}
use Rattle.std.specs.Option.{option_map}
use Rattle.chain_laws.specs.Chains.{LinkMap, prev_of, next_of}

abbrev pub IsWellLinkedForward : LinkMap → ℕ → Type 0
IsWellLinkedForward link_map i = (j : ℕ) → next_of link_map i ≡ Some j → prev_of link_map j ≡ Some i

abbrev pub IsWellLinkedBack : LinkMap → ℕ → Type 0
IsWellLinkedBack link_map i = (j : ℕ) → prev_of link_map i ≡ Some j → next_of link_map j ≡ Some i

-- The neighbors of i name it in turn.
pub record IsWellLinkedAt (link_map : LinkMap) (i : ℕ) : Type 0 where
  pub forward : IsWellLinkedForward link_map i
  pub back : IsWellLinkedBack link_map i

-- The indexes beside i, both `None` without a link.
abbrev pub AreNeighborsAt : {I : Type 0} → (I → ℕ) → LinkMap → ℕ → Option I × Option I → Type 0
AreNeighborsAt number link_map i result = record {
  prev : option_map number result.0 ≡ prev_of link_map i;
  next : option_map number result.1 ≡ next_of link_map i;
}
