use Rattle.std.specs.Prelude.{◌≡◌, ℕ, List, Option, None, Some}
use Rattle.std.specs.Option.{option_map}
use Rattle.chain_laws.specs.Chains.{LinkMap, IsMember}
use Rattle.chain_laws.specs.Walks.{IsWalk}
use Rattle.arena_traits.specs.Arena.{IsValid}
use Rattle.arena_traits.specs.Entries.{ArenaView}

module _ {A Gen K P : Type 0} (view : A → ArenaView Gen (K × P)) (entry : A → ℕ → Option (Gen × (K × P))) (interlinks : A → LinkMap) where
  -- Each link of the chain of i has the owner; other entries stay.
  pub record GivesOwners (old : A) (i : ℕ) (owner : P) (new : A) : Type 0 where
    pub walk : List ℕ
    pub is_walk : IsWalk (interlinks old) i walk
    pub owned : (j : ℕ) → IsMember walk j → entry new j ≡ option_map (λ e. (e.0, (e.1.0, owner))) (entry old j)
    pub rest : (j : ℕ) → (IsMember walk j → ⊥) → entry new j ≡ entry old j
    pub links : interlinks new ≡ interlinks old
    pub view_after : view new ≡ record (view old) { entries = (view new).entries }

  -- `set_owners`: the chain of p gets the owner, if p is valid.
  abbrev pub SetsOwners : A → ℕ × Gen → P → Option Unit → A → Type 0
  SetsOwners old p owner None new = (IsValid (entry old) p → ⊥) × (new ≡ old)
  SetsOwners old p owner (Some done) new = IsValid (entry old) p × GivesOwners old p.0 owner new
