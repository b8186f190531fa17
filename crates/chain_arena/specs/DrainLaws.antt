use Rattle.std.specs.Prelude.{◌≡◌, ℕ, Bool, Option, List, [], ◌∷◌, map, All}
use Rattle.arena_core.specs.Invalidation.{value_in}
use Rattle.arena_core.specs.declared.invalidation.InvalidationOption.{InvalidationOption}
use Rattle.arena_traits.specs.Arena.{Arena, IsValid}
use Rattle.chain_links.specs.ChainArena.{LinkView, entry}
use Rattle.chain_links.specs.declared.links.RawLink.{RawLink}
use Rattle.chain_arena.specs.Drains.{walk_left, IsDrainStep}

module _ {P Gen K T : Type 0} (key : P → ℕ × Gen) (number : K → Option ℕ) (following : Gen → Gen) (wraps : Gen → Bool) where
  -- Calls of `next` yield these items, in order.
  abbrev pub DrainsTo : Arena Gen (LinkView T) → ℕ → List (InvalidationOption (P × RawLink K T)) → Arena Gen (LinkView T) → ℕ → Type 0
  DrainsTo old at [] new next = (new ≡ old) × (next ≡ at)
  DrainsTo old at (gone ∷ rest) new next =
      (mid : Arena Gen (LinkView T)) × (on : ℕ) × IsDrainStep key number following wraps old at gone mid on × DrainsTo mid on rest new next

-- A complete drain yields the walk before it, by pointers valid then.
abbrev pub DrainGivesTheWalk : {P Gen K : Type 0} → (T : Type 0) → (P → ℕ × Gen) → (K → Option ℕ) → (Gen → Gen) → (Gen → Bool) → Type 0
DrainGivesTheWalk {P = P} {Gen = Gen} {K = K} T key number following wraps =
    (old new : Arena Gen (LinkView T)) (at next : ℕ) (gone : List (InvalidationOption (P × RawLink K T)))
    → DrainsTo key number following wraps old at gone new next → walk_left new next ≡ []
    → (map (λ (item : InvalidationOption (P × RawLink K T)). (key (value_in item).0).0) gone ≡ walk_left old at)
    × All (λ (item : InvalidationOption (P × RawLink K T)). IsValid (entry old) (key (value_in item).0)) gone
