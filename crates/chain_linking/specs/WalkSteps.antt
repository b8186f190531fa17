use Rattle.std.specs.Prelude.{◌≡◌, ℕ, suc, Option, None, Some, IfSome}
use Rattle.std.specs.Option.{option_map}
use Rattle.chain_laws.specs.Walks.{next_step}
use Rattle.arena_traits.specs.Arena.{Arena}
use Rattle.chain_links.specs.ChainArena.{LinkView, link_map, entry}
use Rattle.chain_links.specs.Walkers.{walker_of}

module _ {I Gen T : Type 0} (number : I → ℕ) (a : Arena Gen (LinkView T)) (start : I) (forward back : Option I) where
  -- The walker passes i.
  abbrev pub Passes : ℕ → Option I → Option I → Type 0
  Passes i onward behind = (left : ℕ) → next_step (suc left) (link_map a) (number start) (option_map number forward) (option_map number back)
      ≡ Some (i, walker_of number left start onward behind)

  -- The next index, if any, has no entry.
  abbrev pub PassesNothing : Type 0
  PassesNothing = (left : ℕ) → IfSome (next_step left (link_map a) (number start) (option_map number forward) (option_map number back)) (λ step. entry a step.0 ≡ None)
