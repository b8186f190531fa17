use Rattle.std.specs.Prelude.{◌≡◌, ℕ, zero, suc, List, Option, None, Some, IfSome, IfNone}
use Rattle.std.specs.Option.{option_map}
use Rattle.chain_laws.specs.Chains.{prev_of}
use Rattle.chain_laws.specs.WalksBack.{step_to, back_ahead}
use Rattle.arena_traits.specs.Arena.{Arena, IsValid}
use Rattle.chain_links.specs.ChainArena.{LinkView, link_map, entry}
use Rattle.chain_links.specs.Walkers.{end_in}

-- The most steps left, where it began, and where it goes.
pub record BackWalker : Type 0 where
  pub left : ℕ
  pub start : ℕ
  pub at : Option ℕ

-- A walker backwards at i.
abbrev pub back_walker_at : ℕ → ℕ → BackWalker
back_walker_at left i = record { left = left; start = i; at = Some i }

-- An advancer's walker backwards.
abbrev pub back_walker_of : {I : Type 0} → (I → ℕ) → ℕ → I → Option I → BackWalker
back_walker_of number left start at = record { left = left; start = number start; at = option_map number at }

module _ {Gen T : Type 0} (a : Arena Gen (LinkView T)) where
  -- The link passed next, if any, and the walker after it.
  abbrev pub next_step_back : ℕ → ℕ → Option ℕ → Option (ℕ × BackWalker)
  next_step_back zero start at = None
  next_step_back (suc left) start None = None
  next_step_back (suc left) start (Some k) = Some (k, record { left = left; start = start; at = step_to start (end_in a start) (prev_of (link_map a) k) })

  abbrev pub step_back_of : BackWalker → Option (ℕ × BackWalker)
  step_back_of w = next_step_back w.left w.start w.at

  -- What a walker backwards passes if nothing changes.
  abbrev pub passes_back : BackWalker → List ℕ
  passes_back w = back_ahead w.left (link_map a) w.start (end_in a w.start) w.at

  -- A call of an advancer backwards takes one step, or none is left.
  pub record IsPassingBack (old : BackWalker) (returned : Option (ℕ × Gen)) (new : BackWalker) : Type 0 where
    pub passed : IfSome returned (λ p. IsValid (entry a) p × (step_back_of old ≡ Some (p.0, new)))
    pub spent : IfNone returned (new.left ≡ 0)
    pub end : IfNone returned (IfSome (step_back_of old) (λ step. entry a step.0 ≡ None))

module _ {I Gen T : Type 0} (number : I → ℕ) (a : Arena Gen (LinkView T)) (start : I) (at : Option I) where
  -- The walker passes i.
  abbrev pub PassesBack : ℕ → Option I → Type 0
  PassesBack i onward = (left : ℕ) → next_step_back a (suc left) (number start) (option_map number at) ≡ Some (i, back_walker_of number left start onward)

  -- The next index, if any, has no entry.
  abbrev pub PassesNoneBack : Type 0
  PassesNoneBack = (left : ℕ) → IfSome (next_step_back a left (number start) (option_map number at)) (λ step. entry a step.0 ≡ None)
