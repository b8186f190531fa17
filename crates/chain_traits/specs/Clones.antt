-- Copies of an arena of links.
use Rattle.std.specs.Prelude.{◌≡◌, ℕ, IfSome, Option, Result, Ok, Err}
use Rattle.chain_laws.specs.Chains.{LinkMap}
use Rattle.arena_core.specs.declared.errors.ReallocationError.{ReallocationError}
use Rattle.arena_traits.specs.CallOutcomes.{IsCopied, RefusesCopy}
use Rattle.arena_traits.specs.Entries.{ArenaView}

-- `try_clone`: a copy with the same chains is made, or refused.
abbrev pub CopiesLinks : {A Gen T : Type 0} → (A → ArenaView Gen T) → (A → LinkMap) → ℕ → Option ℕ → A → Result A ReallocationError → Type 0
CopiesLinks view interlinks greatest maximum old (Ok copy) = IsCopied greatest maximum (view old) (view copy) × (interlinks copy ≡ interlinks old)
CopiesLinks view interlinks greatest maximum old (Err why) = IfSome (view old).slots (λ slots. RefusesCopy maximum slots.count why)
