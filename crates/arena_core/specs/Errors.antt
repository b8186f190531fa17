use Rattle.std.specs.Prelude.{ℕ, List, codes}
use Rattle.arena_core.specs.declared.errors.ChainInsertionError.{ChainInsertionError}
use Rattle.arena_core.specs.declared.errors.ChainInsertionError.TheVariants as failed
use Rattle.arena_core.specs.declared.errors.ReallocationError.{ReallocationError}
use Rattle.arena_core.specs.declared.errors.ReallocationError.TheVariants as refused

-- The insertion error of a failed growth.
abbrev pub insertion_error : ReallocationError → ChainInsertionError
insertion_error refused.BeyondMaxCapacity = failed.BeyondMaxCapacity
insertion_error refused.AllocError = failed.AllocError

abbrev pub refusal_text : ReallocationError → List ℕ
refusal_text refused.AllocError = codes "allocation failed, or no index is left"
refusal_text refused.BeyondMaxCapacity = codes "beyond the maximum capacity"

abbrev pub insertion_text : ChainInsertionError → List ℕ
insertion_text failed.FailedLinkRequirement = codes "no such place beside these links"
insertion_text failed.NotWithinCapacity = codes "not within the capacity"
insertion_text failed.AllocError = codes "allocation failed, or no index is left"
insertion_text failed.BeyondMaxCapacity = codes "beyond the maximum capacity"
