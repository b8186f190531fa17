use Rattle.std.specs.Prelude.{Bool, true, false, Option, Some, None}
use Rattle.arena_core.specs.declared.invalidation.InvalidationOption.{InvalidationOption}
use Rattle.arena_core.specs.declared.invalidation.InvalidationOption.TheVariants as option
use Rattle.arena_core.specs.declared.invalidation.InvalidationResult.{InvalidationResult}
use Rattle.arena_core.specs.declared.invalidation.InvalidationResult.TheVariants as outcome

module _ {T : Type 0} where
  abbrev pub value_in : InvalidationOption T → T
  value_in (option.Success t) = t
  value_in (option.GenerationOverflow t) = t

  abbrev pub is_overflow : InvalidationOption T → Bool
  is_overflow (option.Success t) = false
  is_overflow (option.GenerationOverflow t) = true

  -- The result for a value and an overflow.
  abbrev pub invalidation_option : Bool → T → InvalidationOption T
  invalidation_option false t = option.Success t
  invalidation_option true t = option.GenerationOverflow t

  abbrev pub value_within : InvalidationResult T → Option T
  value_within (outcome.Success t) = Some t
  value_within (outcome.GenerationOverflow t) = Some t
  value_within outcome.InvalidPtr = None

  abbrev pub is_overflow_result : InvalidationResult T → Bool
  is_overflow_result (outcome.Success t) = false
  is_overflow_result (outcome.GenerationOverflow t) = true
  is_overflow_result outcome.InvalidPtr = false

  -- The result for an optional value and an overflow.
  abbrev pub invalidation_result : Bool → Option T → InvalidationResult T
  invalidation_result overflow None = outcome.InvalidPtr
  invalidation_result false (Some t) = outcome.Success t
  invalidation_result true (Some t) = outcome.GenerationOverflow t

-- The result with a function applied to the value.
abbrev pub with_value_of : {X Y : Type 0} → (X → Y) → InvalidationResult X → InvalidationResult Y
with_value_of f (outcome.Success x) = outcome.Success (f x)
with_value_of f (outcome.GenerationOverflow x) = outcome.GenerationOverflow (f x)
with_value_of f outcome.InvalidPtr = outcome.InvalidPtr
