use Rattle.std.specs.Prelude.{ℕ, Bool, Option}
use Rattle.arena_core.specs.declared.packed_option.PackedOption.{PackedOption}

-- A type of pointers: the numbers of its indexes, and the order of its generations.
pub record PointerKind (P I Gen W : Type 0) : Type 0 where
  pub key : P → ℕ × Gen
  pub number : I → ℕ
  pub packed : PackedOption I W → Option ℕ
  pub greatest : ℕ
  pub first : Gen
  pub following : Gen → Gen
  pub wraps : Gen → Bool
