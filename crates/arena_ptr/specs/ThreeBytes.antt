use Rattle.std.specs.Prelude.{ℕ, ◌+◌, ◌*◌, ◌≤◌}
use Rattle.std.specs.Coded.{le_prop}

abbrev pub number_of_bytes : ℕ → ℕ → ℕ → ℕ
number_of_bytes high middle low = 0x1_0000 * high + 0x100 * middle + low

-- Three bytes, not all zero.
abbrev pub AreThreeBytes : ℕ → ℕ → ℕ → Type 0
AreThreeBytes high middle low = (high ≤ 0xff) × (middle ≤ 0xff) × (low ≤ 0xff) × (1 ≤ number_of_bytes high middle low)

pub AreThreeBytes-prop : (high middle low : ℕ) → IsProp (AreThreeBytes high middle low)
AreThreeBytes-prop high middle low = hlevel le_prop
