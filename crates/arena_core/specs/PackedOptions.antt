use Rattle.std.specs.Prelude.{◌≡◌, ℕ, ◌==◌, Option, None, Some, zero, suc, refl, if◌then◌else◌}
use Rattle.std.proofs.Common.{ap, rules}
use Rattle.arena_core.specs.declared.packed_option.PackedOption.{PackedOption}

-- The number of the index, or none for 0.
abbrev pub zero_is_none : {I : Type 0} → PackedOption I ℕ → Option ℕ
zero_is_none o = if o.word == 0 then None else Some o.word

pub same_zero_is_none : {I : Type 0} (o p : PackedOption I ℕ) → zero_is_none o ≡ zero_is_none p → o ≡ p
same_zero_is_none {I} o p e = ap (λ n. let q : PackedOption I ℕ = record { word = n; marker = o.marker } in q) (same o.word p.word e) where
  same : (m n : ℕ) → (if m == 0 then None else Some m) ≡ (if n == 0 then None else Some n) → m ≡ n
  same zero zero is = refl
  same zero (suc n) is = search rules
  same (suc m) zero is = search rules
  same (suc m) (suc n) is = search rules
