use Rattle.std.specs.Prelude.{◌≡◌, ℕ, zero, suc, ◌≤◌}
use Rattle.std.proofs.Common.{ap, arith}
use Rattle.std.proofs.lemmas.Grind.{common_steps}
use Rattle.arena_core.specs.Numbers.{next_number}

module _ {Gen : Type 0} (first : Gen) (following : Gen → Gen) where
  abbrev pub generation_after : ℕ → Gen
  generation_after zero = first
  generation_after (suc n) = following (generation_after n)

  -- No count reaches `g`, unless all generations are equal.
  abbrev pub IsNeverCounted : Gen → Type 0
  IsNeverCounted g = (n : ℕ) → generation_after n ≡ g → (h k : Gen) → h ≡ k

module _ {Gen : Type 0} (number : Gen → ℕ) (greatest : ℕ) (first : Gen) (following : Gen → Gen)
    (begins : number first ≡ 2) (continues : (g : Gen) → number (following g) ≡ next_number greatest (number g)) where
  next_at_least_two : (n : ℕ) → 2 ≤ n → 2 ≤ next_number greatest n
  next_at_least_two n two = grind (arith, common_steps)

  at_least_two : (n : ℕ) → 2 ≤ number (generation_after first following n)
  at_least_two zero = omega (arith, begins)
  at_least_two (suc n) = rw (continues (generation_after first following n)) (next_at_least_two (number (generation_after first following n)) (at_least_two n))

  pub one_is_never_counted : (g : Gen) → number g ≡ 1 → IsNeverCounted first following g
  one_is_never_counted g one n is h k = absurd (omega (arith, one, at_least_two n, ap number is))
