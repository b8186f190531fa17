-- Lemmas on one call of an advancer backwards along a chain.
use Rattle.std.proofs.Common.{◌≡◌, ℕ, zero, suc, Option, None, Some, refl, subst, IfSome, arith}
use Rattle.std.specs.Prelude.{◌-◌}
use Rattle.arena_traits.specs.Arena.{Arena, IsValid}
use Rattle.chain_links.specs.ChainArena.{LinkView, entry}
use Rattle.chain_linking.specs.BackSteps.{next_step_back, IsPassingBack}

module _ {Gen T : Type 0} (a : Arena Gen (LinkView T)) (start : ℕ) (at : Option ℕ) where
  pub is_passed_back : (left : ℕ) (p : ℕ × Gen) (onward : Option ℕ) → (left ≡ 0 → ⊥) → IsValid (entry a) p
      → ((n : ℕ) → next_step_back a (suc n) start at ≡ Some (p.0, record { left = n; start = start; at = onward }))
      → IsPassingBack a (record { left = left; start = start; at = at }) (Some p) (record { left = left - 1; start = start; at = onward })
  is_passed_back zero p onward some valid steps = absurd (some refl)
  is_passed_back (suc n) p onward some valid steps =
      let less : n ≡ suc n - 1 = omega arith in record {
        passed = (valid, subst (λ (m : ℕ). next_step_back a (suc n) start at ≡ Some (p.0, record { left = m; start = start; at = onward })) less (steps n));
        spent = tt;
        end = tt;
      }

  pub is_ended_back : (left : ℕ) → ((n : ℕ) → IfSome (next_step_back a n start at) (λ step. entry a step.0 ≡ None))
      → IsPassingBack a (record { left = left; start = start; at = at }) None (record { left = 0; start = start; at = at })
  is_ended_back left ends = record { passed = tt; spent = refl; end = ends left }
