use Rattle.std.specs.Prelude.{◌≡◌, ℕ, ◌+◌, ◌==◌, ◌≤◌, ◌↔◌, true, if◌then◌else◌}
use Rattle.std.specs.Coded.{le_prop, ×_prop}
use Rattle.std.proofs.Common.{subst, ap, arith}
use Rattle.std.proofs.lemmas.Bool.{eqb-true, eq-eqb}
use Rattle.std.proofs.lemmas.Grind.{common_steps}

-- `n` is from 1 to the greatest.
abbrev pub IsWithin : ℕ → ℕ → Type 0
IsWithin greatest n = (1 ≤ n) × (n ≤ greatest)

pub IsWithin-prop : (greatest n : ℕ) → IsProp (IsWithin greatest n)
IsWithin-prop greatest n = ×_prop le_prop le_prop

-- The next number; two after the greatest.
abbrev pub next_number : ℕ → ℕ → ℕ
next_number greatest n = if n == greatest then 2 else n + 1

pub next_after_greatest : (greatest n : ℕ) → (n == greatest) ≡ true → next_number greatest n ≡ 2
next_after_greatest greatest n is = ap (λ b. if b then 2 else n + 1) is

pub next_within : (greatest n : ℕ) → 2 ≤ greatest → IsWithin greatest n → IsWithin greatest (next_number greatest n)
next_within greatest n two within = grind (arith, common_steps)

pub same_made : {A B : Type 0} {P : A → Type 0} (make : (a : A) → P a → B) → ((a : A) → IsProp (P a)) →
    (a b : A) (p : P a) (q : P b) → a ≡ b → make a p ≡ make b q
same_made {A} {B} {P} make prop a b p q e =
    subst (λ (x : A). (r : P x) → make a p ≡ make x r) e (λ r. ap (make a) (prop a p r)) q

pub eq_is_same_number : {A : Type 0} (number : A → ℕ) → ((a b : A) → number a ≡ number b → a ≡ b) →
    (a b : A) → ((number a == number b) ≡ true) ↔ (a ≡ b)
eq_is_same_number {A} number same a b = (λ t. same a b (eqb-true (number a) (number b) t), λ e. eq-eqb (number a) (number b) (ap number e))
