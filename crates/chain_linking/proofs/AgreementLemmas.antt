-- Interlinks that agree at each index agree.
use Rattle.std.proofs.Common.{◌≡◌, ◌↔◌, ℕ, zero, suc, ◌+◌, ◌≤◌, ◌<◌, Bool, Option, None, Some, refl, sym, ap, ◌∙◌, subst, arith}
use Rattle.std.specs.Prelude.{IsTrue}
use Rattle.chain_laws.specs.Chains.{LinkMap, Interlinks, IsWellLinked, HasLinksWithin, prev_in, next_in}
use Rattle.chain_linking.specs.Agreement.{IsWellLinkedAt}

pub is_responded : (named naming : ℕ → Option ℕ) (i j : ℕ) (lookup : Option ℕ) (returned : Bool) → Some j ≡ named i → lookup ≡ naming j → (IsTrue returned ↔ (lookup ≡ Some i))
    → IsTrue returned ↔ ((k : ℕ) → named i ≡ Some k → naming k ≡ Some i)
is_responded named naming i j lookup returned names was_read test = (
  (λ known k at. let both = names ∙ at in let same : j ≡ k = cc in subst (λ n. naming n ≡ Some i) same (sym was_read ∙ test.0 known)),
  (λ given. test.1 (was_read ∙ given j (sym names))),
)

module _ (link_map : LinkMap) where
  nothing_there : (i : ℕ) → link_map i ≡ None → IsWellLinkedAt link_map i
  nothing_there i none = record {
    forward = λ j at. absurd (let both = sym (ap next_in none) ∙ at in cc);
    back = λ j at. absurd (let both = sym (ap prev_in none) ∙ at in cc);
  }

  pub agrees_all : (slots : ℕ) → HasLinksWithin link_map slots → ((k : ℕ) → k < slots → IsWellLinkedAt link_map (k + 1)) → IsWellLinked link_map
  agrees_all slots within each = record { both = λ i j. ((at i).forward j, (at j).back i) } where
    there : (i : ℕ) → (1 ≤ i) × (i ≤ slots) → IsWellLinkedAt link_map i
    there zero inside = absurd (omega (arith, inside.0))
    there (suc k) inside = let same : k + 1 ≡ suc k = omega arith in subst (IsWellLinkedAt link_map) same (each k (omega (arith, inside.1)))

    by : (i : ℕ) (o : Option Interlinks) → link_map i ≡ o → IsWellLinkedAt link_map i
    by i None is = nothing_there i is
    by i (Some link) is = there i (within.within i (record { link = link; links = is }))

    at : (i : ℕ) → IsWellLinkedAt link_map i
    at i = by i (link_map i) refl
