-- Lemmas on one call of an advancer along a chain.
use Rattle.std.proofs.Common.{◌≡◌, ℕ, zero, suc, Option, None, Some, refl, ap, ap₂, ◌∙◌, subst, IfSome, arith}
use Rattle.std.specs.Prelude.{◌-◌}
use Rattle.std.specs.Option.{option_map}
use Rattle.chain_laws.specs.Chains.{LinkMap}
use Rattle.chain_laws.specs.Walks.{Walker, next_step}
use Rattle.arena_traits.specs.Arena.{Arena, IsValid, entry_at}
use Rattle.chain_links.specs.ChainArena.{LinkView, link_map, entry, link_value, on_value}
use Rattle.chain_links.specs.Walkers.{index_and_entry, IsPassing}
use Rattle.chain_links.proofs.MappedArenaLemmas.{entry_at-with_each}

module _ {Gen T : Type 0} (i : ℕ) where
  pub read_none : (o : Option (Gen × LinkView T)) → None ≡ option_map (index_and_entry i) o → o ≡ None
  read_none None states = refl
  read_none (Some e) states = absurd (let h = states in cc)

module _ {Gen T : Type 0} (a : Arena Gen (LinkView T)) where
  pub valid_there : (i : ℕ) (p : ℕ × Gen) (link : LinkView T) → entry_at a i ≡ Some (p.1, link) → p.0 ≡ i → IsValid (entry a) p
  valid_there i p link stored at = record {
    value = link.value;
    stored = ap (entry a) at ∙ entry_at-with_each link_value a i ∙ ap (option_map (on_value link_value)) stored;
  }

  module _ (start i : ℕ) (none : entry_at a i ≡ None) where
    no_entry : entry a i ≡ None
    no_entry = entry_at-with_each link_value a i ∙ ap (option_map (on_value link_value)) none

    pub ends_forward : (back : Option ℕ) (left : ℕ) → IfSome (next_step left (link_map a) start (Some i) back) (λ step. entry a step.0 ≡ None)
    ends_forward back zero = tt
    ends_forward back (suc left) = no_entry

    pub ends_back : (left : ℕ) → IfSome (next_step left (link_map a) start None (Some i)) (λ step. entry a step.0 ≡ None)
    ends_back zero = tt
    ends_back (suc left) = no_entry

module _ {Gen T : Type 0} (entry : ℕ → Option (Gen × T)) (interlinks : LinkMap) (start : ℕ) (forward back : Option ℕ) where
  pub is_passed : (left : ℕ) (p : ℕ × Gen) (forward_then back_then : Option ℕ) → (left ≡ 0 → ⊥) → IsValid entry p
      → ((n : ℕ) → next_step (suc n) interlinks start forward back ≡ Some (p.0, record { left = n; start = start; forward = forward_then; back = back_then }))
      → IsPassing entry interlinks (record { left = left; start = start; forward = forward; back = back }) (Some p) (record { left = left - 1; start = start; forward = forward_then; back = back_then })
  is_passed zero p forward_then back_then some valid steps = absurd (some refl)
  is_passed (suc n) p forward_then back_then some valid steps =
      let less : n ≡ suc n - 1 = omega arith in record {
        passed = (valid, subst (λ (m : ℕ). next_step (suc n) interlinks start forward back ≡ Some (p.0, record { left = m; start = start; forward = forward_then; back = back_then })) less (steps n));
        spent = tt;
        end = tt;
      }

  pub is_ended : (left : ℕ) → ((n : ℕ) → IfSome (next_step n interlinks start forward back) (λ step. entry step.0 ≡ None))
      → IsPassing entry interlinks (record { left = left; start = start; forward = forward; back = back }) None (record { left = 0; start = start; forward = forward; back = back })
  is_ended left ends = record { passed = tt; spent = refl; end = ends left }

pub same_walkers : {l m s t : ℕ} {f e b d : Option ℕ} → l ≡ m → s ≡ t → f ≡ e → b ≡ d
    → ◌≡◌ {A = Walker} (record { left = l; start = s; forward = f; back = b }) (record { left = m; start = t; forward = e; back = d })
same_walkers {l} {m} {s} {t} {f} {e} {b} {d} left start forward back =
    ap₂ (λ (x y : ℕ). let w : Walker = record { left = x; start = y; forward = f; back = b } in w) left start
    ∙ ap₂ (λ (x y : Option ℕ). let w : Walker = record { left = m; start = t; forward = x; back = y } in w) forward back
