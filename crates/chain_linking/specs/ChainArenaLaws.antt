use Rattle.std.specs.Prelude.{◌≡◌, ℕ, zero, suc, List, [], ◌∷◌, map, Option, None, Some, is_some, slice_index_or}
use Rattle.std.specs.Option.{option_map}
use Rattle.std.proofs.Common.{refl, subst}
use Rattle.chain_laws.specs.Chains.{LinkMap}
use Rattle.chain_laws.specs.Walks.{Walker, next_step}
use Rattle.arena_traits.specs.Arena.{Arena, entry_at}
use Rattle.chain_links.specs.Walkers.{IsPassing}
use Rattle.chain_linking.specs.BackSteps.{BackWalker, next_step_back, IsPassingBack}
use Rattle.chain_links.specs.ChainArena.{LinkView, link_map, values_of, on_value, link_value, interlinks_of}

module _ {Gen T : Type 0} where
  stored_in : (slots : List (Option (Gen × LinkView T))) (k : ℕ)
      → is_some (option_map interlinks_of (slice_index_or slots k None)) ≡ is_some (slice_index_or (map (option_map (on_value link_value)) slots) k None)
  stored_in [] k = refl
  stored_in (None ∷ slots) zero = refl
  stored_in (Some e ∷ slots) zero = refl
  stored_in (e ∷ slots) (suc k) = stored_in slots k

  pub links_exist : (a : Arena Gen (LinkView T)) (i : ℕ) → is_some (link_map a i) ≡ is_some (entry_at (values_of a) i)
  links_exist a zero = refl
  links_exist a (suc k) = stored_in a.slots k

module _ {P Gen T : Type 0} (key : P → ℕ × Gen) (entry : ℕ → Option (Gen × T)) (interlinks : LinkMap) {old new : Walker} where
  pub spent_stays : (returned : Option P) → old.left ≡ 0 → IsPassing entry interlinks old (option_map key returned) new → (returned ≡ None) × (new.left ≡ 0)
  spent_stays None none passing = (refl, passing.spent)
  spent_stays (Some p) none passing = absurd (let step = subst (λ n. next_step n interlinks old.start old.forward old.back ≡ Some ((key p).0, new)) none passing.passed.1 in cc)

module _ {P Gen T : Type 0} (key : P → ℕ × Gen) (a : Arena Gen (LinkView T)) {old new : BackWalker} where
  pub spent_back_stays : (returned : Option P) → old.left ≡ 0 → IsPassingBack a old (option_map key returned) new → (returned ≡ None) × (new.left ≡ 0)
  spent_back_stays None none passing = (refl, passing.spent)
  spent_back_stays (Some p) none passing = absurd (let step = subst (λ n. next_step_back a n old.start old.at ≡ Some ((key p).0, new)) none passing.passed.1 in cc)
