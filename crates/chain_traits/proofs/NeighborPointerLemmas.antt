-- Pointers to neighbors, as a read of a link returns them.
use Rattle.std.proofs.Common.{◌≡◌, ℕ, true, Option, None, Some, refl, sym, ap, subst}
use Rattle.std.specs.Prelude.{IfSome, is_some}
use Rattle.std.specs.Option.{option_map, option_and_then}
use Rattle.std.proofs.lemmas.Bool.{false≢true}
use Rattle.arena_traits.specs.Arena.{IsValid}
use Rattle.chain_links.specs.ChainArena.{ptr_at}

module _ {P Gen T : Type 0} (key : P → ℕ × Gen) (entry : ℕ → Option (Gen × T)) where
  points : (q : ℕ × Gen) (j : ℕ) (e : Option (Gen × T)) → entry j ≡ e → Some q ≡ option_map (λ x. (j, x.0)) e → IsValid entry q × (j ≡ q.0)
  points q j None stored is = absurd (let some = is in cc)
  points q j (Some e) stored is =
      let some = is in
      let same : q ≡ (j, e.0) = cc in
      (record { value = e.1; stored = subst (λ p. entry p.0 ≡ Some (p.1, e.1)) (sym same) stored }, sym (ap (λ p. p.0) same))

  pub was_read : (o : Option P) (n : Option ℕ) → option_map key o ≡ option_and_then (ptr_at entry) n → IfSome o (λ q. IsValid entry (key q) × (n ≡ Some (key q).0))
  was_read None n is = tt
  was_read (Some q) None is = absurd (let some = is in cc)
  was_read (Some q) (Some j) is = let found = points (key q) j (entry j) refl is in (found.0, ap (λ i. Some i) found.1)

  pub none_read : (o : Option P) (n : Option ℕ) → option_map key o ≡ option_and_then (ptr_at entry) n → ((j : ℕ) → n ≡ Some j → is_some (entry j) ≡ true) → o ≡ None → n ≡ None
  none_read o None is stored none = refl
  none_read (Some q) (Some j) is stored none = absurd (let some = none in cc)
  none_read None (Some j) is stored none = absurd (by (entry j) is (stored j refl))
    where
      by : (e : Option (Gen × T)) → None ≡ option_map (λ x. let p : ℕ × Gen = (j, x.0) in p) e → is_some e ≡ true → ⊥
      by None is some = false≢true some
      by (Some e) is some = let n = is in cc
