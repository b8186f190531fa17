-- Values of links that are read or borrowed.
use Rattle.std.proofs.Common.{◌≡◌, ◌↔◌, ◌⊎◌, inl, inr, ℕ, Bool, true, false, Option, None, Some, refl, ap, sym, ◌∙◌}
use Rattle.std.specs.Prelude.{IfSome, IsSome}
use Rattle.std.specs.Option.{option_map, option_copied_mut}
use denote.MutBor.{MutBor}
use Rattle.arena_traits.specs.Arena.{Arena, entry_at, IsValid}
use Rattle.chain_links.specs.declared.links.RawLink.{RawLink}
use Rattle.chain_links.specs.ChainArena.{on_value, values_of}
use Rattle.chain_links.specs.Links.{held_in, links_view}
use Rattle.chain_linking.proofs.ConnectionLemmas.{value_at}
use Rattle.chain_links.proofs.MappedArenaLemmas.{IsValidPtr}

module _ {Gen K T : Type 0} (number : K → Option ℕ) where
  pub value_there : (a : Arena Gen (RawLink K T)) (n : ℕ) → option_map (λ (e : Gen × T). e.1) (entry_at (values_of (links_view number a)) n) ≡ option_map held_in (option_map (λ (e : Gen × RawLink K T). e.1) (entry_at a n))
  value_there a n = ap (option_map (λ (e : Gen × T). e.1)) (value_at number a n) ∙ by (entry_at a n) where
    by : (o : Option (Gen × RawLink K T)) → option_map (λ (e : Gen × T). e.1) (option_map (on_value held_in) o) ≡ option_map held_in (option_map (λ (e : Gen × RawLink K T). e.1) o)
    by None = refl
    by (Some e) = refl

module _ {Gen X : Type 0} where
  abbrev generation_or : Gen → Option (Gen × X) → Gen
  generation_or other None = other
  generation_or other (Some e) = e.0

  pub valid_or_not : (eq : Gen → Gen → Bool) → ((g h : Gen) → (eq g h ≡ true) ↔ (g ≡ h)) → (a : Arena Gen X) (p : ℕ × Gen) → IsValidPtr a p ⊎ (IsValidPtr a p → ⊥)
  valid_or_not eq law a p = by (entry_at a p.0) refl where
    same : (e : Gen × X) (b : Bool) → entry_at a p.0 ≡ Some e → eq e.0 p.1 ≡ b → IsValidPtr a p ⊎ (IsValidPtr a p → ⊥)
    same e true at is = inl (record { value = e.1; stored = at ∙ ap (λ (g : Gen). let o : Option (Gen × X) = Some (g, e.1) in o) ((law e.0 p.1).0 is) })
    same e false at is = inr (λ valid. let h = (law e.0 p.1).1 (ap (generation_or p.1) (sym at ∙ valid.stored)) in absurd (cc))

    by : (o : Option (Gen × X)) → entry_at a p.0 ≡ o → IsValidPtr a p ⊎ (IsValidPtr a p → ⊥)
    by None at = inr (λ valid. let h = sym at ∙ valid.stored in absurd (cc))
    by (Some e) at = same e (eq e.0 p.1) at refl

  pub lent_some : (entry : ℕ → Option (Gen × X)) (n : ℕ) (p : ℕ × Gen) (r : Option (MutBor X)) → n ≡ p.0 → IsValid entry p → option_copied_mut r ≡ option_map (λ (e : Gen × X). e.1) (entry n) → IsSome r
  lent_some entry n p None at valid known = let h = known ∙ ap (option_map (λ (e : Gen × X). e.1)) (ap entry at ∙ valid.stored) in absurd (cc)
  lent_some entry n p (Some t) at valid known = refl

  pub lent_value : (entry : ℕ → Option (Gen × X)) (n : ℕ) (p : ℕ × Gen) (r : Option (MutBor X)) → n ≡ p.0 → IsValid entry p → option_copied_mut r ≡ option_map (λ (e : Gen × X). e.1) (entry n)
      → IfSome r (λ t. entry p.0 ≡ Some (p.1, t.now))
  lent_value entry n p None at valid known = tt
  lent_value entry n p (Some t) at valid known =
      valid.stored ∙ ap (λ (x : X). let o : Option (Gen × X) = Some (p.1, x) in o) (let h = known ∙ ap (option_map (λ (e : Gen × X). e.1)) (ap entry at ∙ valid.stored) in let same : valid.value ≡ t.now = cc in same)
