-- An insertion position can be decided, so a truncated proof of it gives a proof.
use Rattle.std.proofs.Common.{◌≡◌, ℕ, inl, inr, Option, None, Some, refl, sym, ap, ◌∙◌}
use Rattle.std.proofs.Math.Decide.{ℕ_discrete}
use Rattle.std.proofs.Math.Logic.{∥∥₁_elim}
use Rattle.chain_laws.specs.Chains.{LinkMap, Interlinks, HasLink, prev_of, next_of}
use Rattle.chain_laws.specs.Joins.{AreEndAndStart}
use Rattle.chain_laws.specs.Insertions.{IsInsertPosition}

stored_had : (link_map : LinkMap) (i : ℕ) (link : Option Interlinks) → link_map i ≡ link → ((HasLink link_map i → ⊥) → ⊥) → HasLink link_map i
stored_had link_map i None none some = absurd (some (λ v. let no = sym none ∙ v.links in cc))
stored_had link_map i (Some l) is some = record { link = l; links = is }

none_had : (o p : Option ℕ) → o ≡ p → ((o ≡ None → ⊥) → ⊥) → o ≡ None
none_had o None is none = is
none_had o (Some n) is none = absurd (none (λ no. let both = sym is ∙ no in cc))

module _ (link_map : LinkMap) (q a b : ℕ) (h : (IsInsertPosition link_map q (Some a) (Some b) → ⊥) → ⊥) where
  only_ends : next_of link_map a ≡ None → ((a ≡ q) × (b ≡ q) → ⊥) → (AreEndAndStart link_map a b → ⊥) → ⊥
  only_ends none other not = h (λ position. elim position [
    | inl pair ↦ (let both = sym none ∙ pair in cc)
    | inr (inl ends) ↦ not ends
    | inr (inr new) ↦ other new
  ])

  ends_had : next_of link_map a ≡ None → ((a ≡ q) × (b ≡ q) → ⊥) → AreEndAndStart link_map a b
  ends_had none other = record {
    valid_end = stored_had link_map a (link_map a) refl (λ no. only_ends none other (λ e. no e.valid_end));
    valid_start = stored_had link_map b (link_map b) refl (λ no. only_ends none other (λ e. no e.valid_start));
    end = none;
    start = none_had (prev_of link_map b) (prev_of link_map b) refl (λ no. only_ends none other (λ e. no e.start));
  }

  by_number : next_of link_map a ≡ None → Dec (a ≡ q) → Dec (b ≡ q) → IsInsertPosition link_map q (Some a) (Some b)
  by_number none (yes first) (yes second) = inr (inr (first, second))
  by_number none (no other) second = inr (inl (ends_had none (λ new. other new.0)))
  by_number none (yes first) (no other) = inr (inl (ends_had none (λ new. other new.1)))

  by_equal : (n : ℕ) → next_of link_map a ≡ Some n → Dec (n ≡ b) → Dec (a ≡ q) → Dec (b ≡ q) → IsInsertPosition link_map q (Some a) (Some b)
  by_equal n is (yes same) first second = inl (is ∙ ap (λ (m : ℕ). Some m) same)
  by_equal n is (no other) (yes first) (yes second) = inr (inr (first, second))
  by_equal n is (no other) (no past) second = absurd (h (λ position. elim position [
    | inl pair ↦ other (let both = sym is ∙ pair in cc)
    | inr (inl ends) ↦ (let both = sym is ∙ ends.end in cc)
    | inr (inr new) ↦ past new.0
  ]))
  by_equal n is (no other) (yes first) (no past) = absurd (h (λ position. elim position [
    | inl pair ↦ other (let both = sym is ∙ pair in cc)
    | inr (inl ends) ↦ (let both = sym is ∙ ends.end in cc)
    | inr (inr new) ↦ past new.1
  ]))

  by_next : (o : Option ℕ) → next_of link_map a ≡ o → IsInsertPosition link_map q (Some a) (Some b)
  by_next None none = by_number none (ℕ_discrete a q) (ℕ_discrete b q)
  by_next (Some n) is = by_equal n is (ℕ_discrete n b) (ℕ_discrete a q) (ℕ_discrete b q)

by_links : (link_map : LinkMap) (q : ℕ) (u v : Option ℕ) → ((IsInsertPosition link_map q u v → ⊥) → ⊥) → IsInsertPosition link_map q u v
by_links link_map q None None h = tt
by_links link_map q (Some a) None h =
    (stored_had link_map a (link_map a) refl (λ no. h (λ position. no position.0)), none_had (next_of link_map a) (next_of link_map a) refl (λ no. h (λ position. no position.1)))
by_links link_map q None (Some b) h =
    (stored_had link_map b (link_map b) refl (λ no. h (λ position. no position.0)), none_had (prev_of link_map b) (prev_of link_map b) refl (λ no. h (λ position. no position.1)))
by_links link_map q (Some a) (Some b) h = by_next link_map q a b h (next_of link_map a) refl

pub position_had : (link_map : LinkMap) (q : ℕ) (u v : Option ℕ) → ∥ IsInsertPosition link_map q u v ∥₁ → IsInsertPosition link_map q u v
position_had link_map q u v h = by_links link_map q u v (λ not_one. ∥∥₁_elim h (λ x y. absurd x) not_one)
