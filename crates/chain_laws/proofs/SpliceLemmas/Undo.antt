-- A run moved away and back is where it was.
use Rattle.std.specs.Prelude.{◌≡◌, ◌≢◌, ℕ, ◌⊎◌, Option, Some}
use Rattle.std.proofs.Common.{sym, refl, ap, ◌∙◌, inl, inr}
use Rattle.std.proofs.lemmas.Bool.{cases_eq}
use Rattle.chain_laws.specs.Chains.{LinkMap, HasLink, IsWellLinked, prev_of, next_of}
use Rattle.chain_laws.specs.Splices.{with_splice, SpliceBackRestores}
use Rattle.chain_laws.proofs.InterlinkLemmas.Inverses.{one_some}
use Rattle.chain_laws.proofs.InsertionLemmas.Pairs.{put_at-same, put_at-other}
use Rattle.chain_laws.proofs.ChainLemmas.LinkedLists.{next_valid}
use Rattle.chain_laws.proofs.ChainLemmas.Determinacy.{pairs_decide}
use Rattle.chain_laws.proofs.SpliceLemmas.Interlinks.{next_without_run, next_with_splice, beyond, v_past, v_stays, v_not_first, onward_last, onward_p, onward_other, back_first, next_of-rest, next_of-spliced, prev_of-spliced, HasLink-spliced, spliced_agrees}

module _ (link_map : LinkMap) (p first last a : ℕ) (agrees : IsWellLinked link_map) (valid_p : HasLink link_map p) (valid_first : HasLink link_map first) (valid_last : HasLink link_map last) (apart : p ≢ last)
    (before : prev_of link_map first ≡ Some a) (other : a ≢ last) where
  abbrev f : ℕ → Option ℕ
  f = next_of link_map

  abbrev g : ℕ → Option ℕ
  g = prev_of link_map

  abbrev new : LinkMap
  new = with_splice link_map p first last

  abbrev h : ℕ → Option ℕ
  h = next_of new

  abbrev k : ℕ → Option ℕ
  k = prev_of new

  abbrev v : Option ℕ
  v = beyond link_map p first last agrees valid_p valid_first valid_last apart

  is_v : v ≡ next_without_run f g first last p
  is_v = next_of-rest link_map p first last agrees valid_p valid_first valid_last apart p

  followed : f a ≡ Some first
  followed = (agrees.both a first).1 before

  after_last : h last ≡ v
  after_last = next_of-spliced link_map p first last agrees valid_p valid_first valid_last apart last ∙ onward_last f g p first last v agrees.both apart is_v last refl

  before_first : k first ≡ Some p
  before_first = prev_of-spliced link_map p first last agrees valid_p valid_first valid_last apart first
      ∙ back_first f g p first last v agrees.both apart is_v first (v_not_first f g p first last v agrees.both apart is_v) refl

  after_other : (j : ℕ) → j ≢ last → j ≢ p → h j ≡ next_without_run f g first last j
  after_other j not_last not_p =
      next_of-spliced link_map p first last agrees valid_p valid_first valid_last apart j ∙ onward_other f g p first last v agrees.both apart is_v j not_last not_p

  new_agrees : IsWellLinked new
  new_agrees = spliced_agrees link_map p first last agrees valid_p valid_first valid_last apart

  still : (i : ℕ) → HasLink link_map i → HasLink new i
  still i valid = (HasLink-spliced link_map p first last agrees valid_p valid_first valid_last apart i).1 valid

  new_a : HasLink new a
  new_a = still a (next_valid link_map a first followed)

  abbrev w : Option ℕ
  w = beyond new a first last new_agrees new_a (still first valid_first) (still last valid_last) other

  is_w : w ≡ next_without_run h k first last a
  is_w = next_of-rest new a first last new_agrees new_a (still first valid_first) (still last valid_last) other a

  next_back : (j : ℕ) → next_of (with_splice new a first last) j ≡ f j
  next_back j = next_of-spliced new a first last new_agrees new_a (still first valid_first) (still last valid_last) other j ∙ by (cases_eq j last) (cases_eq j a) (cases_eq j p) (cases_eq a p)
    where
      by : (j ≡ last) ⊎ (j ≢ last) → (j ≡ a) ⊎ (j ≢ a) → (j ≡ p) ⊎ (j ≢ p) → (a ≡ p) ⊎ (a ≢ p)
          → next_with_splice h k a first last w j ≡ f j
      by (inl s) _ _ (inl e) =
          onward_last h k a first last w new_agrees.both other is_w j s
          ∙ v_past h k a first last w new_agrees.both other is_w (before_first ∙ ap Some (sym e))
          ∙ after_last ∙ v_past f g p first last v agrees.both apart is_v (before ∙ ap Some e) ∙ ap f (sym s)
      by (inl s) _ _ (inr ne) =
          onward_last h k a first last w new_agrees.both other is_w j s
          ∙ v_stays h k a first last w new_agrees.both other is_w (λ e. ne (one_some (sym e ∙ before_first)))
          ∙ after_other a other ne ∙ put_at-same f (g first) (f last) a before ∙ ap f (sym s)
      by (inr nl) (inl s) _ _ = onward_p h k a first last w new_agrees.both other is_w j nl s ∙ sym followed ∙ ap f (sym s)
      by (inr nl) (inr na) (inl s) _ =
          onward_other h k a first last w new_agrees.both other is_w j nl na ∙ put_at-same h (k first) (h last) j (before_first ∙ ap Some (sym s))
          ∙ after_last ∙ v_stays f g p first last v agrees.both apart is_v (λ e. na (s ∙ one_some (sym e ∙ before))) ∙ ap f (sym s)
      by (inr nl) (inr na) (inr np) _ =
          onward_other h k a first last w new_agrees.both other is_w j nl na ∙ put_at-other h (k first) (h last) j (λ e. np (one_some (sym e ∙ before_first)))
          ∙ after_other j nl np ∙ put_at-other f (g first) (f last) j (λ e. na (one_some (sym e ∙ before)))

  pub spliced_back_restores : with_splice new a first last ≡ link_map
  spliced_back_restores =
      pairs_decide (with_splice new a first last) link_map
      (spliced_agrees new a first last new_agrees new_a (still first valid_first) (still last valid_last) other) agrees
      (λ i. let outer = HasLink-spliced new a first last new_agrees new_a (still first valid_first) (still last valid_last) other i in
      let inner = HasLink-spliced link_map p first last agrees valid_p valid_first valid_last apart i in
      (λ valid. inner.0 (outer.0 valid), λ valid. outer.1 (inner.1 valid)))
      (λ i j. (λ e. sym (next_back i) ∙ e, λ e. next_back i ∙ e))

pub splice_back_restores : SpliceBackRestores
splice_back_restores link_map p first last a agrees valid_p valid_first valid_last apart before other =
    spliced_back_restores link_map p first last a agrees valid_p valid_first valid_last apart before other
