-- Interlinks after a run is moved: next and prev still undo each other.
use Rattle.std.specs.Prelude.{◌≡◌, ◌≢◌, ◌↔◌, ℕ, ◌==◌, if◌then◌else◌, ◌⊎◌, Option, None, Some}
use Rattle.std.proofs.Common.{sym, ap, ◌∙◌, inl, inr, ⊎_elim}
use Rattle.std.proofs.lemmas.Bool.{cases_eq}
use Rattle.chain_laws.specs.Chains.{LinkMap, HasLink, IsWellLinked, prev_of, next_of}
use Rattle.chain_laws.specs.Joins.{with_neighbors}
use Rattle.chain_laws.specs.Splices.{without_run, with_splice, SpliceAgrees}
use Rattle.chain_laws.proofs.InterlinkLemmas.Inverses.{Undoes, Undoes-at, altered, altered-same, altered-other, one_some}
use Rattle.chain_laws.proofs.InterlinkLemmas.Linked.{IsValidAt, IsValidAt-Some, put_at, next_of-linked, prev_of-linked, HasLink-linked}
use Rattle.chain_laws.proofs.InterlinkLemmas.Skips.{names_or_not}
use Rattle.chain_laws.proofs.InsertionLemmas.Pairs.{put_at-same, put_at-other}
use Rattle.chain_laws.proofs.ChainLemmas.LinkedLists.{next_valid, prev_valid}

put_at-alike : (f h : ℕ → Option ℕ) (u o : Option ℕ) (j : ℕ) → f j ≡ h j → put_at f u o j ≡ put_at h u o j
put_at-alike f h None o j e = e
put_at-alike f h (Some i) o j e = ap (λ (r : Option ℕ). if j == i then o else r) e

abbrev pub next_without_run : (f g : ℕ → Option ℕ) (first last : ℕ) → ℕ → Option ℕ
next_without_run f g first last = put_at f (g first) (f last)

abbrev pub next_with_splice : (f g : ℕ → Option ℕ) (p first last : ℕ) (v : Option ℕ) → ℕ → Option ℕ
next_with_splice f g p first last v = altered (altered (next_without_run f g first last) p (Some first)) last v

abbrev pub prev_with_splice : (f g : ℕ → Option ℕ) (p first last : ℕ) (v : Option ℕ) → ℕ → Option ℕ
prev_with_splice f g p first last v = put_at (altered (put_at g (f last) (g first)) first (Some p)) v (Some last)

module _ (f g : ℕ → Option ℕ) (p first last : ℕ) (v : Option ℕ) (each : Undoes f g) (apart : p ≢ last) (is_v : v ≡ next_without_run f g first last p) where
  pub v_past : g first ≡ Some p → v ≡ f last
  v_past at_p = is_v ∙ put_at-same f (g first) (f last) p at_p

  pub v_stays : g first ≢ Some p → v ≡ f p
  v_stays not_p = is_v ∙ put_at-other f (g first) (f last) p not_p

  once : (i j k : ℕ) → f i ≡ Some k → f j ≡ Some k → i ≡ j
  once i j k e d = one_some (sym ((each i k).0 e) ∙ (each j k).0 d)

  pub v_only : (i j : ℕ) → i ≢ last → i ≢ p → f i ≡ Some j → v ≢ Some j
  v_only i j not_last not_p e w = ⊎_elim
      (λ at_p. not_last (once i last j e (sym (v_past at_p) ∙ w)))
      (λ ne. not_p (once i p j e (sym (v_stays ne) ∙ w)))
      (names_or_not (g first) p)

  pub v_not_first : v ≢ Some first
  v_not_first w = ⊎_elim
      (λ at_p. apart (one_some (sym at_p ∙ (each last first).0 (sym (v_past at_p) ∙ w))))
      (λ ne. ne ((each p first).0 (sym (v_stays ne) ∙ w)))
      (names_or_not (g first) p)

  pub v_not_past : g first ≢ Some p → (j : ℕ) → f last ≡ Some j → v ≢ Some j
  v_not_past ne j e w = apart (once p last j (sym (v_stays ne) ∙ w) e)

  pub onward_last : (i : ℕ) → i ≡ last → next_with_splice f g p first last v i ≡ v
  onward_last i e = altered-same (altered (next_without_run f g first last) p (Some first)) last v i e

  pub onward_p : (i : ℕ) → i ≢ last → i ≡ p → next_with_splice f g p first last v i ≡ Some first
  onward_p i ne e = altered-other (altered (next_without_run f g first last) p (Some first)) last v i ne ∙ altered-same (next_without_run f g first last) p (Some first) i e

  pub onward_other : (i : ℕ) → i ≢ last → i ≢ p → next_with_splice f g p first last v i ≡ next_without_run f g first last i
  onward_other i not_last not_p =
      altered-other (altered (next_without_run f g first last) p (Some first)) last v i not_last ∙ altered-other (next_without_run f g first last) p (Some first) i not_p

  pub back_v : (j : ℕ) → v ≡ Some j → prev_with_splice f g p first last v j ≡ Some last
  back_v j e = put_at-same (altered (put_at g (f last) (g first)) first (Some p)) v (Some last) j e

  pub back_first : (j : ℕ) → v ≢ Some j → j ≡ first → prev_with_splice f g p first last v j ≡ Some p
  back_first j ne e =
      put_at-other (altered (put_at g (f last) (g first)) first (Some p)) v (Some last) j ne ∙ altered-same (put_at g (f last) (g first)) first (Some p) j e

  pub back_other : (j : ℕ) → v ≢ Some j → j ≢ first → prev_with_splice f g p first last v j ≡ put_at g (f last) (g first) j
  back_other j ne not_first =
      put_at-other (altered (put_at g (f last) (g first)) first (Some p)) v (Some last) j ne ∙ altered-other (put_at g (f last) (g first)) first (Some p) j not_first

  there : (i j : ℕ) → next_with_splice f g p first last v i ≡ Some j → (i ≡ last) ⊎ (i ≢ last) → (i ≡ p) ⊎ (i ≢ p) → (g first ≡ Some i) ⊎ (g first ≢ Some i)
      → prev_with_splice f g p first last v j ≡ Some i
  there i j e (inl s) _ _ = back_v j (sym (onward_last i s) ∙ e) ∙ ap Some (sym s)
  there i j e (inr nl) (inl s) _ =
      let same : first ≡ j = one_some (sym (onward_p i nl s) ∙ e) in
      back_first j (λ w. v_not_first (w ∙ ap Some (sym same))) (sym same) ∙ ap Some (sym s)
  there i j e (inr nl) (inr np) (inl at_a) =
      let past : f last ≡ Some j = sym (put_at-same f (g first) (f last) i at_a) ∙ sym (onward_other i nl np) ∙ e in
      back_other j (v_not_past (λ at_p. np (one_some (sym at_a ∙ at_p))) j past) (λ s. nl (one_some (sym at_a ∙ ap g (sym s) ∙ (each last j).0 past)))
      ∙ put_at-same g (f last) (g first) j past ∙ at_a
  there i j e (inr nl) (inr np) (inr not_a) =
      let here : f i ≡ Some j = sym (put_at-other f (g first) (f last) i not_a) ∙ sym (onward_other i nl np) ∙ e in
      let before : g j ≡ Some i = (each i j).0 here in
      back_other j (v_only i j nl np here) (λ s. not_a (ap g (sym s) ∙ before))
      ∙ put_at-other g (f last) (g first) j (λ d. nl (once i last j here d)) ∙ before

  back : (i j : ℕ) → prev_with_splice f g p first last v j ≡ Some i → (v ≡ Some j) ⊎ (v ≢ Some j) → (j ≡ first) ⊎ (j ≢ first) → (f last ≡ Some j) ⊎ (f last ≢ Some j)
      → next_with_splice f g p first last v i ≡ Some j
  back i j e (inl w) _ _ = onward_last i (one_some (sym e ∙ back_v j w)) ∙ w
  back i j e (inr nv) (inl s) _ =
      let same : p ≡ i = one_some (sym (back_first j nv s) ∙ e) in
      onward_p i (λ t. apart (same ∙ t)) (sym same) ∙ ap Some (sym s)
  back i j e (inr nv) (inr nf) (inl at_n) =
      let at_a : g first ≡ Some i = sym (put_at-same g (f last) (g first) j at_n) ∙ sym (back_other j nv nf) ∙ e in
      onward_other i (λ t. nf (one_some (sym at_n ∙ ap f (sym t) ∙ (each i first).1 at_a))) (λ t. nv (v_past (at_a ∙ ap Some t) ∙ at_n))
      ∙ put_at-same f (g first) (f last) i at_a ∙ at_n
  back i j e (inr nv) (inr nf) (inr not_n) =
      let before : g j ≡ Some i = sym (put_at-other g (f last) (g first) j not_n) ∙ sym (back_other j nv nf) ∙ e in
      let here : f i ≡ Some j = (each i j).1 before in
      let not_a : g first ≢ Some i = λ d. nf (one_some (sym here ∙ (each i first).1 d)) in
      onward_other i (λ t. not_n (ap f (sym t) ∙ here)) (λ t. nv (v_stays (λ d. not_a (d ∙ ap Some (sym t))) ∙ ap f (sym t) ∙ here))
      ∙ put_at-other f (g first) (f last) i not_a ∙ here

  pub splice_undoes : Undoes (next_with_splice f g p first last v) (prev_with_splice f g p first last v)
  splice_undoes i j = (
    λ e. there i j e (cases_eq i last) (cases_eq i p) (names_or_not (g first) i),
    λ e. back i j e (names_or_not v j) (cases_eq j first) (names_or_not (f last) j),
  )

module _ (link_map : LinkMap) (p first last : ℕ) (agrees : IsWellLinked link_map) (valid_p : HasLink link_map p) (valid_first : HasLink link_map first) (valid_last : HasLink link_map last) (apart : p ≢ last) where
  abbrev pub rest : LinkMap
  rest = without_run link_map first last

  abbrev half : LinkMap
  half = with_neighbors rest (Some p) (Some first)

  abbrev pub new : LinkMap
  new = with_splice link_map p first last

  abbrev pub beyond : Option ℕ
  beyond = next_of rest p

  HasLink-half : (i : ℕ) → HasLink half i ↔ HasLink link_map i
  HasLink-half i =
      let outer = HasLink-linked rest (Some p) (Some first) i in
      let inner = HasLink-linked link_map (prev_of link_map first) (next_of link_map last) i in
      (λ h. inner.0 (outer.0 h), λ h. outer.1 (inner.1 h))

  pub HasLink-spliced : (i : ℕ) → HasLink new i ↔ HasLink link_map i
  HasLink-spliced i =
      let outer = HasLink-linked half (Some last) beyond i in
      (λ h. (HasLink-half i).0 (outer.0 h), λ h. outer.1 ((HasLink-half i).1 h))

  HasLink-rest : (i : ℕ) → HasLink link_map i → HasLink rest i
  HasLink-rest i h = (HasLink-linked link_map (prev_of link_map first) (next_of link_map last) i).1 h

  pub next_of-rest : (j : ℕ) → next_of rest j ≡ next_without_run (next_of link_map) (prev_of link_map) first last j
  next_of-rest j = next_of-linked link_map (prev_of link_map first) (next_of link_map last) j (λ i e. next_valid link_map i first ((agrees.both i first).1 e))

  after_valid : (k j : ℕ) → next_of link_map k ≡ Some j → HasLink link_map j
  after_valid k j e = prev_valid link_map j k ((agrees.both k j).0 e)

  prev_of-rest : (j : ℕ) → prev_of rest j ≡ put_at (prev_of link_map) (next_of link_map last) (prev_of link_map first) j
  prev_of-rest j = prev_of-linked link_map (prev_of link_map first) (next_of link_map last) j (λ i e. after_valid last i e)

  beyond_valid : IsValidAt half beyond
  beyond_valid i e = (HasLink-half i).1 (⊎_elim
      (λ at_p. after_valid last i (sym (put_at-same (next_of link_map) (prev_of link_map first) (next_of link_map last) p at_p) ∙ sym (next_of-rest p) ∙ e))
      (λ ne. after_valid p i (sym (put_at-other (next_of link_map) (prev_of link_map first) (next_of link_map last) p ne) ∙ sym (next_of-rest p) ∙ e))
      (names_or_not (prev_of link_map first) p))

  pub next_of-spliced : (j : ℕ) → next_of new j ≡ next_with_splice (next_of link_map) (prev_of link_map) p first last beyond j
  next_of-spliced j =
      next_of-linked half (Some last) beyond j (IsValidAt-Some half last ((HasLink-half last).1 valid_last))
      ∙ ap (λ (o : Option ℕ). if j == last then beyond else o)
      (next_of-linked rest (Some p) (Some first) j (IsValidAt-Some rest p (HasLink-rest p valid_p))
      ∙ ap (λ (o : Option ℕ). if j == p then Some first else o) (next_of-rest j))

  pub prev_of-spliced : (j : ℕ) → prev_of new j ≡ prev_with_splice (next_of link_map) (prev_of link_map) p first last beyond j
  prev_of-spliced j =
      prev_of-linked half (Some last) beyond j beyond_valid
      ∙ put_at-alike (prev_of half) (altered (put_at (prev_of link_map) (next_of link_map last) (prev_of link_map first)) first (Some p)) beyond (Some last) j
      (prev_of-linked rest (Some p) (Some first) j (IsValidAt-Some rest first (HasLink-rest first valid_first))
      ∙ ap (λ (o : Option ℕ). if j == first then Some p else o) (prev_of-rest j))

  pub spliced_agrees : IsWellLinked new
  spliced_agrees = record {
    both = Undoes-at (next_with_splice (next_of link_map) (prev_of link_map) p first last beyond) (prev_with_splice (next_of link_map) (prev_of link_map) p first last beyond)
        (next_of new) (prev_of new) next_of-spliced prev_of-spliced
        (splice_undoes (next_of link_map) (prev_of link_map) p first last beyond agrees.both apart (next_of-rest p));
  }

pub splice_agrees : SpliceAgrees
splice_agrees link_map p first last agrees valid_p valid_first valid_last apart = spliced_agrees link_map p first last agrees valid_p valid_first valid_last apart
