-- Partial inverses: `f` gives the index after an index, `g` the index before it.
use Rattle.std.specs.Prelude.{◌≡◌, ◌≢◌, ◌↔◌, ℕ, ◌==◌, if◌then◌else◌, Option, None, Some}
use Rattle.std.proofs.Common.{sym, ap, ◌∙◌, subst, ⊎_elim, eq-eqb, ne_eqb}
use Rattle.std.proofs.lemmas.Bool.{cases_eq}

abbrev pub NamesBack : (ℕ → Option ℕ) → (ℕ → Option ℕ) → Type 0
NamesBack f g = (i j : ℕ) → f i ≡ Some j → g j ≡ Some i

abbrev pub Undoes : (ℕ → Option ℕ) → (ℕ → Option ℕ) → Type 0
Undoes f g = (i j : ℕ) → (f i ≡ Some j) ↔ (g j ≡ Some i)

abbrev pub altered : (ℕ → Option ℕ) → ℕ → Option ℕ → ℕ → Option ℕ
altered f i o j = if j == i then o else f j

pub if_same : {A : Type 0} (i j : ℕ) (x y : A) → i ≡ j → (if i == j then x else y) ≡ x
if_same i j x y e = ap (λ t. if t then x else y) (eq-eqb i j e)

pub if_other : {A : Type 0} (i j : ℕ) (x y : A) → i ≢ j → (if i == j then x else y) ≡ y
if_other i j x y ne = ap (λ t. if t then x else y) (ne_eqb i j ne)

pub altered-same : (f : ℕ → Option ℕ) (i : ℕ) (o : Option ℕ) (j : ℕ) → j ≡ i → altered f i o j ≡ o
altered-same f i o j e = if_same j i o (f j) e

pub altered-other : (f : ℕ → Option ℕ) (i : ℕ) (o : Option ℕ) (j : ℕ) → j ≢ i → altered f i o j ≡ f j
altered-other f i o j ne = if_other j i o (f j) ne

pub not_both_ways : {A : Type 0} (o : Option A) (x : A) → o ≡ None → o ≡ Some x → ⊥
not_both_ways o x none some = cc

pub one_some : {A : Type 0} {x y : A} → Some x ≡ Some y → x ≡ y
one_some e = cc

pub join_returns : (f g : ℕ → Option ℕ) (a b : ℕ) → NamesBack f g → g b ≡ None → NamesBack (altered f a (Some b)) (altered g b (Some a))
join_returns f g a b each free i j e =
    ⊎_elim
    (λ s. let same : j ≡ b = one_some (sym e ∙ altered-same f a (Some b) i s) in altered-same g b (Some a) j same ∙ ap Some (sym s))
    (λ ne.
    let back : g j ≡ Some i = each i j (sym (altered-other f a (Some b) i ne) ∙ e) in
    let apart : j ≢ b = λ s. not_both_ways (g b) i free (subst (λ k. g k ≡ Some i) s back) in
    altered-other g b (Some a) j apart ∙ back)
    (cases_eq i a)

pub cut_returns : (f g : ℕ → Option ℕ) (a b : ℕ) → NamesBack f g → NamesBack g f → f a ≡ Some b → NamesBack (altered f a None) (altered g b None)
cut_returns f g a b each back pair i j e =
    ⊎_elim
    (λ s. absurd (not_both_ways (altered f a None i) j (altered-same f a None i s) e))
    (λ ne.
    let here : f i ≡ Some j = sym (altered-other f a None i ne) ∙ e in
    let apart : j ≢ b = λ s. ne (one_some (sym (each i b (subst (λ k. f i ≡ Some k) s here)) ∙ each a b pair)) in
    altered-other g b None j apart ∙ each i j here)
    (cases_eq i a)

pub undoes_both : (f g : ℕ → Option ℕ) → NamesBack f g → NamesBack g f → Undoes f g
undoes_both f g there back i j = (there i j, back j i)

pub join_undoes : (f g : ℕ → Option ℕ) (a b : ℕ) → Undoes f g → f a ≡ None → g b ≡ None → Undoes (altered f a (Some b)) (altered g b (Some a))
join_undoes f g a b each none_after none_before =
    undoes_both (altered f a (Some b)) (altered g b (Some a))
    (join_returns f g a b (λ i j. (each i j).0) none_before)
    (join_returns g f b a (λ i j. (each j i).1) none_after)

pub cut_undoes : (f g : ℕ → Option ℕ) (a b : ℕ) → Undoes f g → f a ≡ Some b → Undoes (altered f a None) (altered g b None)
cut_undoes f g a b each pair =
    undoes_both (altered f a None) (altered g b None)
    (cut_returns f g a b (λ i j. (each i j).0) (λ i j. (each j i).1) pair)
    (cut_returns g f b a (λ i j. (each j i).1) (λ i j. (each i j).0) ((each a b).0 pair))

pub Undoes-at : (f g h k : ℕ → Option ℕ) → ((i : ℕ) → h i ≡ f i) → ((i : ℕ) → k i ≡ g i) → Undoes f g → Undoes h k
Undoes-at f g h k same_after same_before each i j =
    (λ e. same_before j ∙ (each i j).0 (sym (same_after i) ∙ e), λ e. same_after i ∙ (each i j).1 (sym (same_before j) ∙ e))
