-- Where a compression moves each entry.
use Rattle.std.proofs.Common.{◌≡◌, ◌≢◌, ℕ, zero, suc, ◌+◌, ◌≤◌, inl, inr, ◌⊎◌, Bool, List, [], ◌∷◌, map, None, Some, refl, sym, ap, ◌∙◌, subst, arith}
use Rattle.std.specs.Prelude.{All}
use Rattle.std.specs.List.{range_with_len}
use Rattle.std.specs.Option.{option_map}
use Rattle.std.proofs.lemmas.Bool.{cases_eq}
use Rattle.std.proofs.lemmas.List.Elements.{All-nil, All-head, All-tail, All-map}
use Rattle.arena_traits.specs.Compressions.{IsCompressed, AreCompacted, counter_after_compression, values_in}
use Rattle.arena_traits.specs.Entries.{ArenaView, AscendsFrom, first_key, found, index_of}
use Rattle.arena_traits.proofs.EntrySearchLemmas.{at_first, past_first}
use Rattle.chain_laws.specs.Arrangements.{place_from}
use Rattle.chain_laws.proofs.RenamingLemmas.Positions.{place-same, place-first, place-other, place-within}
use Rattle.surject_arena.specs.Renames.{AreMatched}
use Rattle.surject_arena.specs.Surjections.{map_view}
use Rattle.surject_arena.proofs.OptionLemmas.{same_some, none_some}
use Rattle.surject_arena.proofs.ViewLemmas.{each, index-each, count-each}

same_list : (a b : ℕ) (xs ys : List ℕ) → a ∷ xs ≡ b ∷ ys → (a ≡ b) × (xs ≡ ys)
same_list a b xs ys same = (let h = same in cc, let h = same in cc)

module _ {Gen X : Type 0} where
  abbrev pub AreNumberedFrom : ℕ → List ((ℕ × Gen) × X) → Type 0
  AreNumberedFrom n [] = Unit {0}
  AreNumberedFrom n (e ∷ es) = (e.0.0 ≡ n) × AreNumberedFrom (suc n) es

  pub numbered : (n m : ℕ) (es : List ((ℕ × Gen) × X)) → map index_of es ≡ range_with_len n m → AreNumberedFrom n es
  numbered n m [] are = tt
  numbered n zero (e ∷ es) are = absurd (let h = are in cc)
  numbered n (suc m) (e ∷ es) are =
      let parts = same_list e.0.0 n (map index_of es) (range_with_len (n + 1) m) are in
      let next : n + 1 ≡ suc n = omega arith in
      (parts.0, numbered (suc n) m es (parts.1 ∙ ap (λ (k : ℕ). range_with_len k m) next))

  found_above : (j i : ℕ) (e : Gen × X) (es : List ((ℕ × Gen) × X)) → AscendsFrom j es → found i es ≡ Some e → j ≤ i
  found_above j i e [] ascends at = absurd (none_some e (found i []) refl at)
  found_above j i e (a ∷ es) ascends at = by (cases_eq a.0.0 i) (found_above (suc a.0.0) i e es ascends.1)
    where
      by : (a.0.0 ≡ i) ⊎ (a.0.0 ≡ i → ⊥) → (found i es ≡ Some e → suc a.0.0 ≤ i) → j ≤ i
      by (inl same) later = omega (arith, same, ascends.0)
      by (inr other) later = omega (arith, later (sym (past_first a i es other) ∙ at), ascends.0)

  pub all_found : (P : (ℕ × Gen) × X → Type 0) (i : ℕ) (e : Gen × X) (es : List ((ℕ × Gen) × X)) → All P es → found i es ≡ Some e → P ((i, e.0), e.1)
  all_found P i e [] holds at = absurd (none_some e (found i []) refl at)
  all_found P i e (a ∷ es) holds at = by (cases_eq a.0.0 i) (all_found P i e es (All-tail P a es holds))
    where
      by : (a.0.0 ≡ i) ⊎ (a.0.0 ≡ i → ⊥) → (found i es ≡ Some e → P ((i, e.0), e.1)) → P ((i, e.0), e.1)
      by (inl same) later =
          let is : (a.0.1, a.1) ≡ e = same_some (a.0.1, a.1) e (sym (at_first a i es same) ∙ at) in
          subst (λ (x : Gen × X). P ((i, x.0), x.1)) is (subst (λ (k : ℕ). P ((k, a.0.1), a.1)) same (All-head P a es holds))
      by (inr other) later = later (sym (past_first a i es other) ∙ at)

  module _ (R : Gen × X → Gen × X → Type 0) where
    abbrev pub AreRelated : List ((ℕ × Gen) × X) → List ((ℕ × Gen) × X) → Type 0
    AreRelated es fs = AreMatched (λ e f. R (e.0.1, e.1) (f.0.1, f.1)) es fs

    pub record IsMovedTo (n : ℕ) (es fs : List ((ℕ × Gen) × X)) (i : ℕ) (e : Gen × X) : Type 0 where
      pub to : ℕ
      pub entry : Gen × X
      pub place : place_from n (map index_of es) i ≡ Some to
      pub stored : found to fs ≡ Some entry
      pub related : R e entry

    pub moved_to : (n : ℕ) (es fs : List ((ℕ × Gen) × X)) → AreRelated es fs → AreNumberedFrom n fs → (i : ℕ) (e : Gen × X) → found i es ≡ Some e → IsMovedTo n es fs i e
    moved_to n [] fs are numbers i e at = absurd (none_some e (found i []) refl at)
    moved_to n (a ∷ es) [] are numbers i e at = absurd are
    moved_to n (a ∷ es) (b ∷ fs) are numbers i e at = by (cases_eq a.0.0 i) (moved_to (suc n) es fs are.1 numbers.1 i e)
      where
        by : (a.0.0 ≡ i) ⊎ (a.0.0 ≡ i → ⊥) → (found i es ≡ Some e → IsMovedTo (suc n) es fs i e) → IsMovedTo n (a ∷ es) (b ∷ fs) i e
        by (inl same) rest = record {
          to = n;
          entry = (b.0.1, b.1);
          place = place-first n a.0.0 (map index_of es) i same;
          stored = at_first b n fs numbers.0;
          related = subst (λ (x : Gen × X). R x (b.0.1, b.1)) (same_some (a.0.1, a.1) e (sym (at_first a i es same) ∙ at)) are.0;
        }
        by (inr other) rest =
            let later = rest (sym (past_first a i es other) ∙ at) in
            let above = place-within (suc n) (map index_of es) i later.to later.place in
            record {
              to = later.to;
              entry = later.entry;
              place = place-other n a.0.0 (map index_of es) i other ∙ later.place;
              stored = past_first b later.to fs (λ is. omega (arith, is, numbers.0, above.0)) ∙ later.stored;
              related = later.related;
            }

    pub record IsMovedFrom (n : ℕ) (es fs : List ((ℕ × Gen) × X)) (k : ℕ) (f : Gen × X) : Type 0 where
      pub from : ℕ
      pub entry : Gen × X
      pub place : place_from n (map index_of es) from ≡ Some k
      pub stored : found from es ≡ Some entry
      pub related : R entry f

    pub moved_from : (n j : ℕ) (es fs : List ((ℕ × Gen) × X)) → AreRelated es fs → AreNumberedFrom n fs → AscendsFrom j es → (k : ℕ) (f : Gen × X) → found k fs ≡ Some f → IsMovedFrom n es fs k f
    moved_from n j [] [] are numbers ascends k f at = absurd (none_some f (found k []) refl at)
    moved_from n j [] (b ∷ fs) are numbers ascends k f at = absurd are
    moved_from n j (a ∷ es) [] are numbers ascends k f at = absurd are
    moved_from n j (a ∷ es) (b ∷ fs) are numbers ascends k f at = by (cases_eq b.0.0 k) (moved_from (suc n) (suc a.0.0) es fs are.1 numbers.1 ascends.1 k f)
      where
        by : (b.0.0 ≡ k) ⊎ (b.0.0 ≡ k → ⊥) → (found k fs ≡ Some f → IsMovedFrom (suc n) es fs k f) → IsMovedFrom n (a ∷ es) (b ∷ fs) k f
        by (inl same) rest = record {
          from = a.0.0;
          entry = (a.0.1, a.1);
          place = place-same n (map index_of es) a.0.0 ∙ ap (λ (m : ℕ). Some m) (sym numbers.0 ∙ same);
          stored = at_first a a.0.0 es refl;
          related = subst (λ (x : Gen × X). R (a.0.1, a.1) x) (same_some (b.0.1, b.1) f (sym (at_first b k fs same) ∙ at)) are.0;
        }
        by (inr other) rest =
            let later = rest (sym (past_first b k fs other) ∙ at) in
            let above = found_above (suc a.0.0) later.from later.entry es ascends.1 later.stored in
            let apart : a.0.0 ≢ later.from = λ is. omega (arith, is, above) in
            record {
              from = later.from;
              entry = later.entry;
              place = place-other n a.0.0 (map index_of es) later.from apart ∙ later.place;
              stored = past_first a later.from es apart ∙ later.stored;
              related = later.related;
            }

  pub with_generation : (S : X → X → Type 0) (g : Gen) (es fs : List ((ℕ × Gen) × X)) → AreMatched (λ e f. S e.1 f.1) es fs → All (λ f. f.0.1 ≡ g) fs → AreRelated (λ e f. (f.0 ≡ g) × S e.1 f.1) es fs
  with_generation S g [] [] are all = tt
  with_generation S g [] (b ∷ fs) are all = absurd are
  with_generation S g (a ∷ es) [] are all = absurd are
  with_generation S g (a ∷ es) (b ∷ fs) are all = ((All-head (λ f. f.0.1 ≡ g) b fs all, are.0), with_generation S g es fs are.1 (All-tail (λ f. f.0.1 ≡ g) b fs all))

  pub same_values : (es fs : List ((ℕ × Gen) × X)) → values_in fs ≡ values_in es → AreMatched (λ e f. f.1 ≡ e.1) es fs
  same_values [] [] same = tt
  same_values [] (b ∷ fs) same = absurd (let h = same in cc)
  same_values (a ∷ es) [] same = absurd (let h = same in cc)
  same_values (a ∷ es) (b ∷ fs) same = (let h = same in cc, same_values es fs (let h = same in cc))

  pub first_generation : (g : Gen) (p : ℕ × Gen) (es : List ((ℕ × Gen) × X)) → All (λ e. e.0.1 ≡ g) es → Some p ≡ first_key es → All (λ e. e.0.1 ≡ p.1) es
  first_generation g p [] all first = absurd (let h = first in cc)
  first_generation g p (e ∷ es) all first =
      let same : p.1 ≡ g = ap (λ (q : ℕ × Gen). q.1) (same_some p e.0 first) ∙ All-head (λ f. f.0.1 ≡ g) e es all in
      subst (λ (h : Gen). All (λ f. f.0.1 ≡ h) (e ∷ es)) (sym same) all

  pub no_generation : (P : (ℕ × Gen) × X → Type 0) (es : List ((ℕ × Gen) × X)) → None ≡ first_key es → All P es
  no_generation P [] none = All-nil P
  no_generation P (e ∷ es) none = absurd (let h = none in cc)

module _ {Gen X Y : Type 0} (f : X → Y) where
  pub values_each : (es : List ((ℕ × Gen) × X)) → values_in (map (each f) es) ≡ map f (values_in es)
  values_each [] = refl
  values_each (e ∷ es) = ap (λ l. f e.1 ∷ l) (values_each es)

  pub compressed-each : (first : Gen) (following : Gen → Gen) (reset : Bool) (old new : ArenaView Gen X) → IsCompressed first following reset old new → IsCompressed first following reset (map_view f old) (map_view f new)
  compressed-each first following reset old new is = record {
    indexes = index-each f new.entries ∙ (is.indexes ∙ ap (λ (n : ℕ). range_with_len 1 n) (sym (count-each f old)));
    counter = subst (λ (n : ℕ). new.counter ≡ option_map (counter_after_compression first following reset n) old.counter) (sym (count-each f old)) is.counter;
    generation = is.generation;
    generations = All-map (λ (e : (ℕ × Gen) × Y). e.0.1 ≡ is.generation) (each f) new.entries is.generations;
    is_counter = is.is_counter;
    slots = subst (λ (n : ℕ). AreCompacted n old.slots new.slots) (sym (count-each f old)) is.slots;
    capacity = is.capacity;
    maximum = is.maximum;
  }
