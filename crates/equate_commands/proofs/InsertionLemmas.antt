-- A word that was not known is inserted into a class of its own.
use Rattle.std.proofs.Common.{◌≡◌, ◌≢◌, ◌⊎◌, inl, inr, ℕ, List, None, Some, is_some, true, String, string_bytes, Global, refl, sym, ap, ◌∙◌, subst, ⊎_elim}
use Rattle.std.proofs.lemmas.Bool.{cases_eq}
use Rattle.surject_arena.specs.Surjections.{entry_in, set_at, IsSurjection}
use Rattle.surject_arena.specs.SetCalls.{IsSetAdded}
use Rattle.equate_commands.specs.WordClasses.{WordClasses, word_at, pointer_of, Agree, AreEqual, IsInterned}
use Rattle.equate_commands.proofs.TableLemmas.{cases_word}
use Rattle.equate_commands.proofs.ClassLemmas.{same_some, not_none, same_pair, some_of, word_in, set_in, word_stored, set_stored, IsIn, equal_in, equal_from, equal_self}

module _ {Gen : Type 0} (old new : WordClasses Gen) (agree : Agree old.table old.arena) (is : IsSurjection old.arena) (k : String Global) (p : ℕ × Gen) (added : IsSetAdded old.arena new.arena k tt p)
    (unknown : pointer_of old (string_bytes k) ≡ None) (here : pointer_of new (string_bytes k) ≡ Some p) (rest : (x : List ℕ) → x ≢ string_bytes k → pointer_of new x ≡ pointer_of old x) where
  abbrev word : List ℕ
  word = string_bytes k

  same_word : (i : ℕ) → i ≢ p.0 → word_at new.arena i ≡ word_at old.arena i
  same_word i other = ap word_in (added.key.entries.rest i other)

  same_set : (i : ℕ) → i ≢ p.0 → set_at new.arena i ≡ set_at old.arena i
  same_set i other = ap set_in (added.key.entries.rest i other)

  apart : (i : ℕ) (e : Gen × List ℕ) → word_at old.arena i ≡ Some e → i ≢ p.0
  apart i e at same = not_none e (word_at old.arena i) (ap (word_at old.arena) same ∙ ap word_in added.key.entries.free) at

  set_apart : (i : ℕ) (w : ℕ × Gen) → set_at old.arena i ≡ Some w → i ≢ p.0
  set_apart i w at same = not_none w (set_at old.arena i) (ap (set_at old.arena) same ∙ ap set_in added.key.entries.free) at

  stored : word_at new.arena p.0 ≡ Some (p.1, word)
  stored = word_stored new.arena p.0 p.1 k added.set added.key.entries.stored

  listed : (x : List ℕ) (q : ℕ × Gen) → pointer_of new x ≡ Some q → word_at new.arena q.0 ≡ Some (q.1, x)
  listed x q at = ⊎_elim
      (λ same. let is_p = same_some p q (sym here ∙ (ap (pointer_of new) (sym same) ∙ at)) in
      subst (λ (r : ℕ × Gen). word_at new.arena r.0 ≡ Some (r.1, x)) is_p (stored ∙ ap (λ (y : List ℕ). Some (p.1, y)) (sym same)))
      (λ other. let was = (agree x q).0 (sym (rest x other) ∙ at) in
      same_word q.0 (apart q.0 (q.1, x) was) ∙ was)
      (cases_word x word)

  pointed : (x : List ℕ) (q : ℕ × Gen) → word_at new.arena q.0 ≡ Some (q.1, x) → pointer_of new x ≡ Some q
  pointed x q at = ⊎_elim
      (λ same. let both = same_some (p.1, word) (q.1, x) (sym stored ∙ (ap (word_at new.arena) (sym same) ∙ at)) in
      ap (pointer_of new) (sym (ap (λ (e : Gen × List ℕ). e.1) both)) ∙ (here ∙ ap (λ (r : ℕ × Gen). Some r) (same_pair p q (sym same) (ap (λ (e : Gen × List ℕ). e.0) both))))
      (λ other. let was = (agree x q).1 (sym (same_word q.0 other) ∙ at) in
      rest x (λ is_word. not_none q (pointer_of old x) (ap (pointer_of old) is_word ∙ unknown) was) ∙ was)
      (cases_eq q.0 p.0)

  pub inserted_agree : Agree new.table new.arena
  inserted_agree x q = (listed x q, pointed x q)

  on : (x : List ℕ) (w : ℕ × Gen) → IsIn old x w → IsIn new x w
  on x w (q, at, in_w) = (q, rest x (λ is_word. not_none q (pointer_of old x) (ap (pointer_of old) is_word ∙ unknown) at) ∙ at, same_set q.0 (set_apart q.0 w in_w) ∙ in_w)

  set_here : set_at new.arena p.0 ≡ Some added.set
  set_here = set_stored new.arena p.0 p.1 k added.set added.key.entries.stored

  own : IsIn new word added.set
  own = (p, here, set_here)

  back : (x : List ℕ) (w : ℕ × Gen) → IsIn new x w → IsIn old x w ⊎ ((x ≡ word) × (w ≡ added.set))
  back x w (q, at, in_w) = ⊎_elim
      (λ same. let is_p = same_some p q (sym here ∙ (ap (pointer_of new) (sym same) ∙ at)) in
      inr (same, same_some w added.set (sym in_w ∙ (ap (λ (r : ℕ × Gen). set_at new.arena r.0) (sym is_p) ∙ set_here))))
      (λ other. let was = sym (rest x other) ∙ at in
      inl (q, was, sym (same_set q.0 (apart q.0 (q.1, x) ((agree x q).0 was))) ∙ in_w))
      (cases_word x word)

  fresh : (x : List ℕ) → IsIn old x added.set → ⊥
  fresh x (q, at, in_w) =
      let valued = is.valued q.0 added.set in_w in
      not_none (added.set.1, (valued.0, valued.1)) (entry_in old.arena.values added.set.0) added.value.entries.free valued.2

  to_old : (x y : List ℕ) → AreEqual new x y → AreEqual old x y ⊎ ((x ≡ word) × (y ≡ word))
  to_old x y equal =
      let both = equal_in new x y equal in
      ⊎_elim
      (λ was_x. ⊎_elim
      (λ was_y. inl (equal_from old agree x y both.0 was_x was_y))
      (λ new_y. absurd (fresh x (subst (λ (w : ℕ × Gen). IsIn old x w) new_y.1 was_x)))
      (back y both.0 both.2))
      (λ new_x. ⊎_elim
      (λ was_y. absurd (fresh y (subst (λ (w : ℕ × Gen). IsIn old y w) new_x.1 was_y)))
      (λ new_y. inr (new_x.0, new_y.0))
      (back y both.0 both.2))
      (back x both.0 both.1)

  to_new : (x y : List ℕ) → AreEqual old x y ⊎ ((x ≡ word) × (y ≡ word)) → AreEqual new x y
  to_new x y (inl equal) = let both = equal_in old x y equal in equal_from new inserted_agree x y both.0 (on x both.0 both.1) (on y both.0 both.2)
  to_new x y (inr (is_x, is_y)) =
      equal_from new inserted_agree x y added.set (subst (λ (z : List ℕ). IsIn new z added.set) (sym is_x) own) (subst (λ (z : List ℕ). IsIn new z added.set) (sym is_y) own)

  still : (x y : List ℕ) → is_some (pointer_of old x) ≡ true → AreEqual old x y ⊎ ((x ≡ word) × (y ≡ word)) → AreEqual old x y
  still x y known (inl equal) = equal
  still x y known (inr both) =
      let q = some_of (pointer_of old x) known in
      absurd (not_none q.0 (pointer_of old x) (ap (pointer_of old) both.0 ∙ unknown) q.1)

  pub is_interned : IsInterned old new (string_bytes k) p
  is_interned = record {
    here = here;
    pointers = λ x known. ⊎_elim
        (λ was. let q = some_of (pointer_of old x) was in rest x (λ is_word. not_none q.0 (pointer_of old x) (ap (pointer_of old) is_word ∙ unknown) q.1))
        (λ others. rest x others.0)
        known;
    classes = λ x y. (to_old x y, to_new x y);
    kept = λ x y known_x known_y. (λ equal. still x y known_x (to_old x y equal), λ equal. to_new x y (inl equal));
  }

module _ {Gen : Type 0} (c : WordClasses Gen) (agree : Agree c.table c.arena) (a : List ℕ) (p : ℕ × Gen) (here : pointer_of c a ≡ Some p) where
  known_equal : (x y : List ℕ) → AreEqual c x y ⊎ ((x ≡ a) × (y ≡ a)) → AreEqual c x y
  known_equal x y (inl equal) = equal
  known_equal x y (inr (is_x, is_y)) = subst (λ (z : List ℕ). AreEqual c z y) (sym is_x) (subst (λ (z : List ℕ). AreEqual c a z) (sym is_y) (equal_self c agree a p here))

  pub stays_interned : IsInterned c c a p
  stays_interned = record {
    here = here;
    pointers = λ x known. refl;
    classes = λ x y. (λ equal. inl equal, known_equal x y);
    kept = λ x y known_x known_y. (λ equal. equal, λ equal. equal);
  }
