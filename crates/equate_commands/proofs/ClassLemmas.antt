-- Words by the sets of their pointers.
use Rattle.std.proofs.Common.{◌≡◌, inl, inr, ℕ, List, Option, None, Some, is_some, true, option_map, String, string_bytes, Global, refl, sym, ap, ◌∙◌, subst}
use Rattle.arena_traits.specs.Entries.{found}
use Rattle.surject_arena.specs.Surjections.{Surjection, entry_in, set_at, IsKeyOf}
use Rattle.equate_commands.specs.WordClasses.{WordClasses, word_at, pointer_of, Agree, AreEqual, AreKept, IsInEitherClass}

pub same_some : {X : Type 0} (a b : X) → Some a ≡ Some b → a ≡ b
same_some a b is = cc

pub not_none : {X : Type 0} (a : X) (o : Option X) → o ≡ None → o ≡ Some a → ⊥
not_none a o none some = let both = sym none ∙ some in cc

pub some_of : {X : Type 0} (o : Option X) → is_some o ≡ true → (x : X) × (o ≡ Some x)
some_of None is = absurd (cc)
some_of (Some x) is = (x, refl)

pub same_pair : {Gen : Type 0} (p q : ℕ × Gen) → p.0 ≡ q.0 → p.1 ≡ q.1 → p ≡ q
same_pair {Gen} p q same also = ap (λ (i : ℕ). (i, p.1)) same ∙ ap (λ (g : Gen). (q.0, g)) also

abbrev pub word_in : {Gen : Type 0} → Option (Gen × (String Global × (ℕ × Gen))) → Option (Gen × List ℕ)
word_in {Gen} o = option_map (λ (e : Gen × String Global). (e.0, string_bytes e.1)) (option_map (λ (e : Gen × (String Global × (ℕ × Gen))). (e.0, e.1.0)) o)

abbrev pub set_in : {Gen : Type 0} → Option (Gen × (String Global × (ℕ × Gen))) → Option (ℕ × Gen)
set_in {Gen} o = option_map (λ (e : Gen × (String Global × (ℕ × Gen))). e.1.1) o

module _ {Gen : Type 0} (s : Surjection Gen (String Global) Unit) where
  pub word_stored : (i : ℕ) (g : Gen) (k : String Global) (w : ℕ × Gen) → entry_in s.keys i ≡ Some (g, (k, w)) → word_at s i ≡ Some (g, string_bytes k)
  word_stored i g k w at = ap word_in at

  pub set_stored : (i : ℕ) (g : Gen) (k : String Global) (w : ℕ × Gen) → entry_in s.keys i ≡ Some (g, (k, w)) → set_at s i ≡ Some w
  set_stored i g k w at = ap set_in at

  pub entry_of_word : (i : ℕ) (g : Gen) (word : List ℕ) → word_at s i ≡ Some (g, word) → (k : String Global) × (w : ℕ × Gen) × (entry_in s.keys i ≡ Some (g, (k, w)))
  entry_of_word i g word at = by (entry_in s.keys i) refl at
    where
      by : (o : Option (Gen × (String Global × (ℕ × Gen)))) → entry_in s.keys i ≡ o → word_in o ≡ Some (g, word)
          → (k : String Global) × (w : ℕ × Gen) × (entry_in s.keys i ≡ Some (g, (k, w)))
      by None is at = absurd (cc)
      by (Some e) is at = (e.1.0, e.1.1, is ∙ ap (λ h. Some (h, e.1)) (ap (λ x. x.0) (same_some (e.0, string_bytes e.1.0) (g, word) at)))

module _ {Gen : Type 0} (c : WordClasses Gen) where
  abbrev pub IsIn : List ℕ → ℕ × Gen → Type 0
  IsIn x w = (p : ℕ × Gen) × (pointer_of c x ≡ Some p) × (set_at c.arena p.0 ≡ Some w)

  pub equal_in : (x y : List ℕ) → AreEqual c x y → (w : ℕ × Gen) × IsIn x w × IsIn y w
  equal_in x y (p, q, at_x, at_y, (w, (k, stored_p), (l, stored_q))) = (w, (p, at_x, set_stored c.arena p.0 p.1 k w stored_p), (q, at_y, set_stored c.arena q.0 q.1 l w stored_q))

  pub in_one : (x : List ℕ) (v w : ℕ × Gen) → IsIn x v → IsIn x w → v ≡ w
  in_one x v w (p, at, in_v) (q, same, in_w) =
      let is = same_some p q (sym at ∙ same) in
      same_some v w (sym in_v ∙ (ap (λ r. set_at c.arena r.0) is ∙ in_w))

  module _ (agree : Agree c.table c.arena) where
    pub key_in : (x : List ℕ) (p w : ℕ × Gen) → pointer_of c x ≡ Some p → set_at c.arena p.0 ≡ Some w → IsKeyOf c.arena w p
    key_in x p w at in_w =
        let e = entry_of_word c.arena p.0 p.1 x ((agree x p).0 at) in
        let same = same_some e.1 w (sym (set_stored c.arena p.0 p.1 e.0 e.1 e.2) ∙ in_w) in
        (e.0, e.2 ∙ ap (λ u. Some (p.1, (e.0, u))) same)

    pub equal_from : (x y : List ℕ) (w : ℕ × Gen) → IsIn x w → IsIn y w → AreEqual c x y
    equal_from x y w (p, at_x, in_x) (q, at_y, in_y) = (p, q, at_x, at_y, (w, key_in x p w at_x in_x, key_in y q w at_y in_y))

    pub known_in : (x : List ℕ) (p : ℕ × Gen) → pointer_of c x ≡ Some p → (w : ℕ × Gen) × IsIn x w
    known_in x p at =
        let e = entry_of_word c.arena p.0 p.1 x ((agree x p).0 at) in
        (e.1, (p, at, set_stored c.arena p.0 p.1 e.0 e.1 e.2))

    pub equal_sym : (x y : List ℕ) → AreEqual c x y → AreEqual c y x
    equal_sym x y equal = let both = equal_in x y equal in equal_from y x both.0 both.2 both.1

    pub equal_trans : (x y z : List ℕ) → AreEqual c x y → AreEqual c y z → AreEqual c x z
    equal_trans x y z first second =
        let one = equal_in x y first in
        let other = equal_in y z second in
        equal_from x z one.0 one.1 (subst (λ w. IsIn z w) (in_one y other.0 one.0 other.1 one.2) other.2)

    pub equal_self : (x : List ℕ) (p : ℕ × Gen) → pointer_of c x ≡ Some p → AreEqual c x x
    equal_self x p at = let own = known_in x p at in equal_from x x own.0 own.1 own.1

    pub either_equal : (a b x : List ℕ) → AreEqual c a b → IsInEitherClass c a b x → AreEqual c a x
    either_equal a b x equal (inl (inl is)) = subst (λ y. AreEqual c a y) (sym is) (equal_trans a b a equal (equal_sym a b equal))
    either_equal a b x equal (inl (inr of_a)) = of_a
    either_equal a b x equal (inr (inl is)) = subst (λ y. AreEqual c a y) (sym is) equal
    either_equal a b x equal (inr (inr of_b)) = equal_trans a b x equal of_b

module _ {Gen : Type 0} (old new : WordClasses Gen) (pointers : (x : List ℕ) → pointer_of new x ≡ pointer_of old x) (keys : new.arena.keys.entries ≡ old.arena.keys.entries) (agree : Agree old.table old.arena) where
  same_entry : (i : ℕ) → entry_in new.arena.keys i ≡ entry_in old.arena.keys i
  same_entry i = ap (found i) keys

  pub kept_agree : Agree new.table new.arena
  kept_agree x p =
      let words = ap word_in (same_entry p.0) in
      (λ at. words ∙ (agree x p).0 (sym (pointers x) ∙ at), λ at. pointers x ∙ (agree x p).1 (sym words ∙ at))

  pub are_kept : AreKept old new
  are_kept = record {
    pointers = pointers;
    classes = λ x y. (
      λ equal. let both = equal_in new x y equal in equal_from old agree x y both.0 (back x both.0 both.1) (back y both.0 both.2),
      λ equal. let both = equal_in old x y equal in equal_from new kept_agree x y both.0 (on x both.0 both.1) (on y both.0 both.2),
    );
  }
    where
      back : (x : List ℕ) (w : ℕ × Gen) → IsIn new x w → IsIn old x w
      back x w (p, at, in_w) = (p, sym (pointers x) ∙ at, sym (ap set_in (same_entry p.0)) ∙ in_w)

      on : (x : List ℕ) (w : ℕ × Gen) → IsIn old x w → IsIn new x w
      on x w (p, at, in_w) = (p, pointers x ∙ at, ap set_in (same_entry p.0) ∙ in_w)
