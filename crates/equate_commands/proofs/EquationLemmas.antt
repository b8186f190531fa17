-- Two words are interned, and their classes united.
use Rattle.std.proofs.Common.{◌≡◌, ◌≢◌, ◌⊎◌, inl, inr, ℕ, List, Bool, IsTrue, is_some, refl, sym, ap, ◌∙◌}
use Rattle.std.specs.Prelude.{◌↔◌}
use Rattle.equate_commands.specs.WordClasses.{WordClasses, pointer_of, AreEqual, IsKnown, IsInterned, AreUnited, AreKept, JoinsClasses, KeepsPointers, KeepsClasses, IsInClassOf, IsInEitherClass}

module _ {Gen : Type 0} (old one two : WordClasses Gen) (a b : List ℕ) (p q : ℕ × Gen) (first : IsInterned old one a p) where
  pub kept_after_first : AreKept one two → KeepsClasses old two × KeepsPointers old two a a
  kept_after_first are = (
    λ x y known_x known_y. (λ equal. (first.kept x y known_x known_y).0 ((are.classes x y).0 equal), λ equal. (are.classes x y).1 ((first.kept x y known_x known_y).1 equal)),
    λ x known. are.pointers x ∙ first.pointers x known,
  )

  before : (x : List ℕ) → IsKnown old x ⊎ ((x ≢ a) × (x ≢ b)) → IsKnown old x ⊎ ((x ≢ a) × (x ≢ a))
  before x (inl was) = inl was
  before x (inr others) = inr (others.0, others.0)

  pub pointers_after_first : AreKept one two → KeepsPointers old two a b
  pointers_after_first are x known = are.pointers x ∙ first.pointers x (before x known)

  module _ (second : IsInterned one two b q) where
    between : (x : List ℕ) → pointer_of one x ≡ pointer_of old x → IsKnown old x ⊎ ((x ≢ a) × (x ≢ b)) → IsKnown one x ⊎ ((x ≢ b) × (x ≢ b))
    between x same (inl was) = inl (ap is_some same ∙ was)
    between x same (inr others) = inr (others.1, others.1)

    pub first_here : pointer_of two a ≡ pointer_of one a
    first_here = second.pointers a (inl (ap is_some first.here))

    down : (x y : List ℕ) → AreEqual two x y → AreEqual old x y ⊎ (((x ≡ a) × (y ≡ a)) ⊎ ((x ≡ b) × (y ≡ b)))
    down x y equal = from_two ((second.classes x y).0 equal)
      where
        from_one : AreEqual old x y ⊎ ((x ≡ a) × (y ≡ a)) → AreEqual old x y ⊎ (((x ≡ a) × (y ≡ a)) ⊎ ((x ≡ b) × (y ≡ b)))
        from_one (inl was) = inl was
        from_one (inr both) = inr (inl both)

        from_two : AreEqual one x y ⊎ ((x ≡ b) × (y ≡ b)) → AreEqual old x y ⊎ (((x ≡ a) × (y ≡ a)) ⊎ ((x ≡ b) × (y ≡ b)))
        from_two (inl was) = from_one ((first.classes x y).0 was)
        from_two (inr both) = inr (inr both)

    up : (x y : List ℕ) → AreEqual old x y → AreEqual two x y
    up x y equal = (second.classes x y).1 (inl ((first.classes x y).1 (inl equal)))

    same_class : AreEqual two a b ↔ IsInClassOf old a b
    same_class = (λ equal. to_old (down a b equal), to_two)
      where
        to_old : AreEqual old a b ⊎ (((a ≡ a) × (b ≡ a)) ⊎ ((a ≡ b) × (b ≡ b))) → IsInClassOf old a b
        to_old (inl was) = inr was
        to_old (inr (inl both)) = inl both.1
        to_old (inr (inr both)) = inl (sym both.0)

        to_two : IsInClassOf old a b → AreEqual two a b
        to_two (inl is) = (second.classes a b).1 (inl ((first.classes a b).1 (inr (refl, is))))
        to_two (inr equal) = up a b equal

    either_down : (x : List ℕ) → IsInEitherClass two a b x → IsInEitherClass old a b x
    either_down x (inl (inl is)) = inl (inl is)
    either_down x (inr (inl is)) = inr (inl is)
    either_down x (inl (inr equal)) = of_a (down a x equal)
      where
        of_a : AreEqual old a x ⊎ (((a ≡ a) × (x ≡ a)) ⊎ ((a ≡ b) × (x ≡ b))) → IsInEitherClass old a b x
        of_a (inl was) = inl (inr was)
        of_a (inr (inl both)) = inl (inl both.1)
        of_a (inr (inr both)) = inr (inl both.1)
    either_down x (inr (inr equal)) = of_b (down b x equal)
      where
        of_b : AreEqual old b x ⊎ (((b ≡ a) × (x ≡ a)) ⊎ ((b ≡ b) × (x ≡ b))) → IsInEitherClass old a b x
        of_b (inl was) = inr (inr was)
        of_b (inr (inl both)) = inl (inl both.1)
        of_b (inr (inr both)) = inr (inl both.1)

    either_up : (x : List ℕ) → IsInEitherClass old a b x → IsInEitherClass two a b x
    either_up x (inl (inl is)) = inl (inl is)
    either_up x (inl (inr equal)) = inl (inr (up a x equal))
    either_up x (inr (inl is)) = inr (inl is)
    either_up x (inr (inr equal)) = inr (inr (up b x equal))

    module _ (new : WordClasses Gen) (united : Bool) (are : AreUnited two new a b united) where
      pub equate_keeps : KeepsPointers old new a b
      equate_keeps x known =
          let same = first.pointers x (before x known) in
          are.pointers x ∙ (second.pointers x (between x same known) ∙ same)

      pub equate_joins : JoinsClasses old new a b
      equate_joins x y = (λ equal. to_old ((are.classes x y).0 equal), λ either. (are.classes x y).1 (to_two either))
        where
          of_down : AreEqual old x y ⊎ (((x ≡ a) × (y ≡ a)) ⊎ ((x ≡ b) × (y ≡ b))) → AreEqual old x y ⊎ (IsInEitherClass old a b x × IsInEitherClass old a b y)
          of_down (inl was) = inl was
          of_down (inr (inl both)) = inr (inl (inl both.0), inl (inl both.1))
          of_down (inr (inr both)) = inr (inr (inl both.0), inr (inl both.1))

          to_old : AreEqual two x y ⊎ (IsInEitherClass two a b x × IsInEitherClass two a b y) → AreEqual old x y ⊎ (IsInEitherClass old a b x × IsInEitherClass old a b y)
          to_old (inl equal) = of_down (down x y equal)
          to_old (inr either) = inr (either_down x either.0, either_down y either.1)

          to_two : AreEqual old x y ⊎ (IsInEitherClass old a b x × IsInEitherClass old a b y) → AreEqual two x y ⊎ (IsInEitherClass two a b x × IsInEitherClass two a b y)
          to_two (inl equal) = inl (up x y equal)
          to_two (inr either) = inr (either_up x either.0, either_up y either.1)

      pub equate_two : IsTrue united ↔ (IsInClassOf old a b → ⊥)
      equate_two = (λ yes. λ inside. are.two.0 yes (same_class.1 inside), λ not. are.two.1 (λ equal. not (same_class.0 equal)))
