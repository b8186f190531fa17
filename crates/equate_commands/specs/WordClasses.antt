-- Words in classes, by the sets of their pointers.
use Rattle.std.specs.Prelude.{◌≡◌, ◌≢◌, ◌↔◌, ◌⊎◌, ℕ, List, map, Bool, IsTrue, IsSome, Option, None, Some, String, string_bytes}
use Rattle.std.specs.Global.{Global}
use Rattle.std.specs.HashMap.{HashMap}
use Rattle.std.specs.Map.{lookup}
use Rattle.std.specs.Option.{option_map}
use Rattle.std.specs.Str.{bytes_eq}
use Rattle.surject_arena.specs.Surjections.{Surjection, key_at, IsKeyOf, AreInOneSet}
use Rattle.surject_arena.specs.KeySets.{ArePointersOf}

-- The pointer of each known word, and the arena, whose keys are words.
pub record WordClasses (Gen : Type 0) : Type 0 where
  pub table : List (List ℕ × (ℕ × Gen))
  pub arena : Surjection Gen (String Global) Unit

abbrev pub table_of : {P Gen S : Type 0} → (P → ℕ × Gen) → HashMap (String Global) P S → List (List ℕ × (ℕ × Gen))
table_of key map_of_words = map (λ e. (string_bytes e.0, key e.1)) map_of_words.entries

module _ {Gen : Type 0} where
  abbrev pub word_at : Surjection Gen (String Global) Unit → ℕ → Option (Gen × List ℕ)
  word_at arena i = option_map (λ e. (e.0, string_bytes e.1)) (key_at arena i)

  abbrev pub pointer_in : List (List ℕ × (ℕ × Gen)) → List ℕ → Option (ℕ × Gen)
  pointer_in table word = lookup (bytes_eq word) table

  -- A word has the pointer p exactly if it is the key of p.
  abbrev pub Agree : List (List ℕ × (ℕ × Gen)) → Surjection Gen (String Global) Unit → Type 0
  Agree table arena = (word : List ℕ) (p : ℕ × Gen) → (pointer_in table word ≡ Some p) ↔ (word_at arena p.0 ≡ Some (p.1, word))

  module _ (c : WordClasses Gen) where
    abbrev pub pointer_of : List ℕ → Option (ℕ × Gen)
    pointer_of word = pointer_in c.table word

    abbrev pub IsKnown : List ℕ → Type 0
    IsKnown a = IsSome (pointer_of a)

    -- Both words are known, with pointers in one set.
    abbrev pub AreEqual : List ℕ → List ℕ → Type 0
    AreEqual a b = (p : ℕ × Gen) × (q : ℕ × Gen) × (pointer_of a ≡ Some p) × (pointer_of b ≡ Some q) × AreInOneSet c.arena p q

    -- x is a or equal to it.
    abbrev pub IsInClassOf : List ℕ → List ℕ → Type 0
    IsInClassOf a x = (x ≡ a) ⊎ AreEqual a x

    -- The pointers of the class of a, each once.
    pub record ListsClass (a : List ℕ) (pointers : List (ℕ × Gen)) : Type 0 where
      pub p : ℕ × Gen
      pub set : ℕ × Gen
      pub own : pointer_of a ≡ Some p
      pub inside : IsKeyOf c.arena set p
      pub all : ArePointersOf c.arena set pointers

    abbrev pub IsInEitherClass : List ℕ → List ℕ → List ℕ → Type 0
    IsInEitherClass a b x = IsInClassOf a x ⊎ IsInClassOf b x

  module _ (old new : WordClasses Gen) where
    -- Words keep their pointers and classes.
    pub record AreKept : Type 0 where
      pub pointers : (x : List ℕ) → pointer_of new x ≡ pointer_of old x
      pub classes : (x y : List ℕ) → AreEqual new x y ↔ AreEqual old x y

    -- Words keep their pointers, except that a and b may become known.
    abbrev pub KeepsPointers : List ℕ → List ℕ → Type 0
    KeepsPointers a b = (x : List ℕ) → IsKnown old x ⊎ ((x ≢ a) × (x ≢ b)) → pointer_of new x ≡ pointer_of old x

    -- Known words are equal to the same known words.
    abbrev pub KeepsClasses : Type 0
    KeepsClasses = (x y : List ℕ) → IsKnown old x → IsKnown old y → AreEqual new x y ↔ AreEqual old x y

    -- The classes of a and b become one; others stay.
    abbrev pub JoinsClasses : List ℕ → List ℕ → Type 0
    JoinsClasses a b = (x y : List ℕ) → AreEqual new x y ↔ (AreEqual old x y ⊎ (IsInEitherClass old a b x × IsInEitherClass old a b y))

    -- a has the pointer p, and a class of its own if it was not known.
    pub record IsInterned (a : List ℕ) (p : ℕ × Gen) : Type 0 where
      pub here : pointer_of new a ≡ Some p
      pub pointers : KeepsPointers a a
      pub classes : (x y : List ℕ) → AreEqual new x y ↔ (AreEqual old x y ⊎ ((x ≡ a) × (y ≡ a)))
      pub kept : KeepsClasses

    -- The classes of a and b become one, if they were two.
    pub record AreUnited (a b : List ℕ) (united : Bool) : Type 0 where
      pub pointers : (x : List ℕ) → pointer_of new x ≡ pointer_of old x
      pub classes : JoinsClasses a b
      pub two : IsTrue united ↔ (AreEqual old a b → ⊥)

    -- a is not known; others keep their pointers and classes.
    pub record IsDropped (a : List ℕ) : Type 0 where
      pub unknown : pointer_of new a ≡ None
      pub pointers : (x : List ℕ) → x ≢ a → pointer_of new x ≡ pointer_of old x
      pub classes : (x y : List ℕ) → AreEqual new x y ↔ (AreEqual old x y × (x ≢ a) × (y ≢ a))
