-- Copies with equal values.
use Rattle.std.proofs.Common.{◌≡◌, ◌↔◌, ℕ, ◌<◌, ◌≤◌, List, [], ◌∷◌, ◌++◌, length, map, Option, option_map, Some, Result, Err, IsOk, ◌⊎◌, inl, inr, arith, refl, ap, sym, ◌∙◌, subst}
use Rattle.std.specs.Prelude.{is_ok}
use Rattle.std.proofs.lemmas.Bool.{false≢true}
use Rattle.std.specs.List.{FoldsTo}
use Rattle.arena_core.specs.SlotStack.{IsBeyond}
use Rattle.arena_core.specs.declared.errors.ReallocationError.{ReallocationError}
use Rattle.arena_core.specs.declared.errors.ReallocationError.TheVariants as refused
use Rattle.arena_traits.specs.Arena.{Arena, HasCapacityFor, IsCapacityFor, new_arena}
use Rattle.arena_traits.specs.CallOutcomes.{IsCopied, RefusesCopy}
use Rattle.arena_traits.specs.Entries.{Slots, entries_from, entries, view_of}
use Rattle.arena_base.specs.Copies.{Copied, Makes, CopiesBy, HasRefusable, HasSlotsOf, with_slots_of}
use Rattle.arena_base.proofs.SlotCopyLemmas.{copy_viewed}

module _ {F P T Gen : Type 0} (is_clone : T → T → Type 0) (equal : (x y : T) → is_clone x y → y ≡ x) (key : P → ℕ × Gen) where
  abbrev pub Clones : F → P → T → T → F → Type 0
  Clones f p u t next = is_clone u t

  made_equal : (made : List (Copied P T T)) (f last : F) → FoldsTo (Makes Clones) f made last → map {B = (ℕ × Gen) × T} (λ c. (key c.pointer, c.returned)) made ≡ map (λ c. (key c.pointer, c.value)) made
  made_equal [] f last folds = refl
  made_equal (c ∷ made) f last folds = λ i. (key c.pointer, equal c.value c.returned folds.1 i) ∷ made_equal made folds.0 last folds.2 i

  pub clone_viewed : (greatest : ℕ) (maximum : Option ℕ) (f last : F) (first : Gen) (source old new : Arena Gen T) → old ≡ new_arena first maximum → HasCapacityFor greatest (length source.slots) new
      → HasSlotsOf source old new → CopiesBy Clones key f (entries source) (entries new) last → IsCopied greatest maximum (view_of source) (view_of new)
  clone_viewed greatest maximum f last first source old new begins fits has made =
      let copy = copy_viewed Clones key f last source old new has made in
      let most : new.maximum ≡ maximum = copy.maximum ∙ ap (λ (a : Arena Gen T). a.maximum) begins in
      record {
        entries = sym made.after ∙ (made_equal made.made f last made.in_turn ∙ made.before);
        counter = copy.counter;
        slots = copy.slots ∙ ap (λ (a : Arena Gen T). option_map (with_slots_of source) (view_of a).slots) begins;
        maximum = most;
        capacity = subst (λ m. IsCapacityFor greatest m (length source.slots) new.capacity) most fits.0;
      }

pub refused_with_slots : {P U Gen N : Type 0} (may_refuse : P → U → Type 0) (key : P → ℕ × Gen) (slots : List (Option (Gen × U))) (capacity : ℕ) (r : Result (Unit {0}) ReallocationError) (e : ReallocationError) → r ≡ Err e
    → (length slots ≤ capacity → (IsOk r ⊎ HasRefusable may_refuse key (entries_from 1 slots)) × N) → 0 < length slots
refused_with_slots may_refuse key [] capacity r e is within = absurd (by (within (omega arith)).0)
  where
    none_among : {X : Type 0} (before after : List X) (x : X) → [] ≡ before ++ x ∷ after → ⊥
    none_among [] after x same = cc
    none_among (y ∷ before) after x same = cc

    by : (IsOk r ⊎ HasRefusable may_refuse key []) → ⊥
    by (inl ok) = false≢true (sym (ap is_ok is) ∙ ok)
    by (inr refused) = none_among refused.before refused.after (key refused.pointer, refused.value) refused.stored
refused_with_slots may_refuse key (s ∷ slots) capacity r e is within = omega arith

pub refuses_copy : (maximum : Option ℕ) (n : ℕ) (r : Result (Unit {0}) ReallocationError) (why : ReallocationError) → r ≡ Err why → 0 < n
    → (r ≡ Err refused.BeyondMaxCapacity) ↔ IsBeyond maximum n → RefusesCopy maximum n why
refuses_copy maximum n r refused.BeyondMaxCapacity is some known = known.0 is
refuses_copy maximum n r refused.AllocError is some known = (some, λ over. let h = sym is ∙ known.1 over in absurd (cc))
