-- Copying slots one by one.
use Rattle.std.proofs.Common.{◌≡◌, ℕ, zero, suc, ◌+◌, ◌≤◌, List, [], ◌∷◌, ◌++◌, map, length, length-append, drop, Option, None, Some, Result, Ok, Err, OnOk, OnErr, ◌⊎◌, inl, inr, refl, ap, sym, ◌∙◌, subst, append_assoc, arith}
use Rattle.std.specs.Prelude.{slice_get, min}
use Rattle.std.specs.List.{FoldsTo}
use Rattle.std.proofs.lemmas.List.{append-nil, map-append, length-map, drop_all}
use Rattle.std.proofs.lemmas.Fn.{FoldsTo-push}
use Rattle.arena_core.specs.declared.packed_option.PackedOption.{PackedOption}
use Rattle.arena_traits.specs.Arena.{Arena, IsCapacityFor, with_capacity_of}
use Rattle.arena_traits.specs.Entries.{ArenaView, entries_from, entries, view_of}
use Rattle.arena_base.specs.Slots.{entry_of, allocated_slot, free_slot, without_value, without_values, freed_of, arena_of, IsSound}
use Rattle.arena_base.specs.Copies.{Copied, Makes, CopiesBy, HasRefusable, IsCopyBy, HasSlotsOf, IsAbandonedCopy, IsAbandonedView, generations}
use Rattle.arena_base.specs.declared.slot.ArenaSlot.{ArenaSlot}
use Rattle.arena_base.proofs.FoldLemmas.{folds_viewed}
use Rattle.arena_base.proofs.SlotLemmas.{map-push}
use Rattle.arena_base.proofs.SoundnessLemmas.{walked_all}
use Rattle.arena_base.proofs.SlotShapeLemmas.{same_generations, sound_too}

drop-slot : {X : Type 0} (xs : List X) (k : ℕ) (x : X) → slice_get xs k ≡ Some x → drop k xs ≡ x ∷ drop (suc k) xs
drop-slot [] k x is = cc
drop-slot (y ∷ xs) zero x is = let same : y ≡ x = cc in ap (λ z. z ∷ xs) same
drop-slot (y ∷ xs) (suc k) x is = drop-slot xs k x is

entries_from-push : {Gen T : Type 0} (slots : List (Option (Gen × T))) (i j : ℕ) (slot : Option (Gen × T)) → i + length slots ≡ j → entries_from i (slots ++ slot ∷ []) ≡ entries_from i slots ++ entries_from j (slot ∷ [])
entries_from-push [] i j slot at = let same : i ≡ j = omega (arith, at) in ap (λ n. entries_from n (slot ∷ [])) same
entries_from-push (None ∷ slots) i j slot at = entries_from-push slots (suc i) j slot (omega (arith, at))
entries_from-push (Some e ∷ slots) i j slot at = ap (λ es. ((i, e.0), e.1) ∷ es) (entries_from-push slots (suc i) j slot (omega (arith, at)))

abbrev pub before_call : {P U T Gen : Type 0} → (P → ℕ × Gen) → Copied P U T → (ℕ × Gen) × U
before_call key c = (key c.pointer, c.value)

abbrev pub after_call : {P U T Gen : Type 0} → (P → ℕ × Gen) → Copied P U T → (ℕ × Gen) × T
after_call key c = (key c.pointer, c.returned)

-- The slots up to `k` are copied.
pub record IsCopying {F P U T Inx Gen Word : Type 0} (makes : F → P → U → T → F → Type 0) (key : P → ℕ × Gen) (first : F) (old : List (ArenaSlot P U Inx Gen Word)) (k : ℕ) (f : F) (slots : List (ArenaSlot P T Inx Gen Word)) : Type 0 where
  pub calls : List (Copied P U T)
  pub in_turn : FoldsTo (Makes makes) first calls f
  pub before : map (before_call key) calls ++ entries_from (suc k) (map entry_of (drop k old)) ≡ entries_from 1 (map entry_of old)
  pub after : map (after_call key) calls ≡ entries_from 1 (map entry_of slots)
  pub alike : without_values slots ++ without_values (drop k old) ≡ without_values old
  pub copied : length slots ≡ k

module _ {F P U T Inx Gen Word : Type 0} (makes : F → P → U → T → F → Type 0) (key : P → ℕ × Gen) (first : F) (old : List (ArenaSlot P U Inx Gen Word)) where
  pub copying_begins : (slots : List (ArenaSlot P T Inx Gen Word)) → slots ≡ [] → IsCopying makes key first old 0 first slots
  copying_begins slots empty = subst (IsCopying makes key first old 0 first) (sym empty) (record { calls = []; in_turn = refl; before = refl; after = refl; alike = refl; copied = refl })

  module _ (k : ℕ) (f : F) (slots : List (ArenaSlot P T Inx Gen Word)) (c : IsCopying makes key first old k f slots) where
    abbrev later : List (ArenaSlot P U Inx Gen Word)
    later = drop (suc k) old

    alike_pushed : (slot : ArenaSlot P U Inx Gen Word) (copy : ArenaSlot P T Inx Gen Word) → slice_get old k ≡ Some slot → without_value copy ≡ without_value slot
        → without_values (slots ++ copy ∷ []) ++ without_values later ≡ without_values old
    alike_pushed slot copy is same =
        ap (λ s. s ++ without_values later) (map-append without_value slots (copy ∷ []))
        ∙ (append_assoc (without_values slots) (without_value copy ∷ []) (without_values later)
        ∙ (ap (λ s. without_values slots ++ s ∷ without_values later) same
        ∙ (ap (λ s. without_values slots ++ without_values s) (sym (drop-slot old k slot is)) ∙ c.alike)))

    length_pushed : (copy : ArenaSlot P T Inx Gen Word) → length (slots ++ copy ∷ []) ≡ suc k
    length_pushed copy = omega (arith, length-append slots (copy ∷ []), c.copied)

    entries_pushed : (copy : ArenaSlot P T Inx Gen Word) → entries_from 1 (map entry_of (slots ++ copy ∷ [])) ≡ entries_from 1 (map entry_of slots) ++ entries_from (suc k) (entry_of copy ∷ [])
    entries_pushed copy =
        ap (entries_from 1) (map-push slots copy)
        ∙ entries_from-push (map entry_of slots) 1 (suc k) (entry_of copy) (omega (arith, length-map slots entry_of, c.copied))

    pub copying_frees : (next : PackedOption Inx Word) (after : List (ArenaSlot P T Inx Gen Word)) → slice_get old k ≡ Some (free_slot next) → after ≡ slots ++ free_slot next ∷ [] → IsCopying makes key first old (k + 1) f after
    copying_frees next after is pushed =
        let number : suc k ≡ k + 1 = omega arith in
        let copy : ArenaSlot P T Inx Gen Word = free_slot next in
        subst (λ s. IsCopying makes key first old (k + 1) f s) (sym pushed)
        (subst (λ n. IsCopying makes key first old n f (slots ++ copy ∷ [])) number (record {
          calls = c.calls;
          in_turn = c.in_turn;
          before = ap (λ s. map (before_call key) c.calls ++ entries_from (suc k) (map entry_of s)) (sym (drop-slot old k (free_slot next) is)) ∙ c.before;
          after = c.after ∙ (sym (append-nil (entries_from 1 (map entry_of slots))) ∙ sym (entries_pushed copy));
          alike = alike_pushed (free_slot next) copy is refl;
          copied = length_pushed copy;
        }))

    pub copying_returns : (generation : Gen) (u : U) (call : Copied P U T) (next : F) (after : List (ArenaSlot P T Inx Gen Word)) → slice_get old k ≡ Some (allocated_slot generation u)
        → call.value ≡ u → key call.pointer ≡ (k + 1, generation) → Makes makes f call next → after ≡ slots ++ allocated_slot generation call.returned ∷ []
        → IsCopying makes key first old (k + 1) next after
    copying_returns generation u call next after is lent pointer called pushed =
        let number : suc k ≡ k + 1 = omega arith in
        let copy : ArenaSlot P T Inx Gen Word = allocated_slot generation call.returned in
        let made_before : before_call key call ≡ ((suc k, generation), u) = λ i. ((pointer ∙ ap (λ n. (n, generation)) (sym number)) i, lent i) in
        let responded : after_call key call ≡ ((suc k, generation), call.returned) = λ i. ((pointer ∙ ap (λ n. (n, generation)) (sym number)) i, call.returned) in
        subst (λ s. IsCopying makes key first old (k + 1) next s) (sym pushed)
        (subst (λ n. IsCopying makes key first old n next (slots ++ copy ∷ [])) number (record {
          calls = c.calls ++ call ∷ [];
          in_turn = FoldsTo-push (Makes makes) first c.calls f call next c.in_turn called;
          before = ap (λ es. es ++ entries_from (suc (suc k)) (map entry_of later)) (map-append (before_call key) c.calls (call ∷ []))
              ∙ (append_assoc (map (before_call key) c.calls) (before_call key call ∷ []) (entries_from (suc (suc k)) (map entry_of later))
              ∙ (ap (λ e. map (before_call key) c.calls ++ e ∷ entries_from (suc (suc k)) (map entry_of later)) made_before
              ∙ (ap (λ s. map (before_call key) c.calls ++ entries_from (suc k) (map entry_of s)) (sym (drop-slot old k (allocated_slot generation u) is)) ∙ c.before)));
          after = map-append (after_call key) c.calls (call ∷ [])
              ∙ (ap (λ es. es ++ after_call key call ∷ []) c.after
              ∙ (ap (λ e. entries_from 1 (map entry_of slots) ++ e ∷ []) responded ∙ sym (entries_pushed copy)));
          alike = alike_pushed (allocated_slot generation u) copy is refl;
          copied = length_pushed copy;
        }))

    pub copying_refused : (generation : Gen) (u : U) (p : P) (may_refuse : P → U → Type 0) → slice_get old k ≡ Some (allocated_slot generation u) → key p ≡ (k + 1, generation) → may_refuse p u
        → HasRefusable may_refuse key (entries_from 1 (map entry_of old))
    copying_refused generation u p may_refuse is pointer refused = record {
      pointer = p;
      value = u;
      before = map (before_call key) c.calls;
      after = entries_from (suc (suc k)) (map entry_of later);
      stored = sym c.before
          ∙ (ap (λ s. map (before_call key) c.calls ++ entries_from (suc k) (map entry_of s)) (drop-slot old k (allocated_slot generation u) is)
          ∙ ap (λ e. map (before_call key) c.calls ++ (e, u) ∷ entries_from (suc (suc k)) (map entry_of later)) (let number : suc k ≡ k + 1 = omega arith in ap (λ n. (n, generation)) number ∙ sym pointer));
      refusable = refused;
    }

    module _ (all : k ≡ length old) where
      nothing_left : drop k old ≡ []
      nothing_left = drop_all k old (omega (arith, all))

      pub copied_alike : without_values slots ≡ without_values old
      copied_alike = sym (append-nil (without_values slots)) ∙ (ap (λ s. without_values slots ++ without_values s) (sym nothing_left) ∙ c.alike)

      pub copied_all : CopiesBy makes key first (entries_from 1 (map entry_of old)) (entries_from 1 (map entry_of slots)) f
      copied_all = record {
        made = c.calls;
        in_turn = c.in_turn;
        before = sym (append-nil (map (before_call key) c.calls)) ∙ (ap (λ s. map (before_call key) c.calls ++ entries_from (suc k) (map entry_of s)) (sym nothing_left) ∙ c.before);
        after = c.after;
      }

module _ {P T U Inx Gen Word : Type 0} (number : PackedOption Inx Word → Option ℕ) (a : List (ArenaSlot P U Inx Gen Word)) (b : List (ArenaSlot P T Inx Gen Word)) (alike : without_values b ≡ without_values a) (greatest len : ℕ) (head : PackedOption Inx Word) where
  pub has_slots_of : IsSound number a greatest len head (freed_of number a head)
      → (source : Arena Gen U) (old mid : Arena Gen T) (counter before : Gen) (ns : List ℕ) (slots : List (ArenaSlot P T Inx Gen Word)) (new_capacity capacity has : ℕ) (limit maximum most : Option ℕ) (p t placed touched n : ℕ) → has ≡ capacity → most ≡ maximum
      → arena_of a (freed_of number a head) counter greatest new_capacity limit p t ≡ source → arena_of slots ns before greatest capacity maximum placed touched ≡ mid
      → mid ≡ with_capacity_of old mid → n ≡ length a → (n ≤ old.capacity → mid ≡ old)
      → HasSlotsOf source old (arena_of b (freed_of number b head) counter greatest has most placed touched)
  has_slots_of sound source old mid counter before ns slots new_capacity capacity has limit maximum most p t placed touched n same_capacity same_maximum is_source is_mid after count within =
      let same = is_mid ∙ after in
      record {
        state = λ i. record {
          slots = map entry_of b;
          counter = (ap (λ (s : Arena Gen U). s.counter) is_source) i;
          freed = (walked_all number (sound_too number alike sound) ∙ ap (λ (s : Arena Gen U). s.freed) is_source) i;
          capacity = min has greatest;
          stack_capacity = has;
          maximum = (same_maximum ∙ ap (λ (s : Arena Gen T). s.maximum) same) i;
          placed = (ap (λ (s : Arena Gen T). s.placed) same) i;
          touched = (ap (λ (s : Arena Gen T). s.touched) same) i;
        };
        generations = same_generations a b alike ∙ ap (λ (s : Arena Gen U). generations s.slots) is_source;
        within_capacity = λ few. same_capacity ∙ (ap (λ (s : Arena Gen T). s.stack_capacity) is_mid ∙ ap (λ (s : Arena Gen T). s.stack_capacity) (within (omega (arith, few, count, length-map a entry_of, ap (λ (s : Arena Gen U). length s.slots) is_source))));
      }

pub copy_abandoned : {P T Inx Gen Word : Type 0} (number : PackedOption Inx Word → Option ℕ) (items slots : List (ArenaSlot P T Inx Gen Word)) (head : PackedOption Inx Word) (ns : List ℕ) (counter : Gen) (greatest new_capacity capacity : ℕ) (most maximum : Option ℕ) (placed touched : ℕ) (old mid : Arena Gen T)
    → items ≡ [] → new_capacity ≡ capacity → most ≡ maximum → arena_of slots ns counter greatest capacity maximum placed touched ≡ mid → mid ≡ with_capacity_of old mid
    → IsAbandonedCopy old (arena_of items (freed_of number items head) counter greatest new_capacity most placed touched)
copy_abandoned {T = T} {Gen = Gen} number items slots head ns counter greatest new_capacity capacity most maximum placed touched old mid empty equal_capacity same_most is_mid after =
    let same = is_mid ∙ after in
    rw empty (λ i. record {
      slots = [];
      counter = (ap (λ (s : Arena Gen T). s.counter) same) i;
      freed = [];
      capacity = min new_capacity greatest;
      stack_capacity = new_capacity;
      maximum = (same_most ∙ ap (λ (s : Arena Gen T). s.maximum) same) i;
      placed = (ap (λ (s : Arena Gen T). s.placed) same) i;
      touched = (ap (λ (s : Arena Gen T). s.touched) same) i;
    })

pub equal_capacity : {greatest n m capacity new_capacity : ℕ} {maximum most : Option ℕ} → n ≡ m → new_capacity ≡ capacity → most ≡ maximum → IsCapacityFor greatest maximum n capacity → IsCapacityFor greatest most m new_capacity
equal_capacity count same_capacity same_maximum r = rw (← count, same_capacity, same_maximum) r

pub copy_viewed : {F P T U Gen : Type 0} (makes : F → P → U → T → F → Type 0) (key : P → ℕ × Gen) (f last : F) (source : Arena Gen U) (old new : Arena Gen T)
    → HasSlotsOf source old new → CopiesBy makes key f (entries source) (entries new) last → IsCopyBy makes key f source (view_of old) (view_of new) last
copy_viewed {T = T} {Gen = Gen} makes key f last source old new has made =
    let counted : length new.slots ≡ length source.slots = sym (length-map new.slots _) ∙ (ap length has.generations ∙ length-map source.slots _) in
    record {
      entries = made;
      counter = ap (λ (s : Arena Gen T). Some s.counter) has.state;
      slots = λ i. Some (record {
        count = counted i;
        freed = (ap (λ (s : Arena Gen T). s.freed) has.state) i;
        placed = (ap (λ (s : Arena Gen T). s.placed) has.state) i;
        touched = (ap (λ (s : Arena Gen T). s.touched) has.state) i;
      });
      maximum = ap (λ (s : Arena Gen T). s.maximum) has.state;
    }

module _ {V F P U T : Type 0} (makes : V → P → U → T → V → Type 0) (others : F → P → U → T → F → Type 0) (see : V → F)
    (step : (v : V) (p : P) (u : U) (t : T) (w : V) → makes v p u t w → others (see v) p u t (see w)) where
  pub made_by : {Gen : Type 0} (key : P → ℕ × Gen) (f last : V) (source : List ((ℕ × Gen) × U)) (copy : List ((ℕ × Gen) × T))
      → CopiesBy makes key f source copy last → CopiesBy others key (see f) source copy (see last)
  made_by key f last source copy c = record {
    made = c.made;
    in_turn = folds_viewed see (Makes makes) (Makes others) (λ s m t. step s m.pointer m.value m.returned t) c.made f last c.in_turn;
    before = c.before;
    after = c.after;
  }

  pub copy_by : {Gen : Type 0} (key : P → ℕ × Gen) (f last : V) (source : Arena Gen U) (old new : ArenaView Gen T)
      → IsCopyBy makes key f source old new last → IsCopyBy others key (see f) source old new (see last)
  copy_by key f last source old new copy = record {
    entries = made_by key f last (entries source) new.entries copy.entries;
    counter = copy.counter;
    slots = copy.slots;
    maximum = copy.maximum;
  }

pub on_ok_both : {X E A B C : Type 0} (r : Result X E) → (A → B → C) → OnOk r A → OnOk r B → OnOk r C
on_ok_both (Ok x) both a b = both a b
on_ok_both (Err e) both a b = tt

pub on_ok : {X E A B : Type 0} (r : Result X E) → (A → B) → OnOk r A → OnOk r B
on_ok (Ok x) f a = f a
on_ok (Err e) f a = tt

pub on_err : {X E A B : Type 0} (r : Result X E) → (A → B) → OnErr r A → OnErr r B
on_err (Ok x) f a = tt
on_err (Err e) f a = f a

pub on_err_either : {X E A B C D : Type 0} (r : Result X E) → (A → C) → (B → D) → OnErr r (A ⊎ B) → OnErr r (C ⊎ D)
on_err_either (Ok x) first second d = tt
on_err_either (Err e) first second (inl a) = inl (first a)
on_err_either (Err e) first second (inr b) = inr (second b)

pub on_err_by : {X E A B C : Type 0} (r : Result X E) → (A → C) → (B → C) → OnErr r (A ⊎ B) → OnErr r C
on_err_by (Ok x) first second d = tt
on_err_by (Err e) first second (inl a) = first a
on_err_by (Err e) first second (inr b) = second b

pub either_as : {A B C N : Type 0} → (B → C) → (A ⊎ B) × N → (A ⊎ C) × N
either_as other (inl a, n) = (inl a, n)
either_as other (inr b, n) = (inr (other b), n)

pub surely : {A B N : Type 0} → (B → ⊥) → (A ⊎ B) × N → A × N
surely never (inl a, n) = (a, n)
surely never (inr b, n) = absurd (never b)

pub copy_abandoned_viewed : {Gen T : Type 0} (old new : Arena Gen T) → IsAbandonedCopy old new → IsAbandonedView (view_of old) (view_of new)
copy_abandoned_viewed old new is = ap view_of is

pub on_ok_is : {X E A : Type 0} (r : Result X E) (x : X) → r ≡ Ok x → OnOk r A → A
on_ok_is {A = A} r x is holds = subst (λ q. OnOk q A) is holds

pub on_err_is : {X E A : Type 0} (r : Result X E) (e : E) → r ≡ Err e → OnErr r A → A
on_err_is {A = A} r e is holds = subst (λ q. OnErr q A) is holds
