-- Soundness of slots after each step.
use Rattle.std.proofs.Common.{◌≡◌, ℕ, zero, suc, ◌+◌, ◌<◌, ◌≤◌, List, [], ◌∷◌, ◌++◌, length, length-append, Option, None, Some, refl, ap, sym, ◌∙◌, subst, arith, inl, inr, ◌⊎◌}
use Rattle.std.specs.Prelude.{slice_get, slice_set}
use Rattle.std.proofs.lemmas.List.{length-set}
use Rattle.std.proofs.lemmas.Bool.{cases_eq}
use Rattle.arena_core.specs.declared.packed_option.PackedOption.{PackedOption}
use Rattle.arena_traits.specs.Arena.{IsMember, first_or_next, without_first}
use Rattle.arena_base.specs.Slots.{item_at, with_value_in, next_free, allocated_slot, free_slot, freed_from, freed_of, IsFreeList, IsSound}
use Rattle.arena_base.specs.declared.slot.ArenaSlot.{ArenaSlot}
use Rattle.arena_base.specs.declared.slot.ArenaSlot.TheVariants.{Allocated, Free}
use Rattle.arena_base.proofs.SlotLemmas.{slice_get-set-same, slice_set-itself, item_at-set-other, item_at-push, at_position, taken_count-set, taken_count-push}

module _ {P T Inx Gen Word : Type 0} where
  not_free : (slot : ArenaSlot P T Inx Gen Word) (g : Gen) (t : T) (next : PackedOption Inx Word) → slot ≡ Allocated g t → Some slot ≡ Some (free_slot next) → ⊥
  not_free slot g t next taken free = cc

module _ {P T Inx Gen Word : Type 0} (number : PackedOption Inx Word → Option ℕ) where
  pub listed_is_free : (slots : List (ArenaSlot P T Inx Gen Word)) (ns : List ℕ) (head : PackedOption Inx Word) (n : ℕ) → IsFreeList number slots ns head → IsMember ns n → (next : PackedOption Inx Word) × (item_at slots n ≡ Some (free_slot next))
  listed_is_free slots [] head n l has = absurd has
  listed_is_free slots (m ∷ ns) head n l (inl same) = (l.0, subst (λ k. item_at slots k ≡ Some (free_slot l.0)) same l.2)
  listed_is_free slots (m ∷ ns) head n l (inr has) = listed_is_free slots ns l.0 n l.3 has

  pub taken_is_not_listed : (slots : List (ArenaSlot P T Inx Gen Word)) (ns : List ℕ) (head : PackedOption Inx Word) (n : ℕ) (g : Gen) (t : T) → IsFreeList number slots ns head → item_at slots n ≡ Some (allocated_slot g t) → IsMember ns n → ⊥
  taken_is_not_listed slots ns head n g t l is has =
      let free = listed_is_free slots ns head n l has in
      let both : Some (allocated_slot g t) ≡ Some (free_slot free.0) = sym is ∙ free.1 in cc

  pub IsFreeList-set : (slots : List (ArenaSlot P T Inx Gen Word)) (k : ℕ) (slot : ArenaSlot P T Inx Gen Word) (ns : List ℕ) (head : PackedOption Inx Word) → (IsMember ns (suc k) → ⊥) → IsFreeList number slots ns head → IsFreeList number (slice_set slots k slot) ns head
  IsFreeList-set slots k slot [] head out l = l
  IsFreeList-set slots k slot (n ∷ ns) head out l =
      (l.0, l.1, item_at-set-other slots k n slot (λ e. out (inl (sym e))) ∙ l.2, IsFreeList-set slots k slot ns l.0 (λ h. out (inr h)) l.3)

  pub walked : (slots : List (ArenaSlot P T Inx Gen Word)) (ns : List ℕ) (most : ℕ) (head : PackedOption Inx Word) → IsFreeList number slots ns head → length ns ≤ most → freed_from number slots most (number head) ≡ ns
  walked slots [] zero head l few = refl
  walked slots [] (suc most) head l few = ap (freed_from number slots (suc most)) l
  walked slots (n ∷ ns) zero head l few = absurd (omega (arith, few))
  walked slots (n ∷ ns) (suc most) head l few =
      ap (freed_from number slots (suc most)) l.1
      ∙ (ap (λ o. n ∷ freed_from number slots most (next_free number o)) l.2 ∙ ap (λ ms. n ∷ ms) (walked slots ns most l.0 l.3 (omega (arith, few))))

  module _ {slots : List (ArenaSlot P T Inx Gen Word)} {greatest len : ℕ} {head : PackedOption Inx Word} {ns : List ℕ} (s : IsSound number slots greatest len head ns) where
    pub walked_all : freed_of number slots head ≡ ns
    walked_all = walked slots ns (length slots) head s.linked (omega (arith, s.total))

    pub closed : IsSound number slots greatest len head (freed_of number slots head)
    closed = subst (IsSound number slots greatest len head) (sym walked_all) s

    pub slot_vacated : (k i : ℕ) (first : PackedOption Inx Word) (g : Gen) (t : T) (left : ℕ) → number first ≡ Some i → k + 1 ≡ i → slice_get slots k ≡ Some (allocated_slot g t) → left + 1 ≡ len
        → IsSound number (slice_set slots k (free_slot head)) greatest left first (i ∷ ns)
    slot_vacated k i first g t left names at is one =
        let index : suc k ≡ i = omega (arith, at) in
        let was_stored : item_at slots i ≡ Some (allocated_slot g t) = at_position slots k i at ∙ is in
        let out = taken_is_not_listed slots ns head i g t s.linked was_stored in
        record {
          linked = (
            head,
            names,
            at_position (slice_set slots k (free_slot head)) k i at ∙ slice_get-set-same slots k (free_slot head) (allocated_slot g t) is,
            IsFreeList-set slots k (free_slot head) ns head (λ h. out (subst (λ n. IsMember ns n) index h)) s.linked,
          );
          apart = (out, s.apart);
          covers = λ n next free. elim (cases_eq i n) [
            | inl same ↦ inl same
            | inr other ↦ inr (s.covers n next (sym (item_at-set-other slots k n (free_slot head) (λ e. other (sym index ∙ e))) ∙ free))
          ];
          counted = omega (arith, one, s.counted, taken_count-set slots k (allocated_slot g t) (free_slot head) is);
          total = omega (arith, one, s.total, length-set slots k (free_slot head));
          fits = omega (arith, s.fits, length-set slots k (free_slot head));
        }

    pub rewritten : (k : ℕ) (g new_g : Gen) (t new_t : T) → slice_get slots k ≡ Some (allocated_slot g t)
        → IsSound number (slice_set slots k (allocated_slot new_g new_t)) greatest len head ns
    rewritten k g new_g t new_t is =
        let slot = allocated_slot new_g new_t in
        let out = taken_is_not_listed slots ns head (suc k) g t s.linked is in
        record {
          linked = IsFreeList-set slots k slot ns head out s.linked;
          apart = s.apart;
          covers = λ n next free. elim (cases_eq (suc k) n) [
            | inl same ↦ absurd (not_free slot new_g new_t next refl (sym (slice_get-set-same slots k slot (allocated_slot g t) is) ∙ subst (λ m. item_at (slice_set slots k slot) m ≡ Some (free_slot next)) (sym same) free))
            | inr other ↦ s.covers n next (sym (item_at-set-other slots k n slot other) ∙ free)
          ];
          counted = omega (arith, s.counted, taken_count-set slots k (allocated_slot g t) slot is);
          total = omega (arith, s.total, length-set slots k slot);
          fits = omega (arith, s.fits, length-set slots k slot);
        }

  pub filled_freed : {slots : List (ArenaSlot P T Inx Gen Word)} {greatest len : ℕ} {head : PackedOption Inx Word} {ns : List ℕ} (i : ℕ) (next : PackedOption Inx Word) (k : ℕ) (g : Gen) (t : T)
      → IsSound number slots greatest len head ns → number head ≡ Some i → k + 1 ≡ i → slice_get slots k ≡ Some (free_slot next)
      → IsSound number (slice_set slots k (allocated_slot g t)) greatest (len + 1) next (without_first ns) × (ns ≡ i ∷ without_first ns)
  filled_freed {ns = []} i next k g t s first at is = let none : Some i ≡ None = sym first ∙ s.linked in cc
  filled_freed {slots = slots} {ns = n ∷ ns} i next k g t s first at is =
      let slot : ArenaSlot P T Inx Gen Word = allocated_slot g t in
      let index : suc k ≡ i = omega (arith, at) in
      let firsts : Some i ≡ Some n = sym first ∙ s.linked.1 in
      let named : i ≡ n = cc in
      let was_stored : item_at slots n ≡ Some (free_slot next) = sym (ap (item_at slots) named) ∙ (at_position slots k i at ∙ is) in
      let both : Some (free_slot s.linked.0) ≡ Some (free_slot next) = sym s.linked.2 ∙ was_stored in
      let rest : s.linked.0 ≡ next = cc in
      let out : IsMember ns (suc k) → ⊥ = λ h. s.apart.0 (subst (λ m. IsMember ns m) (index ∙ named) h) in (
        record {
          linked = IsFreeList-set slots k slot ns next out (subst (λ o. IsFreeList number slots ns o) rest s.linked.3);
          apart = s.apart.1;
          covers = λ m other free. elim (cases_eq (suc k) m) [
            | inl here ↦ absurd (not_free slot g t other refl (sym (slice_get-set-same slots k slot (free_slot next) is) ∙ subst (λ j. item_at (slice_set slots k slot) j ≡ Some (free_slot other)) (sym here) free))
            | inr away ↦ elsewhere m (λ e. away (index ∙ (named ∙ e))) (s.covers m other (sym (item_at-set-other slots k m slot away) ∙ free))
          ];
          counted = omega (arith, s.counted, taken_count-set slots k (free_slot next) slot is);
          total = omega (arith, s.total, length-set slots k slot);
          fits = omega (arith, s.fits, length-set slots k slot);
        },
        ap (λ m. m ∷ ns) (sym named),
      )
    where
      elsewhere : (m : ℕ) → (n ≡ m → ⊥) → (n ≡ m) ⊎ IsMember ns m → IsMember ns m
      elsewhere m away (inl here) = absurd (away here)
      elsewhere m away (inr has) = has

  pub filled_next : {slots : List (ArenaSlot P T Inx Gen Word)} {greatest len : ℕ} {head : PackedOption Inx Word} {ns : List ℕ} (g : Gen) (t : T)
      → IsSound number slots greatest len head ns → number head ≡ None → length slots < greatest
      → IsSound number (slots ++ allocated_slot g t ∷ []) greatest (len + 1) head [] × (ns ≡ [])
  filled_next {slots = slots} {ns = []} g t s none less =
      let slot = allocated_slot g t in (
        record {
          linked = none;
          apart = tt;
          covers = λ m other free. elim (item_at-push slots slot (free_slot other) m free) [
            | inl before ↦ s.covers m other before
            | inr new ↦ absurd (not_free slot g t other refl (ap (λ z. Some z) new))
          ];
          counted = omega (arith, s.counted, taken_count-push slots slot);
          total = omega (arith, s.total, length-append slots (slot ∷ []));
          fits = omega (arith, less, length-append slots (slot ∷ []));
        },
        refl,
      )
  filled_next {slots = slots} {ns = n ∷ ns} g t s none less = let some : None ≡ Some n = sym none ∙ s.linked.1 in cc

  none_listed : (slots : List (ArenaSlot P T Inx Gen Word)) (n : ℕ) (next : PackedOption Inx Word) → slots ≡ [] → item_at slots n ≡ Some (free_slot next) → ⊥
  none_listed slots zero next empty is = cc
  none_listed [] (suc k) next empty is = cc
  none_listed (s ∷ slots) (suc k) next empty is = cc

  pub none_sound : (slots : List (ArenaSlot P T Inx Gen Word)) (greatest : ℕ) (head : PackedOption Inx Word) → number head ≡ None → slots ≡ [] → IsSound number slots greatest 0 head (freed_of number slots head)
  none_sound [] greatest head none is = record { linked = none; apart = tt; covers = λ n next free. absurd (none_listed [] n next refl free); counted = refl; total = refl; fits = omega arith }
  none_sound (s ∷ slots) greatest head none is = cc

  pub first_freed : {slots : List (ArenaSlot P T Inx Gen Word)} {greatest len : ℕ} {head : PackedOption Inx Word} {ns : List ℕ} (i : ℕ) → IsSound number slots greatest len head ns → number head ≡ Some i → (count : ℕ) → i ≡ first_or_next ns count
  first_freed {ns = []} i s first count = let none : Some i ≡ None = sym first ∙ s.linked in cc
  first_freed {ns = n ∷ ns} i s first count = let firsts : Some i ≡ Some n = sym first ∙ s.linked.1 in cc

  pub first_new : {slots : List (ArenaSlot P T Inx Gen Word)} {greatest len : ℕ} {head : PackedOption Inx Word} {ns : List ℕ} → IsSound number slots greatest len head ns → number head ≡ None → (count : ℕ) → count + 1 ≡ first_or_next ns count
  first_new {ns = []} s none count = refl
  first_new {ns = n ∷ ns} s none count = let some : None ≡ Some n = sym none ∙ s.linked.1 in cc

  pub none_freed : {slots : List (ArenaSlot P T Inx Gen Word)} {greatest len : ℕ} {head : PackedOption Inx Word} {ns : List ℕ} → IsSound number slots greatest len head ns → number head ≡ None → len ≡ length slots
  none_freed {ns = []} s none = omega (arith, s.total)
  none_freed {ns = n ∷ ns} s none = let some : None ≡ Some n = sym none ∙ s.linked.1 in cc

  pub some_taken : {slots : List (ArenaSlot P T Inx Gen Word)} {greatest len : ℕ} {head : PackedOption Inx Word} {ns : List ℕ} → IsSound number slots greatest len head ns
      → (k : ℕ) (g : Gen) (t : T) → slice_get slots k ≡ Some (allocated_slot g t) → 1 ≤ len
  some_taken {slots = slots} {head = head} s k g t is = omega (arith, s.counted, taken_count-set slots k (allocated_slot g t) (free_slot head) is)

  pub lent : {slots : List (ArenaSlot P T Inx Gen Word)} {greatest len : ℕ} {head : PackedOption Inx Word} {ns : List ℕ} (k : ℕ) (slot : ArenaSlot P T Inx Gen Word) (w : T)
      → IsSound number slots greatest len head ns → slice_get slots k ≡ Some slot → IsSound number (slice_set slots k (with_value_in slot w)) greatest len head ns
  lent k (Allocated g t) w s is = rewritten s k g g t w is
  lent {slots = slots} {greatest = greatest} {len = len} {head = head} {ns = ns} k (Free next) w s is =
      subst (λ es. IsSound number es greatest len head ns) (sym (slice_set-itself slots k (free_slot next) is)) s
