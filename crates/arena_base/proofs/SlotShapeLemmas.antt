-- Slots that differ only in values are equally sound.
use Rattle.std.proofs.Common.{◌≡◌, ℕ, zero, suc, cond, List, [], ◌∷◌, map, length, Option, None, Some, refl, ap, sym, ◌∙◌, arith}
use Rattle.std.specs.Prelude.{slice_get, is_some}
use Rattle.std.specs.Option.{option_map}
use Rattle.std.proofs.lemmas.List.{length-map}
use Rattle.std.proofs.lemmas.List.Sums.{sum_by-cons}
use Rattle.arena_core.specs.declared.packed_option.PackedOption.{PackedOption}
use Rattle.arena_base.specs.Slots.{item_at, entry_of, free_slot, without_value, without_values, IsFreeList, IsSound}
use Rattle.arena_base.specs.Copies.{generations}
use Rattle.arena_base.specs.declared.slot.ArenaSlot.{ArenaSlot}
use Rattle.arena_base.specs.declared.slot.ArenaSlot.TheVariants.{Allocated, Free}
use Rattle.arena_base.proofs.SlotLemmas.{taken, taken_count}

module _ {X Y : Type 0} (f : X → Y) where
  slice_get-map : (xs : List X) (k : ℕ) → slice_get (map f xs) k ≡ option_map f (slice_get xs k)
  slice_get-map [] k = refl
  slice_get-map (x ∷ xs) zero = refl
  slice_get-map (x ∷ xs) (suc k) = slice_get-map xs k

  item_at-map : (xs : List X) (n : ℕ) → item_at (map f xs) n ≡ option_map f (item_at xs n)
  item_at-map xs zero = refl
  item_at-map xs (suc k) = slice_get-map xs k

module _ {P T Inx Gen Word : Type 0} where
  free_before : (o : Option (ArenaSlot P T Inx Gen Word)) (next : PackedOption Inx Word) → option_map without_value o ≡ Some (free_slot next) → o ≡ Some (free_slot next)
  free_before None next is = cc
  free_before (Some (Allocated g t)) next is = cc
  free_before (Some (Free other)) next is = let same : other ≡ next = cc in ap (λ n. Some (free_slot n)) same

  same_taken : (slot : ArenaSlot P T Inx Gen Word) → taken (without_value slot) ≡ taken slot
  same_taken (Allocated g t) = refl
  same_taken (Free next) = refl

  same_count : (slots : List (ArenaSlot P T Inx Gen Word)) → taken_count (without_values slots) ≡ taken_count slots
  same_count [] = refl
  same_count (s ∷ slots) =
      let before = sum_by-cons (λ (o : Option (Gen × T)). cond (is_some o) 1 0) (entry_of s) (map entry_of slots) in
      let after = sum_by-cons (λ (o : Option (Gen × Unit {0})). cond (is_some o) 1 0) (entry_of (without_value s)) (map entry_of (without_values slots)) in
      omega (arith, before, after, same_taken s, same_count slots)

  generations_kept : (slots : List (ArenaSlot P T Inx Gen Word)) → generations (map entry_of slots) ≡ generations (map entry_of (without_values slots))
  generations_kept [] = refl
  generations_kept (Allocated g t ∷ slots) = ap (λ gs. Some g ∷ gs) (generations_kept slots)
  generations_kept (Free next ∷ slots) = ap (λ gs. None ∷ gs) (generations_kept slots)

module _ {P T U Inx Gen Word : Type 0} (a : List (ArenaSlot P U Inx Gen Word)) (b : List (ArenaSlot P T Inx Gen Word)) (alike : without_values b ≡ without_values a) where
  pub same_length : length b ≡ length a
  same_length = sym (length-map b without_value) ∙ (ap length alike ∙ length-map a without_value)

  pub same_generations : generations (map entry_of b) ≡ generations (map entry_of a)
  same_generations = generations_kept b ∙ (ap (λ s. generations (map entry_of s)) alike ∙ sym (generations_kept a))

  free_too : (n : ℕ) (next : PackedOption Inx Word) → item_at a n ≡ Some (free_slot next) → item_at b n ≡ Some (free_slot next)
  free_too n next is =
      free_before (item_at b n) next
      (sym (item_at-map without_value b n) ∙ (ap (λ s. item_at s n) alike ∙ (item_at-map without_value a n ∙ ap (option_map without_value) is)))

  linked_too : (number : PackedOption Inx Word → Option ℕ) (ns : List ℕ) (head : PackedOption Inx Word) → IsFreeList number a ns head → IsFreeList number b ns head
  linked_too number [] head l = l
  linked_too number (n ∷ ns) head l = (l.0, l.1, free_too n l.0 l.2, linked_too number ns l.0 l.3)

module _ {P T U Inx Gen Word : Type 0} (number : PackedOption Inx Word → Option ℕ) {a : List (ArenaSlot P U Inx Gen Word)} {b : List (ArenaSlot P T Inx Gen Word)} (alike : without_values b ≡ without_values a) where
  pub sound_too : {greatest len : ℕ} {head : PackedOption Inx Word} {ns : List ℕ} → IsSound number a greatest len head ns → IsSound number b greatest len head ns
  sound_too {head = head} {ns = ns} s = record {
    linked = linked_too a b alike number ns head s.linked;
    apart = s.apart;
    covers = λ n next free. s.covers n next (free_too b a (sym alike) n next free);
    counted = s.counted ∙ (sym (same_count a) ∙ (ap taken_count (sym alike) ∙ same_count b));
    total = omega (arith, s.total, same_length a b alike);
    fits = omega (arith, s.fits, same_length a b alike);
  }
