-- Freed lists of exactly the free slots.
use Rattle.std.proofs.Common.{◌≡◌, ℕ, zero, suc, ◌<◌, ◌≤◌, List, [], ◌∷◌, length, map, Option, None, Some, refl, ap, sym, ◌∙◌, arith}
use Rattle.std.specs.Prelude.{slice_get}
use Rattle.std.proofs.lemmas.List.{length-map}
use Rattle.arena_core.specs.declared.packed_option.PackedOption.{PackedOption}
use Rattle.arena_traits.specs.Arena.{slot_at, IsListed}
use Rattle.arena_base.specs.Slots.{item_at, entry_of, entry_in, free_slot, arena_of, IsSound}
use Rattle.arena_base.specs.declared.slot.ArenaSlot.{ArenaSlot}
use Rattle.arena_base.specs.declared.slot.ArenaSlot.TheVariants.{Allocated, Free}
use Rattle.arena_base.proofs.SlotLemmas.{slice_get-below, entry_at-position}
use Rattle.arena_base.proofs.SoundnessLemmas.{listed_is_free}

pub there : {X : Type 0} (xs : List X) (k : ℕ) → k < length xs → (x : X) × (slice_get xs k ≡ Some x)
there [] k below = absurd (omega (arith, below))
there (x ∷ xs) zero below = (x, refl)
there (x ∷ xs) (suc k) below = there xs k (omega (arith, below))

module _ {P T Inx Gen Word : Type 0} where
  free_at : (slots : List (ArenaSlot P T Inx Gen Word)) (i : ℕ) (next : PackedOption Inx Word) → item_at slots i ≡ Some (free_slot next)
      → (slot_at (map entry_of slots) i ≡ None) × (1 ≤ i) × (i ≤ length (map entry_of slots))
  free_at slots zero next is = cc
  free_at slots (suc k) next is =
      let below = slice_get-below slots k (free_slot next) is in
      (entry_at-position slots k (suc k) (omega arith) ∙ ap entry_in is, omega arith, omega (arith, below, length-map slots entry_of))

  pub free_of : (slot : ArenaSlot P T Inx Gen Word) → entry_of slot ≡ None → (next : PackedOption Inx Word) × (slot ≡ free_slot next)
  free_of (Allocated g t) none = cc
  free_of (Free next) none = (next, refl)

  item_of : (slots : List (ArenaSlot P T Inx Gen Word)) (i : ℕ) → 1 ≤ i → i ≤ length (map entry_of slots) → slot_at (map entry_of slots) i ≡ None → (next : PackedOption Inx Word) × (item_at slots i ≡ Some (free_slot next))
  item_of slots zero one within none = absurd (omega (arith, one))
  item_of slots (suc k) one within none =
      let slot = there slots k (omega (arith, within, length-map slots entry_of)) in
      let free = free_of slot.0 (sym (entry_at-position slots k (suc k) (omega arith) ∙ ap entry_in slot.1) ∙ none) in
      (free.0, slot.1 ∙ ap (λ s. Some s) free.1)

  pub listed : (number : PackedOption Inx Word → Option ℕ) {slots : List (ArenaSlot P T Inx Gen Word)} {greatest len : ℕ} {head : PackedOption Inx Word} {ns : List ℕ} → IsSound number slots greatest len head ns
      → (counter : Gen) (capacity : ℕ) (maximum : Option ℕ) (placed touched : ℕ) → IsListed (arena_of slots ns counter greatest capacity maximum placed touched)
  listed number {slots = slots} {head = head} {ns = ns} s counter capacity maximum placed touched = record {
    apart = s.apart;
    free = λ i has. let free = listed_is_free number slots ns head i s.linked has in free_at slots i free.0 free.1;
    listed = λ i one within none. let free = item_of slots i one within none in s.covers i free.0 free.1;
  }
