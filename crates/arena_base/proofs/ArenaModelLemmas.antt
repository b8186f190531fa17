-- Steps on slots, in the arena's model.
use Rattle.std.proofs.Common.{◌≡◌, ℕ, ◌+◌, ◌-◌, ◌<◌, List, [], ◌∷◌, ◌++◌, map, Option, None, Some, refl, ap, sym, ◌∙◌, subst, arith}
use Rattle.std.specs.Prelude.{slice_get, slice_set, count_by, is_some}
use Rattle.std.proofs.lemmas.List.{map-set}
use Rattle.arena_core.specs.declared.packed_option.PackedOption.{PackedOption}
use Rattle.arena_traits.specs.Arena.{Arena, slot_at, with_slot, insert_next, remove_at, with_value, invalidate_at, arena_after_clear, counter_after_clear, with_capacity_of, ReachesCapacity}
use Rattle.std.specs.Option.{option_map}
use Rattle.arena_base.specs.Slots.{entry_of, entry_in, with_value_in, allocated_slot, free_slot, arena_of, freed_of, IsSound}
use Rattle.arena_base.specs.declared.slot.ArenaSlot.{ArenaSlot}
use Rattle.arena_base.specs.declared.slot.ArenaSlot.TheVariants.{Allocated, Free}
use Rattle.arena_base.proofs.SoundnessLemmas.{lent, walked_all, closed, slot_vacated, some_taken, filled_freed, filled_next, none_freed}
use Rattle.arena_base.proofs.SlotLemmas.{map-push, slice_set-itself, entry_at-position, with_slot-position}

pub entry_of-written : {P T Inx Gen Word : Type 0} (slot : ArenaSlot P T Inx Gen Word) (w : T) → entry_of (with_value_in slot w) ≡ option_map (λ (e : Gen × T). (e.0, w)) (entry_of slot)
entry_of-written (Allocated g t) w = refl
entry_of-written (Free next) w = refl

module _ {P T Inx Gen Word : Type 0} (slots : List (ArenaSlot P T Inx Gen Word)) (ns : List ℕ) (counter : Gen) (greatest capacity : ℕ) (maximum : Option ℕ) (placed touched : ℕ) where
  abbrev now : Arena Gen T
  now = arena_of slots ns counter greatest capacity maximum placed touched

  pub viewed_slots : (k n : ℕ) (slot : ArenaSlot P T Inx Gen Word) → k + 1 ≡ n → map entry_of (slice_set slots k slot) ≡ with_slot (map entry_of slots) n (entry_of slot)
  viewed_slots k n slot at = map-set entry_of slots k slot ∙ sym (with_slot-position (map entry_of slots) k n (entry_of slot) at)

  pub viewed_filled_next : (t : T) → ns ≡ []
      → arena_of (slots ++ allocated_slot counter t ∷ []) [] counter greatest capacity maximum (placed + 1) touched ≡ insert_next now t
  viewed_filled_next t none =
      ap (λ (es : List (Option (Gen × T))). let a : Arena Gen T = record now { slots = es; freed = []; placed = placed + 1 } in a) (map-push slots (allocated_slot counter t))
      ∙ ap (λ ms. insert_next (record now { freed = ms }) t) (sym none)

  pub viewed_filled_freed : (k n : ℕ) (rest : List ℕ) (t : T) → k + 1 ≡ n → ns ≡ n ∷ rest
      → arena_of (slice_set slots k (allocated_slot counter t)) rest counter greatest capacity maximum (placed + 1) touched ≡ insert_next now t
  viewed_filled_freed k n rest t at first =
      ap (λ (es : List (Option (Gen × T))). let a : Arena Gen T = record now { slots = es; freed = rest; placed = placed + 1 } in a) (viewed_slots k n (allocated_slot counter t) at)
      ∙ ap (λ ms. insert_next (record now { freed = ms }) t) (sym first)

  pub viewed_vacated : (following : Gen → Gen) (k n : ℕ) (next : PackedOption Inx Word) → k + 1 ≡ n
      → arena_of (slice_set slots k (free_slot next)) (n ∷ ns) (following counter) greatest capacity maximum (placed + 1) touched ≡ remove_at following now n
  viewed_vacated following k n next at =
      ap (λ (es : List (Option (Gen × T))). let a : Arena Gen T = record now { slots = es; counter = following counter; freed = n ∷ ns; placed = placed + 1 } in a) (viewed_slots k n (free_slot next) at)

  entry_viewed : (k n : ℕ) (g : Gen) (t : T) → k + 1 ≡ n → slice_get slots k ≡ Some (allocated_slot g t) → slot_at (map entry_of slots) n ≡ Some (g, t)
  entry_viewed k n g t at is = entry_at-position slots k n at ∙ ap entry_in is

  pub viewed_with_value : (k n : ℕ) (slot : ArenaSlot P T Inx Gen Word) (w : T) → k + 1 ≡ n → slice_get slots k ≡ Some slot
      → arena_of (slice_set slots k (with_value_in slot w)) ns counter greatest capacity maximum placed touched ≡ with_value now n w
  viewed_with_value k n slot w at is =
      let rewrite : Option (Gen × T) → Option (Gen × T) = option_map (λ (e : Gen × T). (e.0, w)) in
      ap (λ (es : List (Option (Gen × T))). let a : Arena Gen T = record now { slots = es } in a)
      (viewed_slots k n (with_value_in slot w) at
      ∙ ap (λ (o : Option (Gen × T)). with_slot (map entry_of slots) n o) (entry_of-written slot w ∙ ap rewrite (sym (entry_at-position slots k n at ∙ ap entry_in is))))

  pub viewed_renewed_slot : (following : Gen → Gen) (k n : ℕ) (g : Gen) (t : T) → k + 1 ≡ n → slice_get slots k ≡ Some (allocated_slot g t)
      → arena_of (slice_set slots k (allocated_slot (following counter) t)) ns (following counter) greatest capacity maximum placed touched ≡ invalidate_at following now n
  viewed_renewed_slot following k n g t at is =
      ap (λ (es : List (Option (Gen × T))). let a : Arena Gen T = record now { slots = es; counter = following counter } in a)
      (viewed_slots k n (allocated_slot (following counter) t) at
      ∙ ap (λ (o : Option (Gen × T)). with_slot (map entry_of slots) n (option_map (λ (e : Gen × T). (following counter, e.1)) o)) (sym (entry_viewed k n g t at is)))

module _ {P T Inx Gen Word : Type 0} (number : PackedOption Inx Word → Option ℕ) where
  pub lent_view : {slots : List (ArenaSlot P T Inx Gen Word)} {greatest len : ℕ} {head : PackedOption Inx Word} → IsSound number slots greatest len head (freed_of number slots head)
      → (counter : Gen) (capacity : ℕ) (maximum : Option ℕ) (placed touched : ℕ) (k n : ℕ) (slot : ArenaSlot P T Inx Gen Word) (w : T)
      → (items : List (ArenaSlot P T Inx Gen Word)) (new_capacity : ℕ) (most : Option ℕ) → k + 1 ≡ n → slice_get slots k ≡ Some slot → items ≡ slice_set slots k (with_value_in slot w) → new_capacity ≡ capacity → most ≡ maximum
      → arena_of items (freed_of number items head) counter greatest new_capacity most placed touched ≡ with_value (arena_of slots (freed_of number slots head) counter greatest capacity maximum placed touched) n w
  lent_view {slots = slots} {greatest = greatest} {head = head} s counter capacity maximum placed touched k n slot w items new_capacity most at is written equal_capacity same_most =
      rw (written, equal_capacity, same_most, walked_all number (lent number k slot w s is))
      (viewed_with_value slots (freed_of number slots head) counter greatest capacity maximum placed touched k n slot w at is)

  pub vacated_view : {slots : List (ArenaSlot P T Inx Gen Word)} {greatest len : ℕ} {head : PackedOption Inx Word} → IsSound number slots greatest len head (freed_of number slots head)
      → (counter after : Gen) (capacity new_capacity : ℕ) (maximum most : Option ℕ) (placed total touched : ℕ) (following : Gen → Gen) (k i : ℕ) (first : PackedOption Inx Word) (g : Gen) (t : T) (items : List (ArenaSlot P T Inx Gen Word))
      → number first ≡ Some i → k + 1 ≡ i → slice_get slots k ≡ Some (allocated_slot g t) → items ≡ slice_set slots k (free_slot head) → new_capacity ≡ capacity → most ≡ maximum → after ≡ following counter → total ≡ placed + 1
      → arena_of items (freed_of number items first) after greatest new_capacity most total touched ≡ remove_at following (arena_of slots (freed_of number slots head) counter greatest capacity maximum placed touched) i
  vacated_view {slots = slots} {greatest = greatest} {len = len} {head = head} s counter after capacity new_capacity maximum most placed total touched following k i first g t items names at is written equal_capacity same_most same_after same_total =
      let some = some_taken number s k g t is in
      rw (written, equal_capacity, same_most, same_after, same_total, walked_all number (slot_vacated number s k i first g t (len - 1) names at is (omega (arith, some))))
      (viewed_vacated slots (freed_of number slots head) counter greatest capacity maximum placed touched following k i head at)

  pub cleared_view : (slots items : List (ArenaSlot P T Inx Gen Word)) (head : PackedOption Inx Word) (ns : List ℕ) (counter after : Gen) (greatest capacity new_capacity : ℕ) (maximum most : Option ℕ) (placed touched len : ℕ) (following : Gen → Gen)
      → items ≡ [] → new_capacity ≡ capacity → most ≡ maximum → len ≡ count_by is_some (map entry_of slots) → after ≡ counter_after_clear following len counter
      → arena_of items (freed_of number items head) after greatest new_capacity most placed touched ≡ arena_after_clear following (arena_of slots ns counter greatest capacity maximum placed touched)
  cleared_view slots items head ns counter after greatest capacity new_capacity maximum most placed touched len following none equal_capacity same_most counted same_after = rw (none, equal_capacity, same_most, same_after, counted)

  pub kept_view : (slots items : List (ArenaSlot P T Inx Gen Word)) (head : PackedOption Inx Word) (counter : Gen) (greatest capacity new_capacity : ℕ) (maximum most : Option ℕ) (placed touched : ℕ) (k : ℕ) (slot : ArenaSlot P T Inx Gen Word)
      → slice_get slots k ≡ Some slot → items ≡ slice_set slots k slot → new_capacity ≡ capacity → most ≡ maximum
      → arena_of items (freed_of number items head) counter greatest new_capacity most placed touched ≡ arena_of slots (freed_of number slots head) counter greatest capacity maximum placed touched
  kept_view slots items head counter greatest capacity new_capacity maximum most placed touched k slot is written equal_capacity same_most =
      let same : items ≡ slots = written ∙ slice_set-itself slots k slot is in
      rw (same, equal_capacity, same_most)

  pub filled_freed_view : {slots : List (ArenaSlot P T Inx Gen Word)} {greatest len : ℕ} {head : PackedOption Inx Word} → IsSound number slots greatest len head (freed_of number slots head)
      → (counter : Gen) (capacity new_capacity : ℕ) (maximum most : Option ℕ) (placed total touched : ℕ) (k i : ℕ) (next : PackedOption Inx Word) (t : T) (items : List (ArenaSlot P T Inx Gen Word))
      → number head ≡ Some i → k + 1 ≡ i → slice_get slots k ≡ Some (free_slot next) → items ≡ slice_set slots k (allocated_slot counter t) → new_capacity ≡ capacity → most ≡ maximum → total ≡ placed + 1
      → IsSound number items greatest (len + 1) next (freed_of number items next)
      × (arena_of items (freed_of number items next) counter greatest new_capacity most total touched ≡ insert_next (arena_of slots (freed_of number slots head) counter greatest capacity maximum placed touched) t)
  filled_freed_view {slots = slots} {greatest = greatest} {head = head} s counter capacity new_capacity maximum most placed total touched k i next t items first at was written equal_capacity same_most same_total =
      let filled = filled_freed number i next k counter t s first at was in (
        rw written (closed number filled.0),
        rw (written, equal_capacity, same_most, same_total, walked_all number filled.0) (viewed_filled_freed slots (freed_of number slots head) counter greatest capacity maximum placed touched k i _ t at filled.1),
      )

  pub filled_next_view : {slots : List (ArenaSlot P T Inx Gen Word)} {greatest len : ℕ} {head : PackedOption Inx Word} → IsSound number slots greatest len head (freed_of number slots head)
      → (counter : Gen) (capacity new_capacity : ℕ) (maximum most : Option ℕ) (placed total touched : ℕ) (t : T) (items : List (ArenaSlot P T Inx Gen Word))
      → number head ≡ None → len < greatest → items ≡ slots ++ allocated_slot counter t ∷ [] → new_capacity ≡ capacity → most ≡ maximum → total ≡ placed + 1
      → IsSound number items greatest (len + 1) head (freed_of number items head)
      × (arena_of items (freed_of number items head) counter greatest new_capacity most total touched ≡ insert_next (arena_of slots (freed_of number slots head) counter greatest capacity maximum placed touched) t)
  filled_next_view {slots = slots} {greatest = greatest} {head = head} s counter capacity new_capacity maximum most placed total touched t items none less written equal_capacity same_most same_total =
      let filled = filled_next number counter t s none (omega (arith, less, none_freed number s none)) in (
        rw written (closed number filled.0),
        rw (written, equal_capacity, same_most, same_total, walked_all number filled.0) (viewed_filled_next slots (freed_of number slots head) counter greatest capacity maximum placed touched t filled.1),
      )

module _ {Gen T : Type 0} (old mid new : Arena Gen T) (t : T) (grown : mid ≡ with_capacity_of old mid) (inserted : new ≡ insert_next mid t) where
  pub inserted_grown : new ≡ with_capacity_of (insert_next old t) new
  inserted_grown = inserted ∙ (ap (λ (a : Arena Gen T). insert_next a t) grown ∙ ap (λ (a : Arena Gen T). with_capacity_of (insert_next old t) a) (sym inserted))

  pub capacity_grown : (may_reach : ℕ → Option ℕ → ℕ → ℕ → Type 0) (greatest n : ℕ) → ReachesCapacity may_reach greatest n old mid → ReachesCapacity may_reach greatest n old new
  capacity_grown may_reach greatest n has = subst (ReachesCapacity may_reach greatest n old) (sym inserted) (record { capacity = has.capacity; reached = has.reached })
