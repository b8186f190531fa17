-- Exchanges of values.
use Rattle.std.proofs.Common.{◌≡◌, ◌≢◌, ℕ, zero, suc, ◌+◌, List, [], ◌∷◌, Option, None, Some, refl, sym, ap, ◌∙◌}
use Rattle.std.specs.Prelude.{slice_get, slice_set, slice_index_or}
use Rattle.std.specs.Option.{option_map}
use Rattle.arena_core.specs.declared.packed_option.PackedOption.{PackedOption}
use Rattle.arena_traits.specs.Arena.{Arena, entry_at, with_value}
use Rattle.arena_traits.specs.Entries.{view_of, view_with_value}
use Rattle.arena_traits.proofs.ArenaViewLemmas.{viewed_written}
use Rattle.arena_base.specs.Slots.{allocated_slot, free_slot, arena_of, freed_of, IsSound}
use Rattle.arena_base.specs.declared.slot.ArenaSlot.{ArenaSlot}
use Rattle.arena_base.proofs.SlotLemmas.{slice_get-set-other}
use Rattle.arena_base.proofs.SoundnessLemmas.{lent, closed}
use Rattle.arena_base.proofs.ArenaModelLemmas.{lent_view}

pub set_thrice : {X : Type 0} (xs : List X) (k m : ℕ) (x y z : X) → k ≢ m → slice_set (slice_set (slice_set xs k x) m y) k z ≡ slice_set (slice_set xs k z) m y
set_thrice [] k m x y z apart = refl
set_thrice (w ∷ xs) zero zero x y z apart = absurd (apart refl)
set_thrice (w ∷ xs) zero (suc m) x y z apart = refl
set_thrice (w ∷ xs) (suc k) zero x y z apart = ap (λ zs. y ∷ zs) (set_twice xs k x z)
  where
    set_twice : {X : Type 0} (xs : List X) (k : ℕ) (x z : X) → slice_set (slice_set xs k x) k z ≡ slice_set xs k z
    set_twice [] k x z = refl
    set_twice (w ∷ xs) zero x z = refl
    set_twice (w ∷ xs) (suc k) x z = ap (λ zs. w ∷ zs) (set_twice xs k x z)
set_thrice (w ∷ xs) (suc k) (suc m) x y z apart = ap (λ zs. w ∷ zs) (set_thrice xs k m x y z (λ is. apart (ap suc is)))

pub same_entry : {Gen T : Type 0} (e : Gen × T) (g : Gen) (t : T) → Some e ≡ Some (g, t) → (e.0 ≡ g) × (e.1 ≡ t)
same_entry e g t is = let same : e ≡ (g, t) = cc in (ap (λ p. p.0) same, ap (λ p. p.1) same)

module _ {P T Inx Gen Word : Type 0} (number : PackedOption Inx Word → Option ℕ) {slots items : List (ArenaSlot P T Inx Gen Word)} {greatest len : ℕ} {head : PackedOption Inx Word} (k m i j : ℕ) (g h : Gen) (t u : T)
    (s : IsSound number slots greatest len head (freed_of number slots head)) (first : slice_get slots k ≡ Some (allocated_slot g t)) (second : slice_get slots m ≡ Some (allocated_slot h u)) (apart : k ≢ m)
    (written : items ≡ slice_set (slice_set slots k (allocated_slot g u)) m (allocated_slot h t)) where
  abbrev once : List (ArenaSlot P T Inx Gen Word)
  once = slice_set slots k (allocated_slot g u)

  sound_once : IsSound number once greatest len head (freed_of number once head)
  sound_once = closed number (lent number k (allocated_slot g t) u s first)

  second_once : slice_get once m ≡ Some (allocated_slot h u)
  second_once = slice_get-set-other slots k m (allocated_slot g u) apart ∙ second

  pub exchanged_sound : IsSound number items greatest len head (freed_of number items head)
  exchanged_sound = rw written (closed number (lent number m (allocated_slot h u) t sound_once second_once))

  pub exchanged_view : (counter : Gen) (capacity new_capacity : ℕ) (maximum most : Option ℕ) (placed touched : ℕ) → k + 1 ≡ i → m + 1 ≡ j → new_capacity ≡ capacity → most ≡ maximum
      → arena_of items (freed_of number items head) counter greatest new_capacity most placed touched
      ≡ with_value (with_value (arena_of slots (freed_of number slots head) counter greatest capacity maximum placed touched) i u) j t
  exchanged_view counter capacity new_capacity maximum most placed touched at also equal_capacity same_most =
      lent_view number sound_once counter capacity maximum placed touched m j (allocated_slot h u) t items new_capacity most also second_once written equal_capacity same_most
      ∙ ap (λ (a : Arena Gen T). with_value a j t) (lent_view number s counter capacity maximum placed touched k i (allocated_slot g t) u once capacity maximum at first refl refl refl)

module _ {Gen T : Type 0} (a : Arena Gen T) where
  pub written_itself : (i : ℕ) (g : Gen) (t : T) → entry_at a i ≡ Some (g, t) → with_value a i t ≡ a
  written_itself zero g t is = refl
  written_itself (suc k) g t is = λ j. record a { slots = (ap (λ o. slice_set a.slots k (option_map (λ (e : Gen × T). (e.0, t)) o)) is ∙ slice_set-there a.slots k (Some (g, t)) is) j }
    where
      slice_set-there : (xs : List (Option (Gen × T))) (k : ℕ) (x : Option (Gen × T)) → slice_index_or xs k None ≡ x → slice_set xs k x ≡ xs
      slice_set-there [] k x is = refl
      slice_set-there (y ∷ xs) zero x is = ap (λ z. z ∷ xs) (sym is)
      slice_set-there (y ∷ xs) (suc k) x is = ap (λ zs. y ∷ zs) (slice_set-there xs k x is)

  pub exchanged_arena : (b : Arena Gen T) (i j : ℕ) (t u : T) → b ≡ with_value (with_value a i u) j t → view_of b ≡ view_with_value (view_with_value (view_of a) i u) j t
  exchanged_arena b i j t u is = ap view_of is ∙ (viewed_written (with_value a i u) j t ∙ ap (λ s. view_with_value s j t) (viewed_written a i u))

  pub exchanged_itself : (p q : ℕ × Gen) (t u : T) → p.0 ≡ q.0 → entry_at a p.0 ≡ Some (p.1, t) → entry_at a q.0 ≡ Some (q.1, u) → a ≡ with_value (with_value a p.0 u) q.0 t
  exchanged_itself p q t u same first second =
      let equal : t ≡ u = (same_entry (p.1, t) q.1 u (sym first ∙ (ap (entry_at a) same ∙ second))).1 in
      sym (ap (λ b. with_value b q.0 t) (written_itself p.0 p.1 u (first ∙ ap (λ x. Some (p.1, x)) equal)) ∙ written_itself q.0 q.1 t (second ∙ ap (λ x. Some (q.1, x)) (sym equal)))
