-- Trimming free slots at the end, and listing the others.
use Rattle.std.proofs.Common.{◌≡◌, ℕ, zero, suc, ◌+◌, ◌<◌, ◌≤◌, cond, List, [], ◌∷◌, length, map, take, drop, Option, None, Some, refl, ap, sym, ◌∙◌, subst, arith, inl, inr}
use Rattle.std.specs.Prelude.{true, false, count_by, is_some, is_none, slice_index_or, slice_get, slice_set}
use Rattle.std.proofs.lemmas.List.{length-map, map-set}
use Rattle.std.proofs.lemmas.List.Sums.{sum_by-cons}
use Rattle.arena_core.specs.declared.packed_option.PackedOption.{PackedOption}
use Rattle.arena_traits.specs.Arena.{IsMember, AreDistinct}
use Rattle.arena_base.specs.DetachedSlots.{before_cut, without_free_end, free_from}
use Rattle.arena_base.specs.Slots.{item_at, entry_of, entry_in, free_slot, IsFreeList, IsSound}
use Rattle.arena_base.specs.declared.slot.ArenaSlot.{ArenaSlot}
use Rattle.arena_base.proofs.SlotLemmas.{slice_get-below, slice_get-set-same, slice_index_or-map}
use Rattle.arena_base.proofs.FreeListLemmas.{there, free_of}
use Rattle.arena_base.proofs.SoundnessLemmas.{IsFreeList-set}

module _ {X : Type 0} where
  keep : (s m : Option X) (xs : List (Option X)) → before_cut s (m ∷ xs) ≡ s ∷ m ∷ xs
  keep None m xs = refl
  keep (Some x) m xs = refl

  pub without_free_end-ends : (xs : List (Option X)) (k : ℕ) (x : X) → slice_index_or xs k None ≡ Some x → without_free_end (take (suc k) xs) ≡ take (suc k) xs
  without_free_end-ends [] k x is = cc
  without_free_end-ends (s ∷ xs) zero x is =
      ap (λ o. before_cut o (without_free_end (take 0 xs))) is ∙ ap (λ (o : Option X). o ∷ take 0 xs) (sym is)
  without_free_end-ends (s ∷ []) (suc k) x is = cc
  without_free_end-ends (s ∷ m ∷ xs) (suc k) x is = ap (before_cut s) (without_free_end-ends (m ∷ xs) k x is) ∙ keep s m (take k xs)

  pub without_free_end-cut : (xs : List (Option X)) (k : ℕ) → k < length xs → slice_index_or xs k None ≡ None → without_free_end (take (suc k) xs) ≡ without_free_end (take k xs)
  without_free_end-cut [] k below is = absurd (omega (arith, below))
  without_free_end-cut (s ∷ xs) zero below is = ap (λ o. before_cut o (without_free_end (take 0 xs))) is
  without_free_end-cut (s ∷ xs) (suc k) below is = ap (before_cut s) (without_free_end-cut xs k (omega (arith, below)) is)

  pub drop-at : (xs : List (Option X)) (k : ℕ) → k < length xs → drop k xs ≡ slice_index_or xs k None ∷ drop (suc k) xs
  drop-at [] k below = absurd (omega (arith, below))
  drop-at (x ∷ xs) zero below = refl
  drop-at (x ∷ xs) (suc k) below = drop-at xs k (omega (arith, below))

  pub free_from-above : (xs : List (Option X)) (i n : ℕ) → IsMember (free_from i xs) n → i ≤ n
  free_from-above [] i n has = absurd has
  free_from-above (None ∷ xs) i n (inl same) = omega (arith, same)
  free_from-above (None ∷ xs) i n (inr has) = let more = free_from-above xs (suc i) n has in omega (arith, more)
  free_from-above (Some x ∷ xs) i n has = let more = free_from-above xs (suc i) n has in omega (arith, more)

  pub free_from-apart : (xs : List (Option X)) (i : ℕ) → AreDistinct (free_from i xs)
  free_from-apart [] i = tt
  free_from-apart (None ∷ xs) i = (λ has. let more = free_from-above xs (suc i) i has in absurd (omega (arith, more)), free_from-apart xs (suc i))
  free_from-apart (Some x ∷ xs) i = free_from-apart xs (suc i)

  pub free_from-has : (xs : List (Option X)) (i k n : ℕ) → i + k ≡ n → k < length xs → slice_index_or xs k None ≡ None → IsMember (free_from i xs) n
  free_from-has [] i k n at below is = absurd (omega (arith, below))
  free_from-has (None ∷ xs) i zero n at below is = inl (omega (arith, at))
  free_from-has (Some x ∷ xs) i zero n at below is = cc
  free_from-has (None ∷ xs) i (suc k) n at below is = inr (free_from-has xs (suc i) k n (omega (arith, at)) (omega (arith, below)) is)
  free_from-has (Some x ∷ xs) i (suc k) n at below is = free_from-has xs (suc i) k n (omega (arith, at)) (omega (arith, below)) is

  pub free_from-total : (xs : List (Option X)) (i : ℕ) → count_by is_some xs + length (free_from i xs) ≡ length xs
  free_from-total [] i = refl
  free_from-total (None ∷ xs) i = omega (arith, free_from-total xs (suc i), sum_by-cons (λ (o : Option X). cond (is_some o) 1 0) None xs)
  free_from-total (Some x ∷ xs) i = omega (arith, free_from-total xs (suc i), sum_by-cons (λ (o : Option X). cond (is_some o) 1 0) (Some x) xs)

pub none_of : {X : Type 0} (o : Option X) → is_none o ≡ true → o ≡ None
none_of None is = refl
none_of (Some x) is = cc

pub some_of : {X : Type 0} (o : Option X) → is_none o ≡ false → (x : X) × (o ≡ Some x)
some_of None is = cc
some_of (Some x) is = (x, refl)

module _ {P T Inx Gen Word : Type 0} where
  pub map-take : (slots : List (ArenaSlot P T Inx Gen Word)) (k : ℕ) → map entry_of (take k slots) ≡ take k (map entry_of slots)
  map-take [] zero = refl
  map-take [] (suc k) = refl
  map-take (s ∷ slots) zero = refl
  map-take (s ∷ slots) (suc k) = ap (λ es. entry_of s ∷ es) (map-take slots k)

  pub cut_more : (slots : List (ArenaSlot P T Inx Gen Word)) (k n : ℕ) → k + 1 ≡ n → k < length slots → is_none (entry_in (slice_get slots k)) ≡ true → without_free_end (take n (map entry_of slots)) ≡ without_free_end (map entry_of slots)
      → without_free_end (take k (map entry_of slots)) ≡ without_free_end (map entry_of slots)
  cut_more slots k n at below free rest =
      let next : suc k ≡ n = omega (arith, at) in
      sym (without_free_end-cut (map entry_of slots) k (omega (arith, below, length-map slots entry_of)) (slice_index_or-map slots k ∙ none_of (entry_in (slice_get slots k)) free))
      ∙ (ap (λ m. without_free_end (take m (map entry_of slots))) next ∙ rest)

  pub cut_ends : (slots : List (ArenaSlot P T Inx Gen Word)) (k n : ℕ) → k + 1 ≡ n → is_none (entry_in (slice_get slots k)) ≡ false → without_free_end (take n (map entry_of slots)) ≡ without_free_end (map entry_of slots)
      → map entry_of (take n slots) ≡ without_free_end (map entry_of slots)
  cut_ends slots k n at taken rest =
      let next : suc k ≡ n = omega (arith, at) in
      let entry = some_of (entry_in (slice_get slots k)) taken in
      map-take slots n ∙ (ap (λ m. take m (map entry_of slots)) (sym next) ∙ (sym (without_free_end-ends (map entry_of slots) k entry.0 (slice_index_or-map slots k ∙ entry.1))
      ∙ (ap (λ m. without_free_end (take m (map entry_of slots))) next ∙ rest)))

  pub cut_all : (slots : List (ArenaSlot P T Inx Gen Word)) (n : ℕ) → n ≡ 0 → without_free_end (take n (map entry_of slots)) ≡ without_free_end (map entry_of slots) → map entry_of (take n slots) ≡ without_free_end (map entry_of slots)
  cut_all slots n none rest =
      map-take slots n ∙ (ap (λ m. take m (map entry_of slots)) none ∙ (ap (λ m. without_free_end (take m (map entry_of slots))) (sym none) ∙ rest))

module _ {P T Inx Gen Word : Type 0} (number : PackedOption Inx Word → Option ℕ) where
  -- The state of a listing down to position `k`.
  pub record IsListing (slots : List (ArenaSlot P T Inx Gen Word)) (entries : List (Option (Gen × T))) (k len : ℕ) (head : PackedOption Inx Word) : Type 0 where
    pub same : map entry_of slots ≡ entries
    pub linked : IsFreeList number slots (free_from (suc k) (drop k entries)) head
    pub counted : len ≡ count_by is_some (drop k entries)

  module _ {slots : List (ArenaSlot P T Inx Gen Word)} {entries : List (Option (Gen × T))} {n len : ℕ} {head : PackedOption Inx Word} (l : IsListing slots entries n len head) (k : ℕ) (at : suc k ≡ n) (below : k < length slots) where
    entry_there : slice_index_or entries k None ≡ entry_in (slice_get slots k)
    entry_there = ap (λ es. slice_index_or es k None) (sym l.same) ∙ slice_index_or-map slots k

    within : k < length entries
    within = omega (arith, below, length-map slots entry_of, ap length l.same)

    pub listing_counts : (e : Gen × T) → entry_in (slice_get slots k) ≡ Some e → IsListing slots entries k (len + 1) head
    listing_counts e is =
        let taken = drop-at entries k within ∙ ap (λ o. o ∷ drop (suc k) entries) (entry_there ∙ is) in
        let rest = ap (λ i. drop i entries) at in
        record {
          same = l.same;
          linked = subst (λ es. IsFreeList number slots (free_from (suc k) es) head) (sym taken)
              (subst (λ es. IsFreeList number slots (free_from (suc (suc k)) es) head) (sym rest) (subst (λ i. IsFreeList number slots (free_from (suc i) (drop n entries)) head) (sym at) l.linked));
          counted = omega (arith, l.counted, ap (count_by is_some) rest, ap (count_by is_some) taken, sum_by-cons (λ (o : Option (Gen × T)). cond (is_some o) 1 0) (Some e) (drop (suc k) entries));
        }

    pub listing_lists : (old first : PackedOption Inx Word) → slice_get slots k ≡ Some (free_slot old) → number first ≡ Some (suc k) → IsListing (slice_set slots k (free_slot head)) entries k len first
    listing_lists old first is names =
        let free = drop-at entries k within ∙ ap (λ o. o ∷ drop (suc k) entries) (entry_there ∙ ap entry_in is) in
        let rest = ap (λ i. drop i entries) at in
        let old_list = subst (λ es. IsFreeList number slots (free_from (suc (suc k)) es) head) (sym rest) (subst (λ i. IsFreeList number slots (free_from (suc i) (drop n entries)) head) (sym at) l.linked) in
        let out : IsMember (free_from (suc (suc k)) (drop (suc k) entries)) (suc k) → ⊥ = λ has. let more = free_from-above (drop (suc k) entries) (suc (suc k)) (suc k) has in absurd (omega (arith, more)) in
        record {
          same = map-set entry_of slots k (free_slot head) ∙ (unchanged (map entry_of slots) k (slice_index_or-map slots k ∙ ap entry_in is) ∙ l.same);
          linked = subst (λ es. IsFreeList number (slice_set slots k (free_slot head)) (free_from (suc k) es) first) (sym free)
              (head, names, slice_get-set-same slots k (free_slot head) (free_slot old) is, IsFreeList-set number slots k (free_slot head) (free_from (suc (suc k)) (drop (suc k) entries)) head out old_list);
          counted = omega (arith, l.counted, ap (count_by is_some) rest, ap (count_by is_some) free, sum_by-cons (λ (o : Option (Gen × T)). cond (is_some o) 1 0) None (drop (suc k) entries));
        }
      where
        unchanged : (es : List (Option (Gen × T))) (j : ℕ) → slice_index_or es j None ≡ None → slice_set es j None ≡ es
        unchanged [] j none = refl
        unchanged (e ∷ es) zero none = ap (λ o. o ∷ es) (sym none)
        unchanged (e ∷ es) (suc j) none = ap (λ fs. e ∷ fs) (unchanged es j none)

  pub listing_ends : {slots : List (ArenaSlot P T Inx Gen Word)} {entries : List (Option (Gen × T))} {len greatest : ℕ} {head : PackedOption Inx Word} → IsListing slots entries 0 len head → length slots ≤ greatest
      → IsSound number slots greatest len head (free_from 1 entries)
  listing_ends {slots = slots} {entries = entries} {len = len} l few =
      let counted : len ≡ count_by is_some entries = l.counted in
      record {
        linked = l.linked;
        apart = free_from-apart entries 1;
        covers = λ n next free. listed n next free;
        counted = counted ∙ ap (count_by is_some) (sym l.same);
        total = omega (arith, counted, free_from-total entries 1, ap length l.same, length-map slots entry_of);
        fits = few;
      }
    where
      listed : (n : ℕ) (next : PackedOption Inx Word) → item_at slots n ≡ Some (free_slot next) → IsMember (free_from 1 entries) n
      listed zero next free = cc
      listed (suc k) next free =
          let below = slice_get-below slots k (free_slot next) free in
          free_from-has entries 1 k (suc k) (omega arith) (omega (arith, below, length-map slots entry_of, ap length l.same))
          (ap (λ es. slice_index_or es k None) (sym l.same) ∙ (slice_index_or-map slots k ∙ ap entry_in free))

  pub listing_frees : {slots items : List (ArenaSlot P T Inx Gen Word)} {entries : List (Option (Gen × T))} {n len : ℕ} {head : PackedOption Inx Word} → IsListing slots entries n len head
      → (k : ℕ) (first : PackedOption Inx Word) → k + 1 ≡ n → k < length slots → is_none (entry_in (slice_get slots k)) ≡ true → number first ≡ Some (k + 1) → items ≡ slice_set slots k (free_slot head)
      → IsListing items entries k len first
  listing_frees {slots = slots} {entries = entries} {len = len} l k first at below free names written =
      let next : k + 1 ≡ suc k = omega arith in
      let slot = there slots k below in
      let old = free_of slot.0 (sym (ap entry_in slot.1) ∙ none_of (entry_in (slice_get slots k)) free) in
      subst (λ es. IsListing es entries k len first) (sym written)
      (listing_lists l k (omega (arith, at)) below old.0 first (slot.1 ∙ ap (λ s. Some s) old.1) (names ∙ ap (λ m. Some m) next))

  pub listing_takes : {slots : List (ArenaSlot P T Inx Gen Word)} {entries : List (Option (Gen × T))} {n len : ℕ} {head : PackedOption Inx Word} → IsListing slots entries n len head
      → (k : ℕ) → k + 1 ≡ n → k < length slots → is_none (entry_in (slice_get slots k)) ≡ false → IsListing slots entries k (len + 1) head
  listing_takes {slots = slots} l k at below taken =
      let entry = some_of (entry_in (slice_get slots k)) taken in
      listing_counts l k (omega (arith, at)) below entry.0 entry.1
