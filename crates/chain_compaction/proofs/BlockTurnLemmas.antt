-- The list of the positions of a block at which a link may still wait.
use Rattle.std.proofs.Common.{◌≡◌, ◌≢◌, ℕ, ◌+◌, ◌-◌, ◌<◌, ◌≤◌, ◌⊎◌, inl, inr, true, false, leb, List, length, slice_index, slice_set, Option, sym, ap, ◌∙◌, subst, arith}
use Rattle.std.proofs.lemmas.Bool.Decides.{leb_tells}
use Rattle.std.proofs.Math.Decide.{ℕ_discrete}
use Rattle.std.proofs.lemmas.List.{get_or-set_same, get_or-set_other}
use Rattle.std.proofs.Math.ListN.{length-set}
use Rattle.chain_compaction.specs.Permutations.{HasDestination, IsInBlock, ListsWaiting}

module _ {E : Type 0} (goal : E → Option ℕ) (start : ℕ) where
  module _ (positions : List ℕ) (k left i : ℕ) (now next : ℕ → Option E) (lists : ListsWaiting goal start k positions left now) (at : i ≡ (start + k) + 1)
      (stays : (j d : ℕ) (e : E) → (j ≢ i) → HasDestination goal next j e d → HasDestination goal now j e d) where
    before : (j : ℕ) → IsInBlock start (k + 1) j → j ≢ i → IsInBlock start k j
    before j in_block ne = let low : start < j = in_block.0 in let high : j ≤ start + (k + 1) = in_block.1 in (low, by (leb_tells j (start + k)))
      where
        by : ((leb j (start + k) ≡ true) × (j ≤ start + k)) ⊎ ((leb j (start + k) ≡ false) × (start + k < j)) → j ≤ start + k
        by (inl below) = below.1
        by (inr above) = let beyond : start + k < j = above.1 in let high : j ≤ start + (k + 1) = in_block.1 in let last : j ≡ i = omega arith in absurd (ne last)

    within_more : (p : ℕ) → p < left → (start ≤ slice_index positions p) × (slice_index positions p < start + (k + 1))
    within_more p low =
        let w = lists.within p low in
        let first : start ≤ slice_index positions p = w.0 in
        let last : slice_index positions p < start + k = w.1 in
        (first, omega arith)

    pub listing_skips : ((d : ℕ) (e : E) → HasDestination goal next i e d → ⊥) → ListsWaiting goal start (k + 1) positions left next
    listing_skips none = record {
      length = lists.length;
      few = (let few : left ≤ k = lists.few in omega arith);
      within = within_more;
      listed = λ j d e in_block w. by j d e in_block w (ℕ_discrete j i);
    }
      where
        by : (j d : ℕ) (e : E) → IsInBlock start (k + 1) j → HasDestination goal next j e d → Dec (j ≡ i) → (p : ℕ) × (p < left) × (j ≡ slice_index positions p + 1)
        by j d e in_block w (yes t) = absurd (none d e (subst (λ (x : ℕ). HasDestination goal next x e d) t w))
        by j d e in_block w (no n) = lists.listed j d e (before j in_block n) (stays j d e n w)

    module _ (fits : k < 64) where
      abbrev added : List ℕ
      added = slice_set positions left (start + k)

      added_at : slice_index added left ≡ start + k
      added_at = get_or-set_same positions left (start + k) 0 (let l : length positions ≡ 64 = lists.length in let few : left ≤ k = lists.few in omega arith)

      added_other : (p : ℕ) → p < left → slice_index added p ≡ slice_index positions p
      added_other p low = get_or-set_other positions left p (start + k) 0 (λ same. let equal : p ≡ left = same in omega arith)

      pub listing_grows : ListsWaiting goal start (k + 1) added (left + 1) next
      listing_grows = record {
        length = length-set positions left (start + k) ∙ lists.length;
        few = (let few : left ≤ k = lists.few in omega arith);
        within = λ p less. kept p less (ℕ_discrete p left);
        listed = λ j d e in_block w. by j d e in_block w (ℕ_discrete j i);
      }
        where
          kept : (p : ℕ) → p < left + 1 → Dec (p ≡ left) → (start ≤ slice_index added p) × (slice_index added p < start + (k + 1))
          kept p less (yes t) = let is : slice_index added p ≡ start + k = ap (slice_index added) t ∙ added_at in (omega arith, omega arith)
          kept p less (no n) = subst (λ (x : ℕ). (start ≤ x) × (x < start + (k + 1))) (sym (added_other p (omega arith))) (within_more p (omega arith))

          by : (j d : ℕ) (e : E) → IsInBlock start (k + 1) j → HasDestination goal next j e d → Dec (j ≡ i) → (p : ℕ) × (p < left + 1) × (j ≡ slice_index added p + 1)
          by j d e in_block w (yes t) = (left, omega arith, t ∙ (at ∙ ap (λ (x : ℕ). x + 1) (sym added_at)))
          by j d e in_block w (no n) = let was = lists.listed j d e (before j in_block n) (stays j d e n w) in (was.0, omega (arith, was.1), was.2 ∙ ap (λ (x : ℕ). x + 1) (sym (added_other was.0 was.1)))

module _ {E : Type 0} (goal : E → Option ℕ) (start count : ℕ) where
  module _ (positions : List ℕ) (left turn i : ℕ) (now next : ℕ → Option E) (lists : ListsWaiting goal start count positions left now) (low : turn < left) (at : i ≡ slice_index positions turn + 1)
      (stays : (j d : ℕ) (e : E) → (j ≢ i) → HasDestination goal next j e d → HasDestination goal now j e d) where
    pub turn_in_block : IsInBlock start count i
    turn_in_block =
        let w : (start ≤ slice_index positions turn) × (slice_index positions turn < start + count) = lists.within turn low in
        let first : start ≤ slice_index positions turn = w.0 in
        let last : slice_index positions turn < start + count = w.1 in
        (omega arith, omega arith)

    pub listing_stays : ListsWaiting goal start count positions left next
    listing_stays = record { length = lists.length; few = lists.few; within = lists.within; listed = λ j d e in_block w. by j d e in_block w (ℕ_discrete j i) }
      where
        by : (j d : ℕ) (e : E) → IsInBlock start count j → HasDestination goal next j e d → Dec (j ≡ i) → (p : ℕ) × (p < left) × (j ≡ slice_index positions p + 1)
        by j d e in_block w (yes t) = (turn, low, t ∙ at)
        by j d e in_block w (no n) = lists.listed j d e in_block (stays j d e n w)

    module _ (fewer : ℕ) (one_less : fewer + 1 ≡ left) (all : count ≤ 64) (none : (d : ℕ) (e : E) → HasDestination goal next i e d → ⊥) where
      abbrev replaced : List ℕ
      replaced = slice_set positions turn (slice_index positions fewer)

      within_list : turn < length positions
      within_list = let l : length positions ≡ 64 = lists.length in let few : left ≤ count = lists.few in omega arith

      replaced_at : slice_index replaced turn ≡ slice_index positions fewer
      replaced_at = get_or-set_same positions turn (slice_index positions fewer) 0 within_list

      replaced_other : (p : ℕ) → p ≢ turn → slice_index replaced p ≡ slice_index positions p
      replaced_other p ne = get_or-set_other positions turn p (slice_index positions fewer) 0 ne

      pub listing_shrinks : ListsWaiting goal start count replaced fewer next
      listing_shrinks = record {
        length = length-set positions turn (slice_index positions fewer) ∙ lists.length;
        few = (let few : left ≤ count = lists.few in omega arith);
        within = λ p less. kept p less (ℕ_discrete p turn);
        listed = λ j d e in_block w. by j d e in_block w (ℕ_discrete j i);
      }
        where
          kept : (p : ℕ) → p < fewer → Dec (p ≡ turn) → (start ≤ slice_index replaced p) × (slice_index replaced p < start + count)
          kept p less (yes t) =
              let is : slice_index replaced p ≡ slice_index positions fewer = ap (slice_index replaced) t ∙ replaced_at in
              subst (λ (x : ℕ). (start ≤ x) × (x < start + count)) (sym is) (lists.within fewer (omega arith))
          kept p less (no n) = subst (λ (x : ℕ). (start ≤ x) × (x < start + count)) (sym (replaced_other p n)) (lists.within p (omega arith))

          found : (j p : ℕ) → j ≢ i → p < left → j ≡ slice_index positions p + 1 → Dec (p ≡ fewer) → Dec (p ≡ turn) → (q : ℕ) × (q < fewer) × (j ≡ slice_index replaced q + 1)
          found j p ne less is last (yes t) = absurd (ne (is ∙ (ap (λ (x : ℕ). slice_index positions x + 1) t ∙ sym at)))
          found j p ne less is (yes t) (no n) = (turn, omega arith, is ∙ (ap (λ (x : ℕ). slice_index positions x + 1) t ∙ ap (λ (x : ℕ). x + 1) (sym replaced_at)))
          found j p ne less is (no m) (no n) = (p, omega arith, is ∙ ap (λ (x : ℕ). x + 1) (sym (replaced_other p n)))

          by : (j d : ℕ) (e : E) → IsInBlock start count j → HasDestination goal next j e d → Dec (j ≡ i) → (q : ℕ) × (q < fewer) × (j ≡ slice_index replaced q + 1)
          by j d e in_block w (yes t) = absurd (none d e (subst (λ (x : ℕ). HasDestination goal next x e d) t w))
          by j d e in_block w (no n) = let was = lists.listed j d e in_block (stays j d e n w) in found j was.0 n was.1 was.2 (ℕ_discrete was.0 fewer) (ℕ_discrete was.0 turn)

  pub listing_ends : (positions : List ℕ) (left : ℕ) (now : ℕ → Option E) → ListsWaiting goal start count positions left now → left ≡ 0 → (j d : ℕ) (e : E) → IsInBlock start count j → HasDestination goal now j e d → ⊥
  listing_ends positions left now lists none j d e in_block w = let was = lists.listed j d e in_block w in let low : was.0 < left = was.1 in omega arith

pub sum_decreases-moved : (wait less left : ℕ) → less + 1 ≡ wait → less + left < wait + left
sum_decreases-moved wait less left is = omega arith

pub sum_decreases-shortened : (wait less moved left : ℕ) → less + moved ≡ wait → 0 < left → less + (left - 1) < wait + left
sum_decreases-shortened wait less moved left is some = omega arith

pub sum_decreases-round : (wait was_read less left rest : ℕ) → was_read ≡ wait → rest ≤ left → rest + less ≤ was_read → 0 < left → less + rest < wait + left
sum_decreases-round wait was_read less left rest same fewer moved some = omega arith

pub touches_add : (k left : ℕ) → (k - left) + 0 ≡ (k + 1) - (left + 1)
touches_add k left = omega arith

pub touches_skip : (k left : ℕ) → left ≤ k → (k - left) + 1 ≡ (k + 1) - left
touches_skip k left few = omega arith

pub touches_stay : (count left : ℕ) → (count - left) + 0 ≡ count - left
touches_stay count left = omega arith

pub touches_continue : (count left : ℕ) → 0 < left → left ≤ count → (count - left) + 1 ≡ count - (left - 1)
touches_continue count left some few = omega arith

pub touches_round : (count left rest : ℕ) → left ≤ count → rest ≤ left → (count - left) + (left - rest) ≡ count - rest
touches_round count left rest few fewer = omega arith

pub none_more : (left : ℕ) → 0 ≡ left - left
none_more left = omega arith

pub one_less_left : (left : ℕ) → 0 < left → (left - 1) + 1 ≡ left
one_less_left left some = omega arith

pub none_left : (left : ℕ) → left ≤ 0 → left ≡ 0
none_left left none = omega arith

pub below_bound : (position end len greatest : ℕ) → position < end → end ≤ len → len ≤ greatest → position < greatest
below_bound position end len greatest low fits high = omega arith

pub turn_within : (turn left count : ℕ) → turn < left → left ≤ count → count ≤ 64 → turn < 64
turn_within turn left count low few all = omega arith

pub next_in_block : (start count k i : ℕ) → i ≡ (start + k) + 1 → k < count → IsInBlock start count i
next_in_block start count k i at low = (omega (arith, at), omega (arith, at, low))

pub below_64 : (k count : ℕ) → k < count → count ≤ 64 → k < 64
below_64 k count low all = omega (arith, low, all)
