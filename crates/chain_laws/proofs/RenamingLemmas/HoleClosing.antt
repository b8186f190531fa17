-- Links moved to the indexes from 1 on, in ascending order, step by step.
use Rattle.std.proofs.Common.{◌≡◌, ◌≢◌, ℕ, ◌+◌, ◌<◌, ◌≤◌, ◌⊎◌, inl, inr, List, [], ◌∷◌, ◌++◌, length, Option, None, Some, refl, sym, ap, ap₂, ◌∙◌, subst, length-append, arith}
use Rattle.std.specs.Prelude.{if◌then◌else◌}
use Rattle.std.specs.Option.{option_map, option_and_then}
use Rattle.std.proofs.Math.Decide.{ℕ_discrete}
use Rattle.std.proofs.lemmas.Bool.{cases_lt, le-leb, lt-leb}
use Rattle.chain_laws.specs.Chains.{LinkMap, Interlinks, IsMember, HasLink, HasLinksWithin, IsWellLinked, prev_in, next_in}
use Rattle.chain_laws.specs.Renamings.{IsRenaming}
use Rattle.chain_laws.specs.Arrangements.{place_in}
use Rattle.chain_laws.specs.Moves.{moved_index, with_link_moved, CanMove, index_after_move, gathered_place, IsGathering, GatheringBegins, GatheringSkips, GatheringContinues, GatheringEnds}
use Rattle.chain_laws.proofs.ListLemmas.Members.{IsMember-left, IsMember-middle, IsMember-parts, IsMember-or_not, AreDistinct-append}
use Rattle.chain_laws.proofs.ChainLemmas.LinkedLists.{link, reports_valid}
use Rattle.chain_laws.proofs.InterlinkLemmas.Inverses.{not_both_ways}
use Rattle.chain_laws.proofs.InterlinkLemmas.Linked.{IsValidAt}
use Rattle.chain_laws.proofs.RenamingLemmas.Chains.{valid_renamed, renaming-same, renaming_agrees, renamings_compose}
use Rattle.chain_laws.proofs.RenamingLemmas.Positions.{place-within, place-has, has-place, place-none, place-last, place-before_last}
use Rattle.chain_laws.proofs.RenamingLemmas.Moves.{moved_index-same, moved_index-other, sent-valid, sent-from, next_named, prev_named, move_renames}

pub gathered_place-low : (link_map : LinkMap) (done : List ℕ) (k i : ℕ) → i ≤ k → gathered_place link_map done k i ≡ place_in done i
gathered_place-low link_map done k i low = ap (λ t. if t then place_in done i else option_map (λ _. i) (link_map i)) (le-leb i k low)

pub gathered_place-high : (link_map : LinkMap) (done : List ℕ) (k i : ℕ) → k < i → gathered_place link_map done k i ≡ option_map (λ _. i) (link_map i)
gathered_place-high link_map done k i high = ap (λ t. if t then place_in done i else option_map (λ _. i) (link_map i)) (lt-leb i k high)

abbrev gathered_on : LinkMap → LinkMap → List ℕ → ℕ → ℕ → Option ℕ
gathered_on old now done k i = option_and_then (index_after_move now (k + 1) (length done + 1)) (gathered_place old done k i)

module _ (old now : LinkMap) (done : List ℕ) (k : ℕ) (gathering : IsGathering old now done k) where
  holds_low : (i : ℕ) → IsMember done i → i ≤ k
  holds_low i h = ((gathering.holds i).0 h).1

  gathered_from : (i m : ℕ) → gathered_place old done k i ≡ Some m → HasLink old i
  gathered_from i m e = by (cases_lt k i)
    where
      by : (k < i) ⊎ (i ≤ k) → HasLink old i
      by (inl high) = (sent-from old i i m (sym (gathered_place-high old done k i high) ∙ e)).0
      by (inr low) = ((gathering.holds i).0 (place-has 1 done i m (sym (gathered_place-low old done k i low) ∙ e))).0

  skipped_same : old (k + 1) ≡ None → (i : ℕ) → gathered_place old done k i ≡ gathered_place old done (k + 1) i
  skipped_same free i = by (cases_lt k i) (ℕ_discrete i (k + 1))
    where
      not_held : i ≡ k + 1 → IsMember done i → ⊥
      not_held e h = let low : i ≤ k = holds_low i h in omega arith

      by : (k < i) ⊎ (i ≤ k) → Dec (i ≡ k + 1) → gathered_place old done k i ≡ gathered_place old done (k + 1) i
      by (inl high) (yes e) =
          gathered_place-high old done k i high
          ∙ (ap (option_map (λ _. i)) (ap old e ∙ free)
          ∙ (sym (place-none 1 done i (not_held e)) ∙ sym (gathered_place-low old done (k + 1) i (omega arith))))
      by (inl high) (no differs) = gathered_place-high old done k i high ∙ sym (gathered_place-high old done (k + 1) i (omega arith))
      by (inr low) at = gathered_place-low old done k i low ∙ sym (gathered_place-low old done (k + 1) i (omega arith))

  skipped : old (k + 1) ≡ None → IsGathering old now done (k + 1)
  skipped free = record {
    renamed = renaming-same (gathered_place old done k) (gathered_place old done (k + 1)) old now (skipped_same free) gathering.renamed;
    once = gathering.once;
    holds = λ i. (held i, holds i);
    below = (let b : length done ≤ k = gathering.below in omega arith);
  }
    where
      held : (i : ℕ) → IsMember done i → HasLink old i × (i ≤ k + 1)
      held i h = let w = (gathering.holds i).0 h in let low : i ≤ k = w.1 in (w.0, omega arith)

      holds : (i : ℕ) → HasLink old i × (i ≤ k + 1) → IsMember done i
      holds i w = by (ℕ_discrete i (k + 1))
        where
          by : Dec (i ≡ k + 1) → IsMember done i
          by (yes e) = absurd (not_both_ways (old i) w.0.link (ap old e ∙ free) w.0.links)
          by (no differs) = let low : i ≤ k + 1 = w.1 in (gathering.holds i).1 (w.0, omega arith)

  ended : HasLinksWithin old k → IsRenaming (place_in done) old now
  ended within = renaming-same (gathered_place old done k) (place_in done) old now same gathering.renamed
    where
      none : (i : ℕ) (o : Option Interlinks) → old i ≡ o → k < i → option_map (λ _. i) o ≡ place_in done i
      none i None is high = sym (place-none 1 done i (λ h. let low : i ≤ k = holds_low i h in omega arith))
      none i (Some l) is high = let w = within.within i (reports_valid old i l is) in let low : i ≤ k = w.1 in absurd (omega arith)

      same : (i : ℕ) → gathered_place old done k i ≡ place_in done i
      same i = by (cases_lt k i)
        where
          by : (k < i) ⊎ (i ≤ k) → gathered_place old done k i ≡ place_in done i
          by (inl high) = gathered_place-high old done k i high ∙ none i (old i) refl high
          by (inr low) = gathered_place-low old done k i low

  module _ (agrees : IsWellLinked old) (valid : HasLink old (k + 1)) where
    here : gathered_place old done k (k + 1) ≡ Some (k + 1)
    here = gathered_place-high old done k (k + 1) (omega arith) ∙ ap (option_map (λ _. k + 1)) valid.links

    free : (length done + 1 ≡ k + 1) ⊎ (now (length done + 1) ≡ None)
    free = by (ℕ_discrete (length done + 1) (k + 1)) (now (length done + 1)) refl
      where
        below : length done ≤ k
        below = gathering.below

        none : (i : ℕ) → gathered_place old done k i ≡ Some (length done + 1) → length done + 1 ≢ k + 1 → ⊥
        none i e differs = at (cases_lt k i)
          where
            at : (k < i) ⊎ (i ≤ k) → ⊥
            at (inl high) =
                let same : i ≡ length done + 1 = (sent-from old i i (length done + 1) (sym (gathered_place-high old done k i high) ∙ e)).1 in
                omega arith
            at (inr low) =
                let w = place-within 1 done i (length done + 1) (sym (gathered_place-low old done k i low) ∙ e) in
                let high : length done + 1 < 1 + length done = w.1 in
                omega arith

        by : Dec (length done + 1 ≡ k + 1) → (o : Option Interlinks) → now (length done + 1) ≡ o → (length done + 1 ≡ k + 1) ⊎ (now (length done + 1) ≡ None)
        by (yes e) o is = inl e
        by (no differs) None is = inr is
        by (no differs) (Some l) is =
            let i = gathering.renamed.onto (length done + 1) (reports_valid now (length done + 1) l is) in
            absurd (none i.0 i.2 differs)

    can_move : CanMove now (k + 1) (length done + 1)
    can_move = record { valid = valid_renamed (gathered_place old done k) old now gathering.renamed (k + 1) (k + 1) valid here; free = free }

    agrees_now : IsWellLinked now
    agrees_now = renaming_agrees (gathered_place old done k) old now gathering.renamed agrees

    moved_on : (i m : ℕ) → gathered_place old done k i ≡ Some m → gathered_on old now done k i ≡ Some (moved_index (k + 1) (length done + 1) m)
    moved_on i m e =
        ap (option_and_then (index_after_move now (k + 1) (length done + 1))) e
        ∙ sent-valid now m (moved_index (k + 1) (length done + 1) m) (valid_renamed (gathered_place old done k) old now gathering.renamed i m (gathered_from i m e) e)

    moved_past : (i m : ℕ) → gathered_place old done k i ≡ Some m → m ≢ k + 1 → gathered_on old now done k i ≡ Some m
    moved_past i m e differs = moved_on i m e ∙ ap Some (moved_index-other (k + 1) (length done + 1) m differs)

    moved_nowhere : (i : ℕ) → gathered_place old done k i ≡ None → gathered_on old now done k i ≡ None
    moved_nowhere i e = ap (option_and_then (index_after_move now (k + 1) (length done + 1))) e

    not_held : IsMember done (k + 1) → ⊥
    not_held h = let low : k + 1 ≤ k = holds_low (k + 1) h in omega arith

    moved_same : (i : ℕ) → gathered_on old now done k i ≡ gathered_place old (done ++ (k + 1) ∷ []) (k + 1) i
    moved_same i = by (cases_lt k i) (ℕ_discrete i (k + 1))
      where
        low_held : i ≤ k → IsMember done i ⊎ (IsMember done i → ⊥) → gathered_on old now done k i ≡ place_in done i
        low_held low (inl h) =
            let m = has-place 1 done i h in
            let w = place-within 1 done i m.0 m.1 in
            let high : m.0 < 1 + length done = w.1 in
            let below : length done ≤ k = gathering.below in
            moved_past i m.0 (gathered_place-low old done k i low ∙ m.1) (λ e. omega arith) ∙ sym m.1
        low_held low (inr not) =
            moved_nowhere i (gathered_place-low old done k i low ∙ place-none 1 done i not) ∙ sym (place-none 1 done i not)

        high_link : k < i → i ≢ k + 1 → (o : Option Interlinks) → old i ≡ o → gathered_on old now done k i ≡ option_map (λ _. i) o
        high_link high differs None is = moved_nowhere i (gathered_place-high old done k i high ∙ ap (option_map (λ _. i)) is)
        high_link high differs (Some l) is = moved_past i i (gathered_place-high old done k i high ∙ ap (option_map (λ _. i)) is) differs

        by : (k < i) ⊎ (i ≤ k) → Dec (i ≡ k + 1) → gathered_on old now done k i ≡ gathered_place old (done ++ (k + 1) ∷ []) (k + 1) i
        by (inl high) (yes e) =
            moved_on i (k + 1) (ap (gathered_place old done k) e ∙ here)
            ∙ (ap Some (moved_index-same (k + 1) (length done + 1) (k + 1) refl)
            ∙ (sym (place-last done (k + 1) not_held)
            ∙ (ap (place_in (done ++ (k + 1) ∷ [])) (sym e) ∙ sym (gathered_place-low old (done ++ (k + 1) ∷ []) (k + 1) i (omega arith)))))
        by (inl high) (no differs) =
            high_link high differs (old i) refl ∙ sym (gathered_place-high old (done ++ (k + 1) ∷ []) (k + 1) i (omega arith))
        by (inr low) at =
            low_held low (IsMember-or_not done i)
            ∙ (sym (place-before_last done (k + 1) i (λ e. omega arith)) ∙ sym (gathered_place-low old (done ++ (k + 1) ∷ []) (k + 1) i (omega arith)))

    gone : IsGathering old (with_link_moved now (k + 1) (length done + 1)) (done ++ (k + 1) ∷ []) (k + 1)
    gone = record {
      renamed =
          renaming-same (gathered_on old now done k) (gathered_place old (done ++ (k + 1) ∷ []) (k + 1)) old (with_link_moved now (k + 1) (length done + 1)) moved_same
          (renamings_compose (gathered_place old done k) (index_after_move now (k + 1) (length done + 1)) old now (with_link_moved now (k + 1) (length done + 1)) gathering.renamed
          (move_renames now (k + 1) (length done + 1) agrees_now can_move));
      once = AreDistinct-append done ((k + 1) ∷ []) gathering.once ((λ h. h), tt) apart;
      holds = λ i. (held i, holds i);
      below = (let b : length done ≤ k = gathering.below in let l : length (done ++ (k + 1) ∷ []) ≡ length done + 1 = length-append done ((k + 1) ∷ []) in omega arith);
    }
      where
        apart : (y : ℕ) → IsMember done y → IsMember ((k + 1) ∷ []) y → ⊥
        apart y h (inl e) = not_held (subst (IsMember done) (sym e) h)
        apart y h (inr n) = n

        held_in : (i : ℕ) → IsMember done i ⊎ IsMember ((k + 1) ∷ []) i → HasLink old i × (i ≤ k + 1)
        held_in i (inl h) = let w = (gathering.holds i).0 h in let low : i ≤ k = w.1 in (w.0, omega arith)
        held_in i (inr (inl e)) = (subst (HasLink old) e valid, omega arith)
        held_in i (inr (inr n)) = absurd n

        held : (i : ℕ) → IsMember (done ++ (k + 1) ∷ []) i → HasLink old i × (i ≤ k + 1)
        held i h = held_in i (IsMember-parts done ((k + 1) ∷ []) i h)

        holds : (i : ℕ) → HasLink old i × (i ≤ k + 1) → IsMember (done ++ (k + 1) ∷ []) i
        holds i w = by (ℕ_discrete i (k + 1))
          where
            by : Dec (i ≡ k + 1) → IsMember (done ++ (k + 1) ∷ []) i
            by (yes e) = subst (IsMember (done ++ (k + 1) ∷ [])) (sym e) (IsMember-middle done [] (k + 1))
            by (no differs) = let low : i ≤ k + 1 = w.1 in IsMember-left done ((k + 1) ∷ []) i ((gathering.holds i).1 (w.0, omega arith))

pub rests : (link_map : LinkMap) → IsWellLinked link_map → IsRenaming (λ i. option_map (λ _. i) (link_map i)) link_map link_map
rests link_map agrees = record {
  apart = λ i j k e f. (sent-from link_map i i k e).1 ∙ sym (sent-from link_map j j k f).1;
  each = λ i valid. (i, sent-valid link_map i i valid);
  onto = λ i valid. (i, valid, sent-valid link_map i i valid);
  carries = λ i k u v links e.
      ap link_map (sym (sent-from link_map i i k e).1)
      ∙ (links
      ∙ ap₂ (λ (o p : Option ℕ). Some (link o p)) (stays u (λ q s. prev_named link_map i agrees q (ap prev_in links ∙ s))) (stays v (λ q s. next_named link_map i agrees q (ap next_in links ∙ s))));
}
  where
    stays : (o : Option ℕ) → IsValidAt link_map o → o ≡ option_and_then (λ i. option_map (λ _. i) (link_map i)) o
    stays None valid = refl
    stays (Some q) valid = sym (sent-valid link_map q q (valid q refl))

pub gathering_begins : GatheringBegins
gathering_begins link_map slots agrees within = record {
  renamed = renaming-same (λ i. option_map (λ _. i) (link_map i)) (gathered_place link_map [] 0) link_map link_map same (rests link_map agrees);
  once = tt;
  holds = λ i. (λ h. absurd h, λ w. none i w.0 w.1);
  below = omega arith;
}
  where
    none : (i : ℕ) → HasLink link_map i → i ≤ 0 → ⊥
    none i valid low = let w = within.within i valid in let high : 1 ≤ i = w.0 in omega arith

    unsent : (i : ℕ) (o : Option Interlinks) → link_map i ≡ o → i ≤ 0 → option_map (λ _. i) o ≡ None
    unsent i None is low = refl
    unsent i (Some l) is low = absurd (none i (reports_valid link_map i l is) low)

    same : (i : ℕ) → option_map (λ _. i) (link_map i) ≡ gathered_place link_map [] 0 i
    same i = by (cases_lt 0 i)
      where
        by : (0 < i) ⊎ (i ≤ 0) → option_map (λ _. i) (link_map i) ≡ gathered_place link_map [] 0 i
        by (inl high) = sym (gathered_place-high link_map [] 0 i high)
        by (inr low) = unsent i (link_map i) refl low ∙ sym (gathered_place-low link_map [] 0 i low)

pub gathering_skips : GatheringSkips
gathering_skips old now done k gathering free = skipped old now done k gathering free

pub gathering_continues : GatheringContinues
gathering_continues old now done k agrees gathering valid =
    (agrees_now old now done k gathering agrees valid, can_move old now done k gathering agrees valid, gone old now done k gathering agrees valid)

pub gathering_ends : GatheringEnds
gathering_ends old now done slots within gathering = ended old now done slots gathering within
