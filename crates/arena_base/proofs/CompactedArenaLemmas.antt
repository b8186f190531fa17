-- The arena after its entries were compacted.
use Rattle.std.proofs.Common.{◌≡◌, ℕ, zero, suc, ◌+◌, ◌≤◌, List, [], ◌∷◌, map, length, Bool, Option, None, Some, refl, ap, sym, ◌∙◌, subst, arith}
use Rattle.std.specs.Prelude.{min, replicate, All}
use Rattle.std.specs.List.{range_with_len}
use Rattle.std.specs.Fn.{Mut}
use Rattle.std.proofs.lemmas.List.Elements.{All-nil, All-cons}
use denote.Ref.{MutBor}
use Rattle.arena_traits.specs.Arena.{Arena, with_counter}
use Rattle.arena_traits.specs.Entries.{entries_from, entries, index_of, view_of}
use Rattle.arena_base.specs.DetachedSlots.{DetachedView, before_cut, without_free_end, free_from, detached_of, arena_without_slots, arena_after_return}
use Rattle.arena_traits.specs.Compressions.{IsCompressed, VisitsAll, counter_after_compression}
use Rattle.arena_base.specs.GatheredSlots.{with_front, AreClosed, IsGathered, with_totals, arena_of_values}
use Rattle.arena_base.proofs.HoleClosingLemmas.{entries-closed, length-with_front}
use Rattle.arena_base.proofs.TrimLemmas.{free_from-total}
use Rattle.arena_traits.proofs.ArenaViewLemmas.{length-entries}
use Rattle.arena_traits.proofs.ClosureLemmas.{visits_keep_count}

module _ {Gen T : Type 0} (g : Gen) where
  without_free_end-closed : (values : List T) (n : ℕ) → without_free_end (with_front g values (replicate n None)) ≡ with_front g values []
  without_free_end-closed [] zero = refl
  without_free_end-closed [] (suc n) = ap (before_cut None) (without_free_end-closed [] n)
  without_free_end-closed (v ∷ values) n = ap (λ (es : List (Option (Gen × T))). Some (g, v) ∷ es) (without_free_end-closed values n)

  pub length-slots : (values : List T) → length (with_front g values []) ≡ length values
  length-slots [] = refl
  length-slots (v ∷ values) = ap suc (length-slots values)

  none_free : (values : List T) (i : ℕ) → free_from i (with_front g values []) ≡ []
  none_free [] i = refl
  none_free (v ∷ values) i = none_free values (suc i)

  pub indexes-with_front : (values : List T) (i : ℕ) → map index_of (entries_from i (with_front g values [])) ≡ range_with_len i (length values)
  indexes-with_front [] i = refl
  indexes-with_front (v ∷ values) i = ap (λ ns. i ∷ ns) (indexes-with_front values (suc i) ∙ ap (λ n. range_with_len n (length values)) (next i))
    where
      next : (n : ℕ) → suc n ≡ n + 1
      next n = omega arith

  pub generations-with_front : (values : List T) (i : ℕ) → All (λ (e : (ℕ × Gen) × T). e.0.1 ≡ g) (entries_from i (with_front g values []))
  generations-with_front [] i = All-nil _
  generations-with_front (v ∷ values) i = All-cons (λ (e : (ℕ × Gen) × T). e.0.1 ≡ g) ((i, g), v) (entries_from (suc i) (with_front g values [])) refl (generations-with_front values (suc i))

module _ {F P T Gen : Type 0} (g : Mut F (P × (MutBor T × (P × Unit {0}))) (Unit {0} × (MutBor T × Unit {0}))) (key : P → ℕ × Gen) (f : F) where
  pub gathers : (greatest : ℕ) (maximum : Option ℕ) (generation : Gen) (old start finish new : Arena Gen T) (before after : DetachedView Gen T) → start ≡ arena_without_slots maximum old → before ≡ detached_of old → old.capacity ≡ min old.stack_capacity greatest
      → generation ≡ old.counter → AreClosed generation before after → VisitsAll g key f (entries_from 1 before.slots) (entries_from 1 after.slots)
      → finish ≡ with_totals start (length (entries_from 1 before.slots)) (length before.slots + length (entries_from 1 before.slots)) → new ≡ arena_after_return greatest finish after
      → IsGathered g key f old new
  gathers greatest maximum generation old start finish new before after is_start is_before same_capacity counter closed visits totals is_new =
      record { values = values; arena = whole; visits = view_after }
    where
      values : List T
      values = closed.values

      closed_slots : List (Option (Gen × T))
      closed_slots = with_front old.counter values (replicate closed.free None)

      is_after : after ≡ record (detached_of old) { slots = closed_slots }
      is_after = closed.detached ∙ (λ i. let r : DetachedView Gen T = record (is_before i) { slots = with_front (counter i) values (replicate closed.free None) } in r)

      counted : length (entries_from 1 before.slots) ≡ length values
      counted =
          sym (visits_keep_count g key visits) ∙ (ap (λ (h : DetachedView Gen T). length (entries_from 1 h.slots)) is_after
          ∙ (ap length (entries-closed old.counter values closed.free 1) ∙ length-with_front old.counter values 1))

      whole : new ≡ arena_of_values old values
      whole =
          is_new ∙ (ap (λ (h : DetachedView Gen T). arena_after_return greatest finish h) is_after
          ∙ (ap (λ (a : Arena Gen T). arena_after_return greatest a (record (detached_of old) { slots = closed_slots })) (totals ∙ ap (λ (a : Arena Gen T). with_totals a (length (entries_from 1 before.slots)) (length before.slots + length (entries_from 1 before.slots))) is_start)
          ∙ (λ i. record old {
            slots = without_free_end-closed old.counter values closed.free i;
            freed = (ap (free_from 1) (without_free_end-closed old.counter values closed.free) ∙ none_free old.counter values 1) i;
            capacity = sym same_capacity i;
            placed = old.placed + counted i;
            touched = old.touched + (length (is_before i).slots + counted i);
          })))

      view_after : VisitsAll g key f (entries old) (entries new)
      view_after = subst (λ (p : List ((ℕ × Gen) × T) × List ((ℕ × Gen) × T)). VisitsAll g key f p.0 p.1) (λ i. (ap (λ (h : DetachedView Gen T). entries_from 1 h.slots) is_before i, same i)) visits
        where
          same : entries_from 1 after.slots ≡ entries new
          same = ap (λ (h : DetachedView Gen T). entries_from 1 h.slots) is_after ∙ (entries-closed old.counter values closed.free 1 ∙ sym (ap entries whole))

pub few_entries : {Gen T : Type 0} (a : Arena Gen T) → length (entries a) ≤ length a.slots
few_entries a = omega (arith, length-entries a, free_from-total a.slots 1)

module _ {F P T Gen : Type 0} (g : Mut F (P × (MutBor T × (P × Unit {0}))) (Unit {0} × (MutBor T × Unit {0}))) (key : P → ℕ × Gen) (f : F) where
  module _ (counter : Gen) (old mid new : Arena Gen T) (is_mid : mid ≡ with_counter old counter) (gathering : IsGathered g key f mid new) where
    abbrev values : List T
    values = gathering.values

    abbrev after : Arena Gen T
    after = arena_of_values (with_counter old counter) values

    is_new : new ≡ after
    is_new = gathering.arena ∙ ap (λ (a : Arena Gen T). arena_of_values a values) is_mid

    counted : length values ≡ length (entries old)
    counted =
        sym (length-with_front counter values 1) ∙ (ap (λ (a : Arena Gen T). length (entries a)) (sym is_new)
        ∙ (visits_keep_count g key gathering.visits ∙ ap (λ (a : Arena Gen T). length (entries a)) is_mid))

    pub compressing_visits : VisitsAll g key f (entries old) (entries new)
    compressing_visits = subst (λ es. VisitsAll g key f es (entries new)) (ap (λ (a : Arena Gen T). entries a) is_mid) gathering.visits

    pub compressing : (first : Gen) (following : Gen → Gen) (reset : Bool) (count : ℕ) → counter ≡ counter_after_compression first following reset count old.counter → count ≡ length (entries old)
        → IsCompressed first following reset (view_of old) (view_of new)
    compressing first following reset count is_counter is_count =
        subst (λ (a : Arena Gen T). IsCompressed first following reset (view_of old) (view_of a)) (sym is_new) (record {
          indexes = indexes-with_front counter values 1 ∙ ap (range_with_len 1) counted;
          counter = ap (λ (h : Gen). Some h) (is_counter ∙ ap (λ n. counter_after_compression first following reset n old.counter) is_count);
          generation = counter;
          generations = generations-with_front counter values 1;
          is_counter = refl;
          slots = record {
            count = length-slots counter values ∙ counted;
            freed = refl;
            placed = ap (λ n. old.placed + n) counted;
            touches = length old.slots + length values;
            few = omega (arith, counted, few_entries old);
            touched = refl;
          };
          capacity = refl;
          maximum = refl;
        })
