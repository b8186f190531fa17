-- Effects of writes, placements and reads on the links that a compactor holds.
use Rattle.std.proofs.Common.{◌≡◌, ◌≢◌, ℕ, zero, suc, ◌+◌, ◌≤◌, ◌⊎◌, inl, inr, List, length, map, true, Option, None, Some, refl, ap, ap₂, sym, ◌∙◌, arith}
use Rattle.std.specs.Prelude.{is_some, ◌==◌, if◌then◌else◌}
use Rattle.std.specs.Option.{option_map}
use Rattle.std.proofs.Math.Decide.{ℕ_discrete}
use Rattle.std.proofs.Math.Seq.{map-set_same}
use mathlib.Core.Path.{fun_ext}
use Rattle.chain_laws.specs.Chains.{LinkMap, Interlinks, IsWellLinked, prev_of, next_of}
use Rattle.chain_laws.specs.Joins.{with_next_at, with_prev_at, with_next, with_prev}
use Rattle.chain_laws.specs.Moves.{moved_index, with_link_moved, with_link_placed, CanMove}
use Rattle.chain_laws.proofs.InterlinkLemmas.Inverses.{if_same, if_other, one_some}
use Rattle.chain_laws.proofs.RenamingLemmas.Moves.{neighbors_determine_a_move}
use Rattle.arena_traits.specs.Arena.{Arena, slot_at, with_slot}
use Rattle.arena_base.specs.DetachedSlots.{DetachedView, with_placed_entry, detached_with_value, with_touch, with_placement}
use Rattle.arena_base.specs.GatheredSlots.{with_totals}
use Rattle.arena_traits.proofs.ArenaViewLemmas.{length-with_slot}
use Rattle.chain_links.specs.declared.links.RawLink.{RawLink}
use Rattle.chain_links.specs.ChainArena.{on_value, interlinks_in}
use Rattle.chain_links.specs.Links.{link_view, held_in}
use Rattle.chain_compaction.specs.DetachedLinks.{detached_values, body_interlinks, link_map_in, IsWork}
use Rattle.chain_links.proofs.MappedArenaLemmas.{map-with_slot, slot_at-map}
use Rattle.chain_links.proofs.LinkStateLemmas.{slot_at-changed}
use Rattle.arena_traits.proofs.InsertionLemmas.{slot_at-written}

module _ {Gen X Y : Type 0} (f : Gen × X → Y) (slots : List (Option (Gen × X))) (n : ℕ) (l w : X)
    (stored : Some l ≡ option_map (λ (e : Gen × X). e.1) (slot_at slots n)) (same : (g : Gen) → f (g, w) ≡ f (g, l)) where
  kept_there : (o : Option (Gen × X)) → Some l ≡ option_map (λ (e : Gen × X). e.1) o → option_map f (option_map (λ (e : Gen × X). (e.0, w)) o) ≡ option_map f o
  kept_there None is = refl
  kept_there (Some e) is = ap (λ (y : Y). Some y) (same e.0 ∙ ap (λ (x : X). f (e.0, x)) (one_some is))

  pub kept_map : map (option_map f) (with_slot slots n (option_map (λ (e : Gen × X). (e.0, w)) (slot_at slots n))) ≡ map (option_map f) slots
  kept_map = by n stored
    where
      by : (m : ℕ) → Some l ≡ option_map (λ (e : Gen × X). e.1) (slot_at slots m)
          → map (option_map f) (with_slot slots m (option_map (λ (e : Gen × X). (e.0, w)) (slot_at slots m))) ≡ map (option_map f) slots
      by zero is = refl
      by (suc k) is = map-set_same (option_map f) slots k (option_map (λ (e : Gen × X). (e.0, w)) (slot_at slots (suc k))) None (kept_there (slot_at slots (suc k)) is)

module _ {Gen K T : Type 0} (detached new : DetachedView Gen (RawLink K T)) (n : ℕ) (l w : RawLink K T)
    (stored : Some l ≡ option_map (λ (e : Gen × RawLink K T). e.1) (slot_at detached.slots n)) (wrote : new ≡ detached_with_value detached n w) where
  pub values-kept : w.t ≡ l.t → detached_values new ≡ detached_values detached
  values-kept same =
      let slots = kept_map (on_value held_in) detached.slots n l w stored (λ g i. (g, same i)) in
      ap (λ (h : DetachedView Gen (RawLink K T)). detached_values h) wrote ∙ (λ i. record (detached_values detached) { slots = slots i })

  pub links-kept : (number : K → Option ℕ) → interlinks_in (link_view number w) ≡ interlinks_in (link_view number l)
      → link_map_in number new.slots ≡ link_map_in number detached.slots
  links-kept number same = ap (λ (h : DetachedView Gen (RawLink K T)). link_map_in number h.slots) wrote ∙ fun_ext (λ i.
      sym (slot_at-map (body_interlinks number) (detached_with_value detached n w).slots i)
      ∙ (ap (λ slots. slot_at slots i) (kept_map (body_interlinks number) detached.slots n l w stored (λ g. same)) ∙ slot_at-map (body_interlinks number) detached.slots i))

  pub values-written : detached_values new ≡ detached_with_value (detached_values detached) n w.t
  values-written =
      let slots =
      map-with_slot (option_map (on_value held_in)) detached.slots n (option_map (λ (e : Gen × RawLink K T). (e.0, w)) (slot_at detached.slots n))
      ∙ ap (with_slot (detached_values detached).slots n) (at (slot_at detached.slots n) ∙ ap (option_map (λ (e : Gen × T). (e.0, w.t))) (sym (slot_at-map (on_value held_in) detached.slots n))) in
      ap (λ (h : DetachedView Gen (RawLink K T)). detached_values h) wrote ∙ (λ i. record (detached_values detached) { slots = slots i })
    where
      at : (o : Option (Gen × RawLink K T)) → option_map (on_value held_in) (option_map (λ (e : Gen × RawLink K T). (e.0, w)) o)
          ≡ option_map (λ (e : Gen × T). (e.0, w.t)) (option_map (on_value held_in) o)
      at None = refl
      at (Some e) = refl

  links-changed : (number : K → Option ℕ) (change : Interlinks → Interlinks) → interlinks_in (link_view number w) ≡ change (interlinks_in (link_view number l))
      → (i : ℕ) → link_map_in number (detached_with_value detached n w).slots i ≡ (if i == n then option_map change (link_map_in number detached.slots i) else link_map_in number detached.slots i)
  links-changed number change is i = by (ℕ_discrete i n)
    where
      at : (o : Option (Gen × RawLink K T)) → Some l ≡ option_map (λ (e : Gen × RawLink K T). e.1) o
          → option_map (body_interlinks number) (option_map (λ (e : Gen × RawLink K T). (e.0, w)) o) ≡ option_map change (option_map (body_interlinks number) o)
      at None there = refl
      at (Some e) there = ap (λ (x : Interlinks). Some x) (is ∙ ap (λ (x : RawLink K T). change (interlinks_in (link_view number x))) (one_some there))

      by : Dec (i ≡ n) → link_map_in number (detached_with_value detached n w).slots i ≡ (if i == n then option_map change (link_map_in number detached.slots i) else link_map_in number detached.slots i)
      by (yes e) =
          ap (option_map (body_interlinks number)) (slot_at-changed detached.slots n i (option_map (λ (e : Gen × RawLink K T). (e.0, w))) refl ∙ if_same i n _ _ e)
          ∙ (at (slot_at detached.slots i) (stored ∙ ap (λ (j : ℕ). option_map (λ (e : Gen × RawLink K T). e.1) (slot_at detached.slots j)) (sym e)) ∙ sym (if_same i n _ _ e))
      by (no differs) =
          ap (option_map (body_interlinks number)) (slot_at-changed detached.slots n i (option_map (λ (e : Gen × RawLink K T). (e.0, w))) refl ∙ if_other i n _ _ differs) ∙ sym (if_other i n _ _ differs)

  pub links-with_next_at : (number : K → Option ℕ) (next : Option ℕ) → w ≡ record l { next = w.next } → number w.next ≡ next
      → link_map_in number new.slots ≡ with_next_at (link_map_in number detached.slots) (Some n) next
  links-with_next_at number next rest named =
      ap (λ (h : DetachedView Gen (RawLink K T)). link_map_in number h.slots) wrote ∙ fun_ext (links-changed number (with_next next) (λ i. record { prev = number (rest i).prev; next = named i }))

  pub links-with_prev_at : (number : K → Option ℕ) (prev : Option ℕ) → w ≡ record l { prev = w.prev } → number w.prev ≡ prev
      → link_map_in number new.slots ≡ with_prev_at (link_map_in number detached.slots) (Some n) prev
  links-with_prev_at number prev rest named =
      ap (λ (h : DetachedView Gen (RawLink K T)). link_map_in number h.slots) wrote ∙ fun_ext (links-changed number (with_prev prev) (λ i. record { prev = named i; next = number (rest i).next }))

module _ {Gen K T : Type 0} (number : K → Option ℕ) (slots : List (Option (Gen × RawLink K T))) (n : ℕ)
    (none : None ≡ option_map (λ (e : Gen × RawLink K T). e.1) (slot_at slots n)) where
  nothing_reported : link_map_in number slots n ≡ None
  nothing_reported = by (slot_at slots n) none
    where
      by : (o : Option (Gen × RawLink K T)) → None ≡ option_map (λ (e : Gen × RawLink K T). e.1) o → option_map (body_interlinks number) o ≡ None
      by None is = refl
      by (Some e) is = cc

  unknown : (change : Interlinks → Interlinks) (i : ℕ) → link_map_in number slots i ≡ (if i == n then option_map change (link_map_in number slots i) else link_map_in number slots i)
  unknown change i = by (ℕ_discrete i n)
    where
      by : Dec (i ≡ n) → link_map_in number slots i ≡ (if i == n then option_map change (link_map_in number slots i) else link_map_in number slots i)
      by (yes e) =
          let nothing = ap (link_map_in number slots) e ∙ nothing_reported in
          nothing ∙ (sym (ap (option_map change) nothing) ∙ sym (if_same i n _ _ e))
      by (no differs) = sym (if_other i n _ _ differs)

  pub with_next_at-unknown : (next : Option ℕ) → link_map_in number slots ≡ with_next_at (link_map_in number slots) (Some n) next
  with_next_at-unknown next = fun_ext (unknown (with_next next))

  pub with_prev_at-unknown : (prev : Option ℕ) → link_map_in number slots ≡ with_prev_at (link_map_in number slots) (Some n) prev
  with_prev_at-unknown prev = fun_ext (unknown (with_prev prev))

module _ {Gen K T : Type 0} (detached : DetachedView Gen (RawLink K T)) (from to : ℕ) (generation : Gen) where
  pub values-with_placed_entry : detached_values (with_placed_entry detached from to generation) ≡ with_placed_entry (detached_values detached) from to generation
  values-with_placed_entry =
      let slots =
      map-with_slot value (with_slot detached.slots from (slot_at detached.slots to)) to (option_map (λ (e : Gen × RawLink K T). (generation, e.1)) (slot_at detached.slots from))
      ∙ ap₂ (λ (es : List (Option (Gen × T))) (o : Option (Gen × T)). with_slot es to o)
      (map-with_slot value detached.slots from (slot_at detached.slots to) ∙ ap (with_slot (detached_values detached).slots from) (sym (slot_at-map (on_value held_in) detached.slots to)))
      (at (slot_at detached.slots from) ∙ ap (option_map (λ (e : Gen × T). (generation, e.1))) (sym (slot_at-map (on_value held_in) detached.slots from))) in
      λ i. record (detached_values detached) { slots = slots i }
    where
      value : Option (Gen × RawLink K T) → Option (Gen × T)
      value = option_map (on_value held_in)

      at : (o : Option (Gen × RawLink K T)) → option_map (on_value held_in) (option_map (λ (e : Gen × RawLink K T). (generation, e.1)) o)
          ≡ option_map (λ (e : Gen × T). (generation, e.1)) (option_map (on_value held_in) o)
      at None = refl
      at (Some e) = refl

  pub links-with_placed_entry : (number : K → Option ℕ) → 1 ≤ from → from ≤ length detached.slots → 1 ≤ to → to ≤ length detached.slots
      → (to ≡ from) ⊎ (link_map_in number detached.slots to ≡ None) → link_map_in number (with_placed_entry detached from to generation).slots ≡ with_link_placed (link_map_in number detached.slots) from to
  links-with_placed_entry number first within first_to within_to free = fun_ext (λ j. by j (ℕ_discrete j to) (ℕ_discrete j from))
    where
      middle : List (Option (Gen × RawLink K T))
      middle = with_slot detached.slots from (slot_at detached.slots to)

      brought : Option (Gen × RawLink K T)
      brought = option_map (λ (e : Gen × RawLink K T). (generation, e.1)) (slot_at detached.slots from)

      at_to : (j : ℕ) → slot_at (with_placed_entry detached from to generation).slots j ≡ (if j == to then brought else slot_at middle j)
      at_to j = slot_at-written middle to j brought first_to (omega (arith, within_to, length-with_slot detached.slots from (slot_at detached.slots to)))

      at_from : (j : ℕ) → slot_at middle j ≡ (if j == from then slot_at detached.slots to else slot_at detached.slots j)
      at_from j = slot_at-written detached.slots from j (slot_at detached.slots to) first within

      view_after : Option (Gen × RawLink K T) → Option Interlinks
      view_after o = option_map (body_interlinks number) o

      same : (o : Option (Gen × RawLink K T)) → option_map (body_interlinks number) (option_map (λ (e : Gen × RawLink K T). (generation, e.1)) o) ≡ option_map (body_interlinks number) o
      same None = refl
      same (Some e) = refl

      left : (j : ℕ) → j ≢ to → j ≡ from → (to ≡ from) ⊎ (link_map_in number detached.slots to ≡ None) → link_map_in number detached.slots to ≡ None
      left j differs e (inl here) = absurd (differs (e ∙ sym here))
      left j differs e (inr none) = none

      by : (j : ℕ) → Dec (j ≡ to) → Dec (j ≡ from) → link_map_in number (with_placed_entry detached from to generation).slots j ≡ with_link_placed (link_map_in number detached.slots) from to j
      by j (yes e) rest = ap (option_map (body_interlinks number)) (at_to j ∙ if_same j to _ _ e) ∙ (same (slot_at detached.slots from) ∙ sym (if_same j to _ _ e))
      by j (no c) (yes e) =
          ap (option_map (body_interlinks number)) (at_to j ∙ (if_other j to _ _ c ∙ (at_from j ∙ if_same j from _ _ e)))
          ∙ (left j c e free ∙ sym (if_other j to _ _ c ∙ if_same j from _ _ e))
      by j (no c) (no d) =
          ap (option_map (body_interlinks number)) (at_to j ∙ (if_other j to _ _ c ∙ (at_from j ∙ if_other j from _ _ d)))
          ∙ sym (if_other j to _ _ c ∙ if_other j from _ _ d)

module _ {Gen K T : Type 0} (number : K → Option ℕ) (old was_read brought known new : DetachedView Gen (RawLink K T)) (from to : ℕ) (generation : Gen)
    (is_read : was_read ≡ old) (is_brought : brought ≡ with_placed_entry was_read from to generation) where
  pub move-values : detached_values known ≡ detached_values brought → detached_values new ≡ detached_values known → detached_values new ≡ with_placed_entry (detached_values old) from to generation
  move-values first second =
      second ∙ (first ∙ (ap (λ (h : DetachedView Gen (RawLink K T)). detached_values h) (is_brought ∙ ap (λ (h : DetachedView Gen (RawLink K T)). with_placed_entry h from to generation) is_read)
      ∙ values-with_placed_entry old from to generation))

  pub move-links : (before after prev next : Option ℕ) → 1 ≤ from → from ≤ length old.slots → 1 ≤ to → to ≤ length old.slots
      → prev ≡ prev_of (link_map_in number old.slots) from → next ≡ next_of (link_map_in number old.slots) from → before ≡ option_map (moved_index from to) prev → after ≡ option_map (moved_index from to) next
      → link_map_in number known.slots ≡ with_next_at (link_map_in number brought.slots) before (Some to) → link_map_in number new.slots ≡ with_prev_at (link_map_in number known.slots) after (Some to)
      → IsWellLinked (link_map_in number old.slots) → CanMove (link_map_in number old.slots) from to → link_map_in number new.slots ≡ with_link_moved (link_map_in number old.slots) from to
  move-links before after prev next first within first_to within_to is_prev is_next is_before is_after first_known second_known agrees can =
      let link_map : LinkMap = link_map_in number old.slots in
      let is_put : link_map_in number brought.slots ≡ with_link_placed link_map from to =
      ap (λ (h : DetachedView Gen (RawLink K T)). link_map_in number h.slots) (is_brought ∙ ap (λ (h : DetachedView Gen (RawLink K T)). with_placed_entry h from to generation) is_read)
      ∙ links-with_placed_entry old from to generation number first within first_to within_to can.free in
      let names_before : before ≡ option_map (moved_index from to) (prev_of link_map from) = is_before ∙ ap (option_map (moved_index from to)) is_prev in
      let names_after : after ≡ option_map (moved_index from to) (next_of link_map from) = is_after ∙ ap (option_map (moved_index from to)) is_next in
      second_known
      ∙ (ap₂ (λ (m : LinkMap) (o : Option ℕ). with_prev_at m o (Some to)) (first_known ∙ ap₂ (λ (m : LinkMap) (o : Option ℕ). with_next_at m o (Some to)) is_put names_before) names_after
      ∙ neighbors_determine_a_move link_map from to agrees can)

pub entry-view_after : {Gen X : Type 0} (old was_read : DetachedView Gen X) (n : ℕ) (r : Option Gen) (was : Gen) → was_read ≡ old → r ≡ Some was → r ≡ option_map (λ (e : Gen × X). e.0) (slot_at old.slots n)
    → is_some (slot_at was_read.slots n) ≡ true
entry-view_after {Gen} {X} old was_read n r was same some known = ap (λ (h : DetachedView Gen X). is_some (slot_at h.slots n)) same ∙ by (slot_at old.slots n) (sym some ∙ known)
  where
    by : (o : Option (Gen × X)) → Some was ≡ option_map (λ (e : Gen × X). e.0) o → is_some o ≡ true
    by None is = absurd (let both = is in cc)
    by (Some e) is = refl

module _ {Gen T : Type 0} where
  pub work-none : (a : Arena Gen T) (most : ℕ) → IsWork a a 0 most
  work-none a most = record {
    touches = 0;
    few = omega arith;
    arena = (
        let placements : a.placed ≡ a.placed + 0 = omega arith in
        let touches : a.touched ≡ a.touched + 0 = omega arith in
        λ i. record a { placed = placements i; touched = touches i }
        );
  }

  pub work-touched : (a b : Arena Gen T) → b ≡ with_touch a → IsWork a b 0 1
  work-touched a b is = record {
    touches = 1;
    few = omega arith;
    arena = (let placements : a.placed ≡ a.placed + 0 = omega arith in is ∙ (λ i. record a { placed = placements i; touched = a.touched + 1 }));
  }

  pub work-with_placed_entry : (a b : Arena Gen T) → b ≡ with_placement a → IsWork a b 1 0
  work-with_placed_entry a b is = record {
    touches = 0;
    few = omega arith;
    arena = (let touches : a.touched ≡ a.touched + 0 = omega arith in is ∙ (λ i. record a { placed = a.placed + 1; touched = touches i }));
  }

  pub work-more : {a b c : Arena Gen T} {p q m n : ℕ} → IsWork a b p m → IsWork b c q n → (o r : ℕ) → p + q ≡ o → m + n ≤ r → IsWork a c o r
  work-more {a} {b} {c} {p} {q} {m} {n} first second o r placements most = record {
    touches = first.touches + second.touches;
    few = omega (arith, first.few, second.few, most);
    arena = (
        let with_placed_entry : (a.placed + p) + q ≡ a.placed + o = omega (arith, placements) in
        let touched : (a.touched + first.touches) + second.touches ≡ a.touched + (first.touches + second.touches) = omega arith in
        second.arena ∙ (ap (λ (x : Arena Gen T). with_totals x q second.touches) first.arena ∙ (λ i. record a { placed = with_placed_entry i; touched = touched i }))
        );
  }

  pub work-few : {a b : Arena Gen T} {p m : ℕ} → IsWork a b p m → (n : ℕ) → m ≤ n → IsWork a b p n
  work-few work n most = record { touches = work.touches; few = omega (arith, work.few, most); arena = work.arena }

  pub work-moved : {a b c d e : Arena Gen T} → b ≡ with_touch a → c ≡ with_placement b → IsWork c d 0 1 → IsWork d e 0 1 → IsWork a e 1 3
  work-moved {a} {b} {c} was_read with_placed_entry first second =
      work-more (work-more (work-more (work-touched a b was_read) (work-with_placed_entry b c with_placed_entry) 1 1 refl (omega arith)) first 1 2 refl (omega arith)) second 1 3 refl (omega arith)

  pub work-twice : (a b c : Arena Gen T) → b ≡ with_touch a → c ≡ with_touch b → IsWork a c 0 2
  work-twice a b c one two = work-more (work-touched a b one) (work-touched b c two) 0 2 refl (omega arith)
