-- An arena of links after they are moved to the front and the slots given back.
use Rattle.std.proofs.Common.{◌≡◌, ℕ, zero, suc, ◌+◌, ◌*◌, ◌≤◌, List, [], ◌∷◌, length, map, Option, None, Some, refl, ap, sym, ◌∙◌, subst, arith}
use Rattle.std.specs.Prelude.{slice_index_or, min}
use Rattle.std.specs.Option.{option_map, option_and_then}
use Rattle.std.specs.Fn.{Mut}
use Rattle.std.proofs.lemmas.List.{length-map}
use mathlib.Core.Path.{fun_ext}
use denote.Ref.{MutBor}
use Rattle.chain_laws.specs.Chains.{LinkMap}
use Rattle.chain_laws.specs.Renamings.{IsRenaming}
use Rattle.chain_laws.specs.Arrangements.{place_in}
use Rattle.arena_traits.specs.Arena.{Arena, slot_at}
use Rattle.arena_traits.specs.Entries.{entries_from, entries, index_of}
use Rattle.arena_base.specs.DetachedSlots.{DetachedView, before_cut, without_free_end, free_from, detached_of, arena_without_slots, arena_after_return}
use Rattle.arena_traits.specs.Compressions.{VisitsAll}
use Rattle.arena_base.specs.GatheredSlots.{AreClosed, IsGathered, arena_of_values, with_totals}
use Rattle.arena_base.proofs.CompactedArenaLemmas.{gathers, few_entries}
use Rattle.chain_links.specs.declared.links.RawLink.{RawLink}
use Rattle.chain_links.specs.ChainArena.{on_value, with_each, interlinks_of, link_map, values_of}
use Rattle.chain_links.specs.Links.{held_in, links_view, pair_view, destination_of, destination_at, AreAtRest}
use Rattle.chain_compaction.specs.DetachedLinks.{detached_values, body_interlinks, link_map_in, indexes_in, IsWork}
use Rattle.chain_compaction.specs.LinkCompressions.{AreGathered}
use Rattle.chain_links.proofs.LinkStateLemmas.{entry_at-links_view}
use Rattle.chain_compaction.proofs.ValueViewLemmas.{values_of-links_view}

module _ {X Y : Type 0} (f : X → Y) where
  cut-map : (o : Option X) (slots : List (Option X)) → map (option_map f) (before_cut o slots) ≡ before_cut (option_map f o) (map (option_map f) slots)
  cut-map None [] = refl
  cut-map None (o ∷ slots) = refl
  cut-map (Some x) slots = refl

  pub without_free_end-map : (slots : List (Option X)) → map (option_map f) (without_free_end slots) ≡ without_free_end (map (option_map f) slots)
  without_free_end-map [] = refl
  without_free_end-map (o ∷ slots) = cut-map o (without_free_end slots) ∙ ap (before_cut (option_map f o)) (without_free_end-map slots)

  free_from-map : (slots : List (Option X)) (i : ℕ) → free_from i slots ≡ free_from i (map (option_map f) slots)
  free_from-map [] i = refl
  free_from-map (None ∷ slots) i = ap (λ ns. i ∷ ns) (free_from-map slots (suc i))
  free_from-map (Some x ∷ slots) i = free_from-map slots (suc i)

module _ {X : Type 0} where
  cut-at : (o : Option X) (slots : List (Option X)) (k : ℕ) → slice_index_or (before_cut o slots) k None ≡ slice_index_or (o ∷ slots) k None
  cut-at None [] zero = refl
  cut-at None [] (suc k) = refl
  cut-at None (o ∷ slots) k = refl
  cut-at (Some x) slots k = refl

  without_free_end-at : (slots : List (Option X)) (k : ℕ) → slice_index_or (without_free_end slots) k None ≡ slice_index_or slots k None
  without_free_end-at [] k = refl
  without_free_end-at (o ∷ slots) zero = cut-at o (without_free_end slots) zero
  without_free_end-at (o ∷ slots) (suc k) = cut-at o (without_free_end slots) (suc k) ∙ without_free_end-at slots k

  pub slot_at-trimmed : (slots : List (Option X)) (i : ℕ) → slot_at (without_free_end slots) i ≡ slot_at slots i
  slot_at-trimmed slots zero = refl
  slot_at-trimmed slots (suc k) = without_free_end-at slots k

module _ {Gen K T : Type 0} (number : K → Option ℕ) where
  pub link_map-slots : (a : Arena Gen (RawLink K T)) → link_map (links_view number a) ≡ link_map_in number a.slots
  link_map-slots a = fun_ext (λ i. ap (option_map interlinks_of) (entry_at-links_view number a i) ∙ twice (slot_at a.slots i))
    where
      twice : (o : Option (Gen × RawLink K T)) → option_map interlinks_of (option_map (pair_view number) o) ≡ option_map (body_interlinks number) o
      twice None = refl
      twice (Some e) = refl

  link_map-trimmed : (slots : List (Option (Gen × RawLink K T))) → link_map_in number (without_free_end slots) ≡ link_map_in number slots
  link_map-trimmed slots = fun_ext (λ i. ap (option_map (body_interlinks number)) (slot_at-trimmed slots i))

  pub returned_at_rest : (detached slots : List (Option (Gen × RawLink K T))) → slots ≡ without_free_end detached → AreAtRest number detached → AreAtRest number slots
  returned_at_rest detached slots is rest = record { none = λ i. ap (λ s. destination_at number s i) is ∙ (ap (option_and_then (destination_of number)) (slot_at-trimmed detached i) ∙ rest.none i) }

values-returned : {Gen K T : Type 0} (greatest : ℕ) (a : Arena Gen (RawLink K T)) (detached : DetachedView Gen (RawLink K T)) → with_each held_in (arena_after_return greatest a detached) ≡ arena_after_return greatest (with_each held_in a) (detached_values detached)
values-returned greatest a detached =
    let slots = without_free_end-map (on_value held_in) detached.slots in
    let freed = free_from-map (on_value held_in) (without_free_end detached.slots) 1 ∙ ap (free_from 1) slots in
    λ i. record (arena_after_return greatest (with_each held_in a) (detached_values detached)) { slots = slots i; freed = freed i }

module _ {F P T Gen K : Type 0} (g : Mut F (P × (MutBor T × (P × Unit {0}))) (Unit {0} × (MutBor T × Unit {0}))) (key : P → ℕ × Gen) (f : F) (number : K → Option ℕ) where
  module _ (greatest : ℕ) (maximum : Option ℕ) (generation : Gen) (old start finish new : Arena Gen (RawLink K T)) (before after : DetachedView Gen (RawLink K T))
      (is_start : start ≡ arena_without_slots maximum old) (is_before : before ≡ detached_of old) (is_new : new ≡ arena_after_return greatest finish after)
      (closed : AreClosed generation (detached_values before) (detached_values after)) (visits : VisitsAll g key f (entries_from 1 (detached_values before).slots) (entries_from 1 (detached_values after).slots))
      (work : IsWork start finish (length (entries_from 1 (detached_values before).slots)) (length before.slots + 3 * length (entries_from 1 (detached_values before).slots))) where
    abbrev old_values : Arena Gen T
    old_values = with_each held_in old

    abbrev moved_count : ℕ
    moved_count = length (entries_from 1 (detached_values before).slots)

    abbrev like : Arena Gen T
    like = arena_after_return greatest (with_totals (with_each held_in start) moved_count (length (detached_values before).slots + moved_count)) (detached_values after)

    like_gathered : old.capacity ≡ min old.stack_capacity greatest → generation ≡ old.counter → IsGathered g key f old_values like
    like_gathered same_capacity counter =
        gathers g key f greatest maximum generation old_values (with_each held_in start) (with_totals (with_each held_in start) moved_count (length (detached_values before).slots + moved_count)) like
        (detached_values before) (detached_values after) (ap (λ (a : Arena Gen (RawLink K T)). with_each held_in a) is_start) (ap (λ (h : DetachedView Gen (RawLink K T)). detached_values h) is_before) same_capacity counter closed visits refl refl

    values_now : with_each held_in new ≡ record like { touched = old.touched + work.touches }
    values_now =
        ap (λ (a : Arena Gen (RawLink K T)). with_each held_in a) (is_new ∙ ap (λ (a : Arena Gen (RawLink K T)). arena_after_return greatest a after) work.arena)
        ∙ (values-returned greatest (with_totals start moved_count work.touches) after ∙ (λ i. record like { touched = (is_start i).touched + work.touches }))

    few_touches : work.touches ≤ 4 * length old.slots
    few_touches =
        let few : moved_count ≤ length old_values.slots = subst (λ (h : DetachedView Gen (RawLink K T)). length (entries_from 1 (detached_values h).slots) ≤ length old_values.slots) (sym is_before) (few_entries old_values) in
        let long : length old_values.slots ≡ length old.slots = length-map old.slots (option_map (on_value held_in)) in
        let detached : length before.slots ≡ length old.slots = ap (λ (h : DetachedView Gen (RawLink K T)). length h.slots) is_before in
        omega (arith, work.few, few, long, detached)

    pub links_gathered : old.capacity ≡ min old.stack_capacity greatest → generation ≡ old.counter → IsRenaming (place_in (indexes_in (detached_values before).slots)) (link_map_in number before.slots) (link_map_in number after.slots)
        → AreGathered g key f (links_view number old) (links_view number new)
    links_gathered same_capacity counter renamed =
        let like = like_gathered same_capacity counter in
        let old_same = values_of-links_view number old in
        let new_same = values_of-links_view number new in
        let reported_old : link_map_in number before.slots ≡ link_map (links_view number old) = ap (λ (h : DetachedView Gen (RawLink K T)). link_map_in number h.slots) is_before ∙ sym (link_map-slots number old) in
        let reported_new : link_map_in number after.slots ≡ link_map (links_view number new) =
        sym (link_map-slots number new ∙ (ap (λ (a : Arena Gen (RawLink K T)). link_map_in number a.slots) is_new ∙ link_map-trimmed number after.slots)) in
        let indexes : indexes_in (detached_values before).slots ≡ map index_of (entries (values_of (links_view number old))) =
        ap (λ (h : DetachedView Gen (RawLink K T)). indexes_in (detached_values h).slots) is_before ∙ ap (λ (a : Arena Gen T). map index_of (entries a)) old_same in
        record {
          values = like.values;
          touches = work.touches;
          few = subst (λ (n : ℕ). work.touches ≤ 4 * n) (sym (length-map old.slots (option_map (pair_view number)))) few_touches;
          arena = sym new_same ∙ (values_now ∙ ((λ i. record (like.arena i) { touched = old.touched + work.touches }) ∙ ap (λ (a : Arena Gen T). record (arena_of_values a like.values) { touched = old.touched + work.touches }) old_same));
          visits = subst (λ (p : Arena Gen T × Arena Gen T). VisitsAll g key f (entries p.0) (entries p.1)) (λ i. (old_same i, (sym values_now ∙ new_same) i)) like.visits;
          renamed = subst (λ (p : List ℕ × (LinkMap × LinkMap)). IsRenaming (place_in p.0) p.1.0 p.1.1) (λ i. (indexes i, (reported_old i, reported_new i))) renamed;
        }
