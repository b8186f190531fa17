-- The arena after each link is at its destination and names those of its neighbors.
use Rattle.std.proofs.Common.{◌≡◌, ℕ, suc, ◌+◌, ◌*◌, ◌^◌, ◌<◌, ◌≤◌, List, [], length, map, Option, None, Some, refl, ap, sym, ◌∙◌, subst, subst₂, arith}
use Rattle.std.specs.Prelude.{count_by, is_some, slice_index_or, min}
use Rattle.std.specs.Option.{option_map, option_and_then}
use Rattle.std.specs.List.{range_with_len}
use Rattle.std.proofs.Math.Nat.{mul-le-mul_right}
use Rattle.std.proofs.lemmas.List.{length-map, append-nil}
use mathlib.Core.Path.{fun_ext}
use Rattle.chain_laws.specs.Chains.{LinkMap, Interlinks, IsMember, AreDistinct, IsWellLinked}
use Rattle.chain_laws.specs.Renamings.{IsRenaming}
use Rattle.chain_laws.specs.Arrangements.{place_in, IsArrangement, IsLeastIndexOrder}
use Rattle.chain_laws.proofs.ListLemmas.Members.{length_bound}
use Rattle.chain_laws.proofs.RenamingLemmas.Images.{image_of}
use Rattle.chain_laws.proofs.ListLemmas.Ranges.{range-IsMember}
use Rattle.chain_laws.proofs.RenamingLemmas.Positions.{place-within, place-has, has-place, place-numbers, places_are_apart}
use Rattle.chain_laws.proofs.RenamingLemmas.ChainRuns.{canonical_arranges}
use Rattle.chain_laws.proofs.RenamingLemmas.LeastIndexOrder.{least_index_order_is_canonical}
use Rattle.arena_traits.specs.Arena.{Arena, slot_at}
use Rattle.arena_base.specs.DetachedSlots.{DetachedView, IsPacked, without_free_end, detached_of, arena_without_slots, arena_after_return}
use Rattle.arena_base.specs.GatheredSlots.{with_totals, with_front}
use Rattle.chain_links.specs.declared.links.RawLink.{RawLink}
use Rattle.chain_links.specs.ChainArena.{LinkView, on_value, link_value, interlinks_of, link_map, values_of, entry, ptr_at}
use Rattle.chain_links.specs.Links.{pair_view, links_view, destination_of, destination_at, AreAtRest}
use Rattle.chain_compaction.specs.DetachedLinks.{body_interlinks, link_map_in, IsWork}
use Rattle.chain_compaction.specs.WorkCounts.{HasCounted}
use Rattle.chain_compaction.specs.Layouts.{ReportsMoves, AreArranged}
use Rattle.chain_compaction.specs.Permutations.{HasDestination, HaveMoved, CanMoveAll, AreMovedToFront, Settles}
use Rattle.chain_compaction.specs.OrderedLinks.{AreAllPlaced}
use Rattle.chain_compaction.specs.Destinations.{detached_view, renamed_link, renamed_detached, AreAllNumbered}
use Rattle.chain_links.proofs.MappedArenaLemmas.{slot_at-map}
use Rattle.chain_links.proofs.ArenaInsertionLemmas.{some_entry, slots-within}
use Rattle.arena_base.proofs.PackedSlotLemmas.{packed-none_free}
use Rattle.chain_compaction.proofs.DetachedLinkLemmas.{work-more, work-few}
use Rattle.chain_compaction.proofs.CompactedLinkLemmas.{without_free_end-map, slot_at-trimmed}
use Rattle.chain_compaction.proofs.CompactedFrontLemmas.{front-packed, packed-length, moved_viewed}
use Rattle.chain_compaction.proofs.ChainDestinationLemmas.{stored_at}
use Rattle.chain_compaction.proofs.WorkCountLemmas.{counted_none}
use Rattle.chain_compaction.proofs.SlotCountLemmas.{count-mapped}
use Rattle.chain_compaction.proofs.ArrangementLemmas.{count-stored, slots-filled, values-filled}

abbrev pub reported_slots : {Gen T : Type 0} → List (Option (Gen × LinkView T)) → LinkMap
reported_slots slots i = option_map interlinks_of (slot_at slots i)

module _ {Gen T : Type 0} (g : Gen) (old new : List (Option (Gen × LinkView T))) (indexes : List ℕ) (arranges : IsArrangement (reported_slots old) indexes) (long : length new ≡ length indexes)
    (sent : (i d : ℕ) (x : Gen × LinkView T) → place_in indexes i ≡ Some d → slot_at old i ≡ Some x → slot_at new d ≡ Some (g, renamed_link (place_in indexes) x.1)) where
  abbrev value_at : ℕ → Option (Gen × T)
  value_at i = slot_at (map (option_map (on_value link_value)) old) i

  stored : (i : ℕ) → IsMember indexes i → (x : Gen × LinkView T) × (slot_at old i ≡ Some x)
  stored i h = let v = (arranges.valid i).1 h in some_entry interlinks_of (slot_at old i) v.link v.links

  value_stored : (i : ℕ) → IsMember indexes i → (e : Gen × T) × (value_at i ≡ Some e)
  value_stored i h = let x = stored i h in (on_value link_value x.0, slot_at-map (on_value link_value) old i ∙ ap (option_map (on_value link_value)) x.1)

  arranged_at : (i k : ℕ) → place_in indexes i ≡ Some (suc k) → slice_index_or (map (option_map (on_value link_value)) new) k None ≡ option_map (λ (e : Gen × T). (g, e.1)) (value_at i)
  arranged_at i k e =
      let x = stored i (place-has 1 indexes i (suc k) e) in
      slot_at-map (on_value link_value) new (suc k)
      ∙ (ap (option_map (on_value link_value)) (sent i (suc k) x.0 e x.1)
      ∙ sym (ap (option_map (λ (e : Gen × T). (g, e.1))) (slot_at-map (on_value link_value) old i ∙ ap (option_map (on_value link_value)) x.1)))

  arranged_slots : map (option_map (on_value link_value)) new ≡ map (λ i. option_map (λ (e : Gen × T). (g, e.1)) (value_at i)) indexes
  arranged_slots =
      slots-filled (λ i. option_map (λ (e : Gen × T). (g, e.1)) (value_at i)) indexes 0 (map (option_map (on_value link_value)) new) arranges.once (length-map new (option_map (on_value link_value)) ∙ long)
      (λ i k e. arranged_at i k (e ∙ ap (λ (m : ℕ). Some m) (let same : 1 + k ≡ suc k = omega arith in same)))

  arranged_renamed : IsRenaming (place_in indexes) (reported_slots old) (reported_slots new)
  arranged_renamed = record {
    apart = places_are_apart indexes;
    each = λ i v. has-place 1 indexes i ((arranges.valid i).0 v);
    onto = λ k v.
        let w = (slots-within interlinks_of new).within k v in
        let from = image_of (place_in indexes) indexes (range_with_len 1 (length indexes)) k (place-numbers 1 indexes arranges.once) (range-IsMember 1 (length indexes) k w.0 (omega (arith, w.1, long))) in
        (from.0, (arranges.valid from.0).1 from.1, from.2);
    carries = λ i k before after reports e.
        let x = some_entry interlinks_of (slot_at old i) (record { prev = before; next = after }) reports in
        let same : interlinks_of x.0 ≡ record { prev = before; next = after } = some_link (sym (ap (option_map interlinks_of) x.1) ∙ reports) in
        ap (option_map interlinks_of) (sent i k x.0 e x.1)
        ∙ ap (λ (l : Interlinks). let o : Option Interlinks = Some (record { prev = option_and_then (place_in indexes) l.prev; next = option_and_then (place_in indexes) l.next }) in o) same;
  }
    where
      some_link : {l m : Interlinks} → ◌≡◌ {A = Option Interlinks} (Some l) (Some m) → l ≡ m
      some_link e = cc

module _ {Gen T : Type 0} where
  pub counted_first : (a : Arena Gen T) (p t : ℕ) → p ≡ 0 → t ≡ 0 → HasCounted a a p t
  counted_first a p t no_placement no_touch = subst₂ (λ (p t : ℕ). HasCounted a a p t) (sym no_placement) (sym no_touch) (counted_none a)

module _ {Gen K T : Type 0} (number : K → Option ℕ) (slots : List (Option (Gen × RawLink K T))) (indexes : List ℕ) (once : AreDistinct indexes)
    (places : (j : ℕ) → destination_at number slots j ≡ place_in indexes j) (each : (i : ℕ) (e : Gen × RawLink K T) → slot_at slots i ≡ Some e → IsMember indexes i) where
  waits_for : (i d : ℕ) → place_in indexes i ≡ Some d → (e : Gen × RawLink K T) × HasDestination (destination_of number) (slot_at slots) i e d
  waits_for i d at = by (slot_at slots i) refl (places i ∙ at)
    where
      by : (o : Option (Gen × RawLink K T)) → slot_at slots i ≡ o → option_and_then (destination_of number) o ≡ Some d → (e : Gen × RawLink K T) × HasDestination (destination_of number) (slot_at slots) i e d
      by None is target = absurd (let h = target in cc)
      by (Some e) is target = (e, record { stored = is; to = target })

  place_of : (i d : ℕ) (e : Gen × RawLink K T) → HasDestination (destination_of number) (slot_at slots) i e d → place_in indexes i ≡ Some d
  place_of i d e w = sym (places i) ∙ (ap (option_and_then (destination_of number)) w.stored ∙ w.to)

  has_entry : (i : ℕ) → IsMember indexes i → (e : Gen × RawLink K T) × (slot_at slots i ≡ Some e)
  has_entry i h =
      let place = has-place 1 indexes i h in
      let w = waits_for i place.0 place.1 in
      (w.0, w.1.stored)

  few_indexes : length indexes ≤ length slots
  few_indexes =
      length_bound indexes (length slots) once
      (λ i h. let e = has_entry i h in (slots-within (body_interlinks number) slots).within i (record { link = body_interlinks number e.0; links = ap (option_map (body_interlinks number)) e.1 }))

  can_move : CanMoveAll (destination_of number) slots
  can_move = record {
    apart = λ i j d e f w v. places_are_apart indexes i j d (place_of i d e w) (place_of j d f v);
    within = record { within = λ i d e w. let p = place-within 1 indexes i d (place_of i d e w) in (p.0, omega (arith, p.1, few_indexes)) };
    each = λ i e s. let p = has-place 1 indexes i (each i e s) in (p.0, sym (ap (option_and_then (destination_of number)) s) ∙ (places i ∙ p.1));
  }

  moved_to_front : AreMovedToFront (destination_of number) slots (length indexes)
  moved_to_front = record {
    few = λ i d e w. let p = place-within 1 indexes i d (place_of i d e w) in omega (arith, p.1);
    each = λ d low high.
        let from = image_of (place_in indexes) indexes (range_with_len 1 (length indexes)) d (place-numbers 1 indexes once) (range-IsMember 1 (length indexes) d low (omega (arith, high))) in
        let w = waits_for from.0 d from.2 in
        (from.0, w.0, w.1);
  }

module _ {Gen K T : Type 0} (number : K → Option ℕ) where
  pub link_map-view_after : (detached : DetachedView Gen (RawLink K T)) → link_map_in number detached.slots ≡ reported_slots (detached_view number detached).slots
  link_map-view_after detached = fun_ext (λ i. twice (slot_at detached.slots i) ∙ sym (ap (option_map interlinks_of) (slot_at-map (pair_view number) detached.slots i)))
    where
      twice : (o : Option (Gen × RawLink K T)) → option_map (body_interlinks number) o ≡ option_map interlinks_of (option_map (pair_view number) o)
      twice None = refl
      twice (Some e) = refl

  pub length-renamed : (to : ℕ → Option ℕ) (one other : DetachedView Gen (RawLink K T)) → detached_view number one ≡ renamed_detached to (detached_view number other) → length one.slots ≡ length other.slots
  length-renamed to one other renamed =
      sym (length-map one.slots (option_map (pair_view number)))
      ∙ (ap (λ (h : DetachedView Gen (LinkView T)). length h.slots) renamed
      ∙ (length-map (detached_view number other).slots (option_map (on_value (renamed_link to))) ∙ length-map other.slots (option_map (pair_view number))))

  pub count-renamed : (to : ℕ → Option ℕ) (one other : DetachedView Gen (RawLink K T)) → detached_view number one ≡ renamed_detached to (detached_view number other) → count_by is_some one.slots ≡ count_by is_some other.slots
  count-renamed to one other renamed =
      sym (count-mapped (pair_view number) one.slots)
      ∙ (ap (λ (h : DetachedView Gen (LinkView T)). count_by is_some h.slots) renamed
      ∙ (count-mapped (on_value (renamed_link to)) (detached_view number other).slots ∙ count-mapped (pair_view number) other.slots))

  ptr-view_after : (detached : DetachedView Gen (RawLink K T)) (i : ℕ) → ptr_at (slot_at detached.slots) i ≡ ptr_at (slot_at (map (option_map (on_value link_value)) (detached_view number detached).slots)) i
  ptr-view_after detached i =
      twice (slot_at detached.slots i)
      ∙ sym (ap (option_map (λ (e : Gen × T). (i, e.0))) (slot_at-map (on_value link_value) (detached_view number detached).slots i ∙ ap (option_map (on_value link_value)) (slot_at-map (pair_view number) detached.slots i)))
    where
      twice : (o : Option (Gen × RawLink K T)) → option_map {U = ℕ × Gen} (λ (e : Gen × RawLink K T). (i, e.0)) o ≡ option_map {U = ℕ × Gen} (λ (e : Gen × T). (i, e.0)) (option_map (on_value link_value) (option_map (pair_view number) o))
      twice None = refl
      twice (Some e) = refl

  pub agree-detached : (a : Arena Gen (RawLink K T)) (detached : DetachedView Gen (RawLink K T)) → detached ≡ detached_of a → IsWellLinked (link_map (links_view number a)) → IsWellLinked (link_map_in number detached.slots)
  agree-detached a detached is agrees = subst IsWellLinked (sym (ap (λ (h : DetachedView Gen (RawLink K T)). link_map_in number h.slots) is ∙ link_map-view_after (detached_of a))) agrees

module _ {F P Gen K T : Type 0} (g : F → P → P → F → Type 0) (key : P → ℕ × Gen) (f last : F) (number : K → Option ℕ) (generation : Gen) (h0 h2 : DetachedView Gen (RawLink K T))
    (a0 a2 : Arena Gen (RawLink K T)) (total : ℕ) (numbered : AreAllNumbered number g key generation f last h0 h2 a0 a2 total) where
  abbrev first_slots : List (Option (Gen × LinkView T))
  first_slots = (detached_view number h0).slots

  first_arranges : IsArrangement (reported_slots first_slots) numbered.indexes
  first_arranges =
      subst (λ (s : LinkMap). IsArrangement s numbered.indexes) (link_map-view_after number h0)
      (canonical_arranges (link_map_in number h0.slots) numbered.indexes (least_index_order_is_canonical (link_map_in number h0.slots) numbered.indexes numbered.order))

  renamed_there : (i : ℕ) → option_map (pair_view number) (slot_at h2.slots i) ≡ option_map (on_value (renamed_link (place_in numbered.indexes))) (slot_at first_slots i)
  renamed_there i =
      sym (slot_at-map (pair_view number) h2.slots i)
      ∙ (ap (λ (h : DetachedView Gen (LinkView T)). slot_at h.slots i) numbered.renamed ∙ slot_at-map (on_value (renamed_link (place_in numbered.indexes))) first_slots i)

  each_placed : (i : ℕ) (e : Gen × RawLink K T) → slot_at h2.slots i ≡ Some e → IsMember numbered.indexes i
  each_placed i e s = by (slot_at first_slots i) refl (sym (ap (option_map (pair_view number)) s) ∙ renamed_there i)
    where
      by : (o : Option (Gen × LinkView T)) → slot_at first_slots i ≡ o → Some (pair_view number e) ≡ option_map (on_value (renamed_link (place_in numbered.indexes))) o → IsMember numbered.indexes i
      by None is both = absurd (let h = both in cc)
      by (Some x) is both = (first_arranges.valid i).0 (record { link = interlinks_of x; links = ap (option_map interlinks_of) is })

  pub links_can_move : CanMoveAll (destination_of number) h2.slots
  links_can_move = can_move number h2.slots numbered.indexes first_arranges.once numbered.destinations each_placed

  links_to_front : AreMovedToFront (destination_of number) h2.slots (length numbered.indexes)
  links_to_front = moved_to_front number h2.slots numbered.indexes first_arranges.once numbered.destinations each_placed

  links_counted : count_by is_some h2.slots ≡ length numbered.indexes
  links_counted = count-stored (record a0 { slots = h2.slots }) numbered.indexes first_arranges.once each_placed (has_entry number h2.slots numbered.indexes first_arranges.once numbered.destinations each_placed)

  same-length : length h2.slots ≡ length h0.slots
  same-length = length-renamed number (place_in numbered.indexes) h2 h0 numbered.renamed

  module _ (h3 : DetachedView Gen (RawLink K T)) (moved : HaveMoved (destination_of number) (Settles number generation) (slot_at h2.slots) (slot_at h3.slots)) where
    all_sent : (i d : ℕ) (x : Gen × LinkView T) → place_in numbered.indexes i ≡ Some d → slot_at first_slots i ≡ Some x → slot_at (detached_view number h3).slots d ≡ Some (generation, renamed_link (place_in numbered.indexes) x.1)
    all_sent i d x at is =
        let w = waits_for number h2.slots numbered.indexes first_arranges.once numbered.destinations each_placed i d at in
        let both : ◌≡◌ {A = Option (Gen × LinkView T)} (Some (pair_view number w.0)) (Some (x.0, renamed_link (place_in numbered.indexes) x.1)) =
        sym (ap (option_map (pair_view number)) w.1.stored) ∙ (renamed_there i ∙ ap (option_map (on_value (renamed_link (place_in numbered.indexes)))) is) in
        moved_viewed number generation h2.slots h3.slots moved i d w.0 w.1 ∙ ap (λ (l : LinkView T). let o : Option (Gen × LinkView T) = Some (generation, l) in o) (link_is both)
      where
        link_or : LinkView T → Option (Gen × LinkView T) → LinkView T
        link_or l None = l
        link_or l (Some e) = e.1

        link_is : {e h : Gen × LinkView T} → ◌≡◌ {A = Option (Gen × LinkView T)} (Some e) (Some h) → e.1 ≡ h.1
        link_is {e} {h} both = ap (link_or e.1) both

    pub links_placed : (a3 : Arena Gen (RawLink K T)) → h3.stack_capacity ≡ h2.stack_capacity → h3.maximum ≡ h2.maximum
        → IsWork a2 a3 (count_by is_some h2.slots) (4 * count_by is_some h2.slots + length h2.slots) → AreAllPlaced number g key generation f last h0 h3 a0 a3 total 9
    links_placed a3 capacity maximum moving = record {
      indexes = numbered.indexes;
      order = numbered.order;
      counted = numbered.counted;
      placed = all_sent;
      packed = subst (IsPacked h3.slots) (sym numbered.counted) (front-packed (destination_of number) (Settles number generation) (length numbered.indexes) h2.slots h3.slots links_to_front moved);
      capacity = capacity ∙ ap (λ (h : DetachedView Gen (LinkView T)). h.stack_capacity) numbered.renamed;
      maximum = maximum ∙ ap (λ (h : DetachedView Gen (LinkView T)). h.maximum) numbered.renamed;
      reports = numbered.reports;
      work = work-more numbered.work moving (length numbered.indexes) (4 * length h0.slots + 9 * length numbered.indexes) (omega (arith, links_counted)) (omega (arith, links_counted, same-length));
    }

    pub links_at_rest : AreAtRest number h3.slots
    links_at_rest = record { none = λ j. by j (slot_at h3.slots j) refl }
      where
        by : (j : ℕ) (o : Option (Gen × RawLink K T)) → slot_at h3.slots j ≡ o → destination_at number h3.slots j ≡ None
        by j None is = ap (option_and_then (destination_of number)) is
        by j (Some e) is = ap (option_and_then (destination_of number)) is ∙ (moved.back j e is).settled.empty

module _ {F P Gen K T : Type 0} (g : F → P → P → F → Type 0) (key : P → ℕ × Gen) (f last : F) (number : K → Option ℕ) (generation : Gen) (h0 h1 h3 : DetachedView Gen (RawLink K T))
    (same : h1 ≡ h0) (a0 a1 a3 : Arena Gen (RawLink K T)) (total most links : ℕ) (counts : links ≡ count_by is_some h0.slots) (reading : IsWork a0 a1 0 links)
    (done : AreAllPlaced number g key generation f last h1 h3 a1 a3 total most) where
  read_arranges : IsArrangement (link_map_in number h1.slots) done.indexes
  read_arranges = canonical_arranges (link_map_in number h1.slots) done.indexes (least_index_order_is_canonical (link_map_in number h1.slots) done.indexes done.order)

  read_counted : count_by is_some h1.slots ≡ length done.indexes
  read_counted =
      count-stored (record a1 { slots = h1.slots }) done.indexes read_arranges.once
      (λ i e s. (read_arranges.valid i).0 (record { link = body_interlinks number e; links = ap (option_map (body_interlinks number)) s }))
      (λ i h. stored_at number h1.slots i ((read_arranges.valid i).1 h))

  pub placed_after_reads : (more : ℕ) → most + 1 ≤ more → AreAllPlaced number g key generation f last h0 h3 a0 a3 total more
  placed_after_reads more few = subst (λ (h : DetachedView Gen (RawLink K T)). AreAllPlaced number g key generation f last h h3 a0 a3 total more) same (record {
    indexes = done.indexes;
    order = done.order;
    counted = done.counted;
    placed = done.placed;
    packed = done.packed;
    capacity = done.capacity;
    maximum = done.maximum;
    reports = done.reports;
    work = work-more reading done.work (length done.indexes) (4 * length h1.slots + more * length done.indexes) (omega arith) enough;
  })
    where
      count : links ≡ length done.indexes
      count = counts ∙ (ap (λ (h : DetachedView Gen (RawLink K T)). count_by is_some h.slots) (sym same) ∙ read_counted)

      enough : links + (4 * length h1.slots + most * length done.indexes) ≤ 4 * length h1.slots + more * length done.indexes
      enough =
          let times : (most + 1) * length done.indexes ≤ more * length done.indexes = mul-le-mul_right (length done.indexes) few in
          omega (arith, count, times)

module _ {F P Gen K T : Type 0} (g : F → P → P → F → Type 0) (key : P → ℕ × Gen) (f last : F) (number : K → Option ℕ) (generation : Gen) (old : Arena Gen (RawLink K T)) (h0 h3 : DetachedView Gen (RawLink K T))
    (is_detached : h0 ≡ detached_of old) (a1 a3 : Arena Gen (RawLink K T)) (total : ℕ) (done : AreAllPlaced number g key generation f last h0 h3 a1 a3 total 10) where
  abbrev old_slots : List (Option (Gen × LinkView T))
  old_slots = (links_view number old).slots

  old_order : IsLeastIndexOrder (reported_slots old_slots) done.indexes
  old_order = subst (λ (s : LinkMap). IsLeastIndexOrder s done.indexes) (ap (λ (h : DetachedView Gen (RawLink K T)). link_map_in number h.slots) is_detached ∙ link_map-view_after number (detached_of old)) done.order

  old_arranges : IsArrangement (reported_slots old_slots) done.indexes
  old_arranges = canonical_arranges (reported_slots old_slots) done.indexes (least_index_order_is_canonical (reported_slots old_slots) done.indexes old_order)

  old_few : length done.indexes ≤ length old.slots
  old_few =
      length_bound done.indexes (length old.slots) old_arranges.once
      (λ i h. let w = (slots-within interlinks_of old_slots).within i ((old_arranges.valid i).1 h) in (w.0, omega (arith, w.1, length-map old.slots (option_map (pair_view number)))))

  abbrev last_slots : List (Option (Gen × LinkView T))
  last_slots = map (option_map (pair_view number)) (without_free_end h3.slots)

  last-length : length last_slots ≡ length done.indexes
  last-length = length-map (without_free_end h3.slots) (option_map (pair_view number)) ∙ (packed-length total h3.slots done.packed ∙ done.counted)

  last_sent : (i d : ℕ) (x : Gen × LinkView T) → place_in done.indexes i ≡ Some d → slot_at old_slots i ≡ Some x → slot_at last_slots d ≡ Some (generation, renamed_link (place_in done.indexes) x.1)
  last_sent i d x at is =
      ap (λ (s : List (Option (Gen × LinkView T))). slot_at s d) (without_free_end-map (pair_view number) h3.slots)
      ∙ (slot_at-trimmed (map (option_map (pair_view number)) h3.slots) d ∙ done.placed i d x at (ap (λ (h : DetachedView Gen (RawLink K T)). slot_at (detached_view number h).slots i) is_detached ∙ is))

  module _ (greatest : ℕ) (maximum : Option ℕ) (lent : a1 ≡ arena_without_slots maximum old) where
    whole_work : IsWork (arena_without_slots maximum old) a3 (length done.indexes) (4 * length old.slots + 12 * length done.indexes)
    whole_work =
        let same : length h0.slots ≡ length old.slots = ap (λ (h : DetachedView Gen (RawLink K T)). length h.slots) is_detached in
        subst (λ (a : Arena Gen (RawLink K T)). IsWork a a3 (length done.indexes) (4 * length old.slots + 12 * length done.indexes)) lent (work-few done.work _ (omega (arith, same)))

    abbrev arranged_arena : Arena Gen (RawLink K T)
    arranged_arena = arena_after_return greatest (with_totals (arena_without_slots maximum old) (length done.indexes) whole_work.touches) h3

    is_arranged : (new : Arena Gen (RawLink K T)) → new ≡ arena_after_return greatest a3 h3 → new ≡ arranged_arena
    is_arranged new is_new = is_new ∙ ap (λ (a : Arena Gen (RawLink K T)). arena_after_return greatest a h3) whole_work.arena

    pub links_arranged : old.capacity ≡ min old.stack_capacity greatest → generation ≡ old.counter → (new : Arena Gen (RawLink K T)) → new ≡ arena_after_return greatest a3 h3
        → AreArranged g key f last (links_view number old) (links_view number new)
    links_arranged same_capacity counter new is_new = record {
      indexes = done.indexes;
      order = old_order;
      renamed = subst (λ (a : Arena Gen (RawLink K T)). IsRenaming (place_in done.indexes) (link_map (links_view number old)) (link_map (links_view number a))) (sym (is_arranged new is_new))
          (arranged_renamed generation old_slots last_slots done.indexes old_arranges last-length last_sent);
      values = values.0;
      was_stored = values.1;
      touches = whole_work.touches;
      few = omega (arith, whole_work.few, length-map old.slots (option_map (pair_view number)));
      arena = ap (λ (a : Arena Gen (RawLink K T)). values_of (links_view number a)) (is_arranged new is_new) ∙ (λ i. record (values_of (links_view number old)) {
        slots = slots i;
        freed = packed-none_free total h3.slots done.packed i;
        capacity = capacity_kept i;
        stack_capacity = stack_kept i;
        maximum = maximum_kept i;
        placed = old.placed + count i;
        touched = old.touched + whole_work.touches;
      });
      reports = subst (λ (p : (ℕ → Option (ℕ × Gen)) × Gen). ReportsMoves g key p.0 p.1 1 f done.indexes last) (λ i. (pointers i, counter i)) done.reports;
    }
      where
        values : (values : List T) × (map (λ t. Some t) values ≡ map (λ i. option_map (λ (e : Gen × T). e.1) (entry (links_view number old) i)) done.indexes)
            × (map {B = Option (Gen × T)} (λ t. Some (generation, t)) values ≡ map {B = Option (Gen × T)} (λ i. option_map (λ (e : Gen × T). (generation, e.1)) (entry (links_view number old) i)) done.indexes)
            × (length values ≡ length done.indexes)
        values = values-filled generation (entry (links_view number old)) done.indexes (value_stored generation old_slots last_slots done.indexes old_arranges last-length last_sent)

        slots : map (option_map (on_value link_value)) last_slots ≡ with_front old.counter values.0 []
        slots =
            arranged_slots generation old_slots last_slots done.indexes old_arranges last-length last_sent
            ∙ (sym values.2 ∙ (ap (λ (h : Gen). map {B = Option (Gen × T)} (λ t. Some (h, t)) values.0) counter ∙ sym (append-nil (map {B = Option (Gen × T)} (λ t. Some (old.counter, t)) values.0))))

        stack_kept : h3.stack_capacity ≡ old.stack_capacity
        stack_kept = done.capacity ∙ ap (λ (h : DetachedView Gen (RawLink K T)). h.stack_capacity) is_detached

        maximum_kept : h3.maximum ≡ old.maximum
        maximum_kept = done.maximum ∙ ap (λ (h : DetachedView Gen (RawLink K T)). h.maximum) is_detached

        capacity_kept : min h3.stack_capacity greatest ≡ old.capacity
        capacity_kept = ap (λ (n : ℕ). min n greatest) stack_kept ∙ sym same_capacity

        count : length done.indexes ≡ length values.0
        count = sym values.3

        pointers : ptr_at (slot_at h0.slots) ≡ ptr_at (entry (links_view number old))
        pointers = fun_ext (λ i. ap (λ (h : DetachedView Gen (RawLink K T)). ptr_at (slot_at h.slots) i) is_detached ∙ ptr-view_after number (detached_of old) i)

    pub work_known : (p t : ℕ) → HasCounted a1 a3 p t → length old.slots ≤ greatest → greatest < 2 ^ 64 → (a3.placed ≡ old.placed + p) × (a3.touched ≡ old.touched + t)
    work_known p t had fits bound =
        let placed : old.placed + had.placements ≡ a3.placed = ap (λ (a : Arena Gen (RawLink K T)). a.placed + had.placements) (sym lent) ∙ sym (ap (λ (a : Arena Gen (RawLink K T)). a.placed) had.arena) in
        let touched : old.touched + had.touches ≡ a3.touched = ap (λ (a : Arena Gen (RawLink K T)). a.touched + had.touches) (sym lent) ∙ sym (ap (λ (a : Arena Gen (RawLink K T)). a.touched) had.arena) in
        let now_placed : a3.placed ≡ old.placed + length done.indexes = ap (λ (a : Arena Gen (RawLink K T)). a.placed) whole_work.arena in
        let now_touched : a3.touched ≡ old.touched + whole_work.touches = ap (λ (a : Arena Gen (RawLink K T)). a.touched) whole_work.arena in (
          omega (arith, placed, now_placed, had.placements_counted, old_few, fits, bound),
          omega (arith, touched, now_touched, had.touches_counted, old_few, fits, bound, whole_work.few),
        )
