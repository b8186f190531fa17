-- One step of closing holes, over values and links at once.
use Rattle.std.proofs.Common.{◌≡◌, ◌≢◌, ℕ, ◌+◌, ◌*◌, ◌<◌, ◌≤◌, length, Option, None, Some, refl, sym, ap, ◌∙◌, subst, subst₂, arith}
use Rattle.std.specs.Prelude.{IsSome}
use Rattle.std.specs.Option.{option_map}
use Rattle.std.specs.Fn.{Mut}
use Rattle.std.proofs.lemmas.List.{length-map}
use denote.Ref.{MutBor}
use Rattle.chain_laws.specs.Chains.{IsWellLinked}
use Rattle.chain_laws.specs.Renamings.{IsRenaming}
use Rattle.chain_laws.specs.Arrangements.{place_in}
use Rattle.chain_laws.specs.Moves.{with_link_moved, CanMove}
use Rattle.arena_traits.specs.Arena.{Arena, slot_at}
use Rattle.arena_traits.specs.Entries.{entries_from}
use Rattle.arena_base.specs.DetachedSlots.{DetachedView, IsPacked, with_placed_entry, detached_with_value, with_touch}
use Rattle.arena_traits.specs.Compressions.{IsVisit, VisitsAll}
use Rattle.arena_base.specs.GatheredSlots.{AreClosed}
use Rattle.arena_base.proofs.HoleClosingLemmas.{IsClosing, none_there, brought_stored, closing_length, closing_free, closing_frees, closing_moves, closing_visits, closing_counts, closing_closes, closing_packs, next_slot}
use Rattle.chain_links.specs.declared.links.RawLink.{RawLink}
use Rattle.chain_links.specs.ChainArena.{on_value}
use Rattle.chain_links.specs.Links.{held_in}
use Rattle.chain_links.proofs.ArenaInsertionLemmas.{slots-within}
use Rattle.chain_links.proofs.MappedArenaLemmas.{slot_at-map}
use Rattle.chain_compaction.specs.DetachedLinks.{slot_values, detached_values, body_interlinks, link_map_in, indexes_in, IsWork}
use Rattle.chain_compaction.proofs.DetachedLinkLemmas.{values-written, links-kept, work-touched, work-more}
use Rattle.chain_compaction.proofs.LinkCompressionLemmas.{AreGathered, generation-there, value-there, gathered_skips, gathered_continues, gathered_ends}

module _ {F P Gen K T : Type 0} (g : Mut F (P × (MutBor T × (P × Unit {0}))) (Unit {0} × (MutBor T × Unit {0}))) (key : P → ℕ × Gen) (generation : Gen) (number : K → Option ℕ)
    (first f : F) (old now : DetachedView Gen (RawLink K T)) (agrees : IsWellLinked (link_map_in number old.slots)) (k count : ℕ)
    (closing : IsClosing g key generation first (slot_values old.slots) k count f (slot_values now.slots)) (gathered : AreGathered number old.slots now.slots k count) where
  module _ (end : ℕ) (is_end : end ≡ length old.slots) (before : k < end) (from : ℕ) (at_from : from ≡ k + 1) where
    inside : k < length old.slots
    inside = omega (arith, before, is_end)

    within : k < length (slot_values old.slots)
    within = let long : length (slot_values old.slots) ≡ length old.slots = length-map old.slots (option_map (on_value held_in)) in omega (arith, inside, long)

    long : length now.slots ≡ length old.slots
    long =
        sym (length-map now.slots (option_map (on_value held_in)))
        ∙ (closing_length g key generation first (slot_values old.slots) k count f (slot_values now.slots) closing (omega (arith, within)) ∙ length-map old.slots (option_map (on_value held_in)))

    pub from_within : from ≤ length now.slots
    from_within = omega (arith, at_from, inside, long)

    pub to_within : (to : ℕ) → to ≡ count + 1 → to ≤ length now.slots
    to_within to at_to = omega (arith, at_to, closing.passed, inside, long)

    pub free_to : (to : ℕ) → to ≡ count + 1 → to ≢ from → slot_at now.slots to ≡ None
    free_to to at_to differs =
        by (slot_at now.slots to)
        (sym (slot_at-map (on_value held_in) now.slots to) ∙ closing_free g key generation first (slot_values old.slots) k count f (slot_values now.slots) closing from to at_from at_to differs)
      where
        by : (o : Option (Gen × RawLink K T)) → option_map (on_value held_in) o ≡ None → o ≡ None
        by None none = refl
        by (Some e) none = absurd (let both = none in cc)

    module _ (returned : Option Gen) (none : returned ≡ None) (known : returned ≡ option_map (λ (e : Gen × RawLink K T). e.0) (slot_at now.slots from)) (mid : DetachedView Gen (RawLink K T)) (same : mid ≡ now) where
      free : slot_at (slot_values now.slots) from ≡ None
      free = none_there (slot_at (slot_values now.slots) from) (sym none ∙ (known ∙ generation-there now.slots from))

      pub passes : IsClosing g key generation first (slot_values old.slots) (k + 1) count f (slot_values mid.slots)
      passes =
          subst (λ (h : DetachedView Gen (RawLink K T)). IsClosing g key generation first (slot_values old.slots) (k + 1) count f (slot_values h.slots)) (sym same)
          (closing_frees g key generation first (slot_values old.slots) k count f (slot_values now.slots) closing within from at_from free)

      pub skips : AreGathered number old.slots mid.slots (k + 1) count
      skips =
          subst (λ (h : DetachedView Gen (RawLink K T)). AreGathered number old.slots h.slots (k + 1) count) (sym same)
          (gathered_skips number old.slots agrees now.slots k count gathered inside
          (sym (next_slot g key generation first (slot_values old.slots) k count f (slot_values now.slots) closing within from at_from) ∙ free))

      pub capacity_kept : now.stack_capacity ≡ old.stack_capacity → mid.stack_capacity ≡ old.stack_capacity
      capacity_kept was = ap (λ (h : DetachedView Gen (RawLink K T)). h.stack_capacity) same ∙ was

      pub maximum_kept : now.maximum ≡ old.maximum → mid.maximum ≡ old.maximum
      maximum_kept was = ap (λ (h : DetachedView Gen (RawLink K T)). h.maximum) same ∙ was

    module _ (to : ℕ) (at_to : to ≡ count + 1) (was : Gen) (known : Some was ≡ option_map (λ (e : Gen × RawLink K T). e.0) (slot_at now.slots from)) (mid : DetachedView Gen (RawLink K T))
        (values : detached_values mid ≡ with_placed_entry (detached_values now) from to generation) where
      view_after : Some was ≡ option_map (λ (e : Gen × T). e.0) (slot_at (slot_values now.slots) from)
      view_after = known ∙ generation-there now.slots from

      is_placed : slot_values mid.slots ≡ (with_placed_entry (detached_values now) from to generation).slots
      is_placed = ap (λ (h : DetachedView Gen T). h.slots) values

      pub stored_there : None ≡ option_map (λ (e : Gen × RawLink K T). e.1) (slot_at mid.slots to) → ⊥
      stored_there none =
          brought_stored g key generation first (slot_values old.slots) k count f (slot_values now.slots) closing within from to was (slot_values mid.slots) at_from at_to view_after is_placed
          (ap (option_map held_in) none ∙ value-there mid.slots to)

      module _ (after : DetachedView Gen (RawLink K T)) (l : RawLink K T) (left : T) (stored : Some l ≡ option_map (λ (e : Gen × RawLink K T). e.1) (slot_at mid.slots to))
          (wrote : after ≡ detached_with_value mid to (record l { t = left })) where
        pub moves_next : (before_ptr after_ptr : P) (next : F) → key before_ptr ≡ (from, was) → key after_ptr ≡ (to, generation)
            → IsVisit g f (record { from = before_ptr; value = l.t; to = after_ptr; left = left }) next
            → IsClosing g key generation first (slot_values old.slots) (k + 1) (count + 1) next (slot_values after.slots)
        moves_next before_ptr after_ptr next from_key to_key visit =
            closing_moves g key generation first (slot_values old.slots) k count f (slot_values now.slots) closing within from to was (slot_values mid.slots) at_from at_to view_after is_placed
            (record { from = before_ptr; value = l.t; to = after_ptr; left = left }) next (slot_values after.slots) (ap (option_map held_in) stored ∙ value-there mid.slots to)
            (ap (λ (h : DetachedView Gen T). h.slots) (values-written mid after to l (record l { t = left }) stored wrote)) from_key to_key visit

        pub arrives : (IsWellLinked (link_map_in number now.slots) → CanMove (link_map_in number now.slots) from to → link_map_in number mid.slots ≡ with_link_moved (link_map_in number now.slots) from to)
            → AreGathered number old.slots after.slots (k + 1) (count + 1)
        arrives moves =
            gathered_continues number old.slots agrees now.slots k count gathered inside was
            (view_after ∙ ap (option_map (λ (e : Gen × T). e.0)) (next_slot g key generation first (slot_values old.slots) k count f (slot_values now.slots) closing within from at_from))
            from to mid.slots after.slots at_from at_to moves (links-kept mid after to l (record l { t = left }) stored wrote number refl)

        pub capacity_on : now.stack_capacity ≡ old.stack_capacity → after.stack_capacity ≡ old.stack_capacity
        capacity_on had = ap (λ (h : DetachedView Gen (RawLink K T)). h.stack_capacity) wrote ∙ (ap (λ (h : DetachedView Gen T). h.stack_capacity) values ∙ had)

        pub maximum_on : now.maximum ≡ old.maximum → after.maximum ≡ old.maximum
        maximum_on had = ap (λ (h : DetachedView Gen (RawLink K T)). h.maximum) wrote ∙ (ap (λ (h : DetachedView Gen T). h.maximum) values ∙ had)

  module _ (end : ℕ) (is_end : end ≡ length old.slots) (high : k ≤ end) (low : end ≤ k) where
    all : k ≡ length old.slots
    all = omega (arith, is_end, high, low)

    ended : k ≡ length (slot_values old.slots)
    ended = all ∙ sym (length-map old.slots (option_map (on_value held_in)))

    pub ends_closed : now.stack_capacity ≡ old.stack_capacity → now.maximum ≡ old.maximum → AreClosed generation (detached_values old) (detached_values now)
    ends_closed capacity maximum =
        closing_closes g key generation first (slot_values old.slots) k count f (slot_values now.slots) closing ended (detached_values old) (detached_values now) refl refl capacity maximum

    pub ends_packed : IsPacked now.slots count
    ends_packed =
        let packed = closing_packs g key generation first (slot_values old.slots) k count f (slot_values now.slots) closing ended in
        record { taken = λ i low high. taken (slot_at now.slots i) (subst IsSome (view_after i) (packed.taken i low high)); free = λ i above. free (slot_at now.slots i) (sym (view_after i) ∙ packed.free i above) }
      where
        view_after : (i : ℕ) → slot_at (slot_values now.slots) i ≡ option_map (on_value held_in) (slot_at now.slots i)
        view_after i = slot_at-map (on_value held_in) now.slots i

        taken : (o : Option (Gen × RawLink K T)) → IsSome (option_map (on_value held_in) o) → IsSome o
        taken None some = some
        taken (Some e) some = refl

        free : (o : Option (Gen × RawLink K T)) → option_map (on_value held_in) o ≡ None → o ≡ None
        free None none = refl
        free (Some e) none = absurd (let both = none in cc)

    pub ends_visits : VisitsAll g key first (entries_from 1 (detached_values old).slots) (entries_from 1 (detached_values now).slots)
    ends_visits = closing_visits g key generation first (slot_values old.slots) k count f (slot_values now.slots) closing ended

    pub ends_renamed : IsRenaming (place_in (indexes_in (detached_values old).slots)) (link_map_in number old.slots) (link_map_in number now.slots)
    ends_renamed = gathered_ends number old.slots agrees now.slots k count gathered all (slots-within (body_interlinks number) old.slots)

    pub ends_work : (a b : Arena Gen (RawLink K T)) → IsWork a b count (k + 3 * count)
        → IsWork a b (length (entries_from 1 (detached_values old).slots)) (length old.slots + 3 * length (entries_from 1 (detached_values old).slots))
    ends_work a b work =
        let counts = closing_counts g key generation first (slot_values old.slots) k count f (slot_values now.slots) closing ended in
        subst₂ (IsWork a b) counts (λ i. all i + 3 * counts i) work

module _ {Gen T : Type 0} (a b c : Arena Gen T) (k count : ℕ) (work : IsWork a b count (k + 3 * count)) where
  pub work_skips : c ≡ with_touch b → IsWork a c count ((k + 1) + 3 * count)
  work_skips touched = work-more work (work-touched b c touched) count ((k + 1) + 3 * count) (omega arith) (omega arith)

  pub work_moves_next : (d : Arena Gen T) → IsWork b c 1 3 → d ≡ with_touch c → IsWork a d (count + 1) ((k + 1) + 3 * (count + 1))
  work_moves_next d moves touched =
      work-more (work-more work moves (count + 1) ((k + 3 * count) + 3) refl (omega arith)) (work-touched c d touched) (count + 1) ((k + 1) + 3 * (count + 1)) (omega arith) (omega arith)
