-- A canonical compression of a chain arena.
use Rattle.std.proofs.Common.{◌≡◌, ℕ, suc, ◌+◌, Bool, List, [], ◌∷◌, length, map, Option, Some, refl, ap, sym, ◌∙◌, subst, arith}
use Rattle.std.specs.Option.{option_map}
use Rattle.std.specs.List.{range_with_len}
use Rattle.std.proofs.lemmas.List.{length-map}
use mathlib.Core.Path.{fun_ext}
use Rattle.chain_laws.specs.Chains.{LinkMap, IsWellLinked, AreChains}
use Rattle.chain_laws.specs.Renamings.{IsRenaming}
use Rattle.chain_laws.specs.Arrangements.{place_in, in_runs, IsArrangement, IsLeastIndexOrder}
use Rattle.chain_laws.proofs.RenamingLemmas.Chains.{renaming_agrees}
use Rattle.chain_laws.proofs.ChainLemmas.NeighborPairs.{chains_from_pairs}
use Rattle.chain_laws.proofs.RenamingLemmas.ChainRuns.{canonical_arranges, arranges_chains_in_runs}
use Rattle.chain_laws.proofs.RenamingLemmas.LeastIndexOrder.{least_index_order_is_canonical}
use Rattle.arena_traits.specs.Arena.{Arena, slot_at, with_counter}
use Rattle.arena_traits.specs.Entries.{entries_from, entries, found, view_of}
use Rattle.arena_traits.specs.EntryLaws.{found-entries}
use Rattle.arena_traits.specs.Compressions.{counter_after_compression, values_in}
use Rattle.arena_base.specs.GatheredSlots.{with_front, arena_of_values}
use Rattle.arena_base.proofs.CompactedArenaLemmas.{length-slots, indexes-with_front, generations-with_front}
use Rattle.chain_links.specs.ChainArena.{LinkView, on_value, link_value, interlinks_of, link_map, value_view, entry, values_of, ptr_at}
use Rattle.chain_compaction.specs.Layouts.{ReportsMoves, ReportsAll, AreArranged}
use Rattle.chain_links.specs.CanonicalLayouts.{IsCanonicalLayout}
use Rattle.chain_links.proofs.ArenaInsertionLemmas.{some_entry, values-count}
use Rattle.chain_compaction.proofs.ArrangementLemmas.{count-stored}

values-with_front : {Gen T : Type 0} (g : Gen) (values : List T) (i : ℕ) → values_in (entries_from i (with_front g values [])) ≡ values
values-with_front g [] i = refl
values-with_front {Gen} {T} g (t ∷ values) i = ap (λ (ts : List T). t ∷ ts) (values-with_front g values (suc i))

module _ {F P T Gen : Type 0} (g : F → P → P → F → Type 0) (key : P → ℕ × Gen) (f last : F) (counter : Gen) (old mid new : Arena Gen (LinkView T)) (is_mid : mid ≡ with_counter old counter)
    (arranged : AreArranged g key f last mid new) where
  same_reported : link_map mid ≡ link_map old
  same_reported = ap (λ (a : Arena Gen (LinkView T)). link_map a) is_mid

  links_ordered : IsLeastIndexOrder (link_map old) arranged.indexes
  links_ordered = subst (λ (s : LinkMap). IsLeastIndexOrder s arranged.indexes) same_reported arranged.order

  links_renamed : IsRenaming (place_in arranged.indexes) (link_map old) (link_map new)
  links_renamed = subst (λ (s : LinkMap). IsRenaming (place_in arranged.indexes) s (link_map new)) same_reported arranged.renamed

  pub arranged_agree : IsWellLinked (link_map old) → IsWellLinked (link_map new)
  arranged_agree agrees = renaming_agrees (place_in arranged.indexes) (link_map old) (link_map new) links_renamed agrees

  links_run : AreChains (link_map new) (in_runs 1 links_ordered.chains)
  links_run =
      (arranges_chains_in_runs (link_map old) (link_map new) links_ordered.chains (chains_from_pairs (link_map old) links_ordered.chains links_ordered.are.partition links_ordered.are.interlinks)
      (subst (λ (is : List ℕ). IsRenaming (place_in is) (link_map old) (link_map new)) links_ordered.items links_renamed)).0

  links_arranged : IsArrangement (link_map old) arranged.indexes
  links_arranged = canonical_arranges (link_map old) arranged.indexes (least_index_order_is_canonical (link_map old) arranged.indexes links_ordered)

  indexes_counted : length (entries (values_of old)) ≡ length arranged.indexes
  indexes_counted =
      values-count old
      ∙ count-stored old arranged.indexes links_arranged.once (λ i e s. (links_arranged.valid i).0 (record { link = interlinks_of e; links = ap (option_map interlinks_of) s }))
      (λ i h. let v = (links_arranged.valid i).1 h in some_entry interlinks_of (slot_at old.slots i) v.link v.links)

  values_counted : length arranged.values ≡ length (entries (values_of old))
  values_counted =
      sym (length-map arranged.values (λ t. Some t))
      ∙ (ap length arranged.was_stored ∙ (length-map arranged.indexes (λ i. option_map (λ (e : Gen × T). e.1) (entry mid i)) ∙ sym indexes_counted))

  abbrev after : Arena Gen T
  after = record (arena_of_values (with_counter (values_of old) counter) arranged.values) { touched = old.touched + arranged.touches }

  is_after : values_of new ≡ after
  is_after = arranged.arena ∙ (λ i. record (arena_of_values (values_of (is_mid i)) arranged.values) { touched = (is_mid i).touched + arranged.touches })

  entry_found : entry mid ≡ (λ i. found i (entries (values_of old)))
  entry_found = ap (λ (a : Arena Gen (LinkView T)). entry a) is_mid ∙ sym (fun_ext (λ i. found-entries (values_of old) i))

  pub arranged_canonical : (first : Gen) (following : Gen → Gen) (reset : Bool) (count : ℕ) → counter ≡ counter_after_compression first following reset count old.counter → count ≡ length (entries (values_of old))
      → IsCanonicalLayout first following reset (value_view old) (link_map old) (value_view new) (link_map new)
  arranged_canonical first following reset count is_counter is_count =
      subst (λ (a : Arena Gen T). IsCanonicalLayout first following reset (value_view old) (link_map old) (view_of a) (link_map new)) (sym is_after) (record {
        indexes = arranged.indexes;
        order = links_ordered;
        renamed = links_renamed;
        new_chains = links_run;
        new_indexes = indexes-with_front counter arranged.values 1 ∙ ap (range_with_len 1) values_counted;
        values = ap (λ (ts : List T). map (λ t. Some t) ts) (values-with_front counter arranged.values 1)
            ∙ (arranged.was_stored ∙ ap (λ (given : ℕ → Option (Gen × T)). map (λ i. option_map (λ (e : Gen × T). e.1) (given i)) arranged.indexes) entry_found);
        counter = ap (λ (h : Gen). Some h) (is_counter ∙ ap (λ n. counter_after_compression first following reset n old.counter) is_count);
        generation = counter;
        generations = generations-with_front counter arranged.values 1;
        is_counter = refl;
        slots = record {
          count = length-slots counter arranged.values ∙ values_counted;
          freed = refl;
          placed = ap (λ n. old.placed + n) values_counted;
          touches = arranged.touches;
          few = omega (arith, arranged.few, indexes_counted, length-map old.slots (option_map (on_value link_value)), ap (λ (a : Arena Gen (LinkView T)). length a.slots) is_mid);
          touched = refl;
        };
        capacity = refl;
        maximum = refl;
      })

  pub arranged_stack_capacity : new.stack_capacity ≡ old.stack_capacity
  arranged_stack_capacity = ap (λ (a : Arena Gen T). a.stack_capacity) is_after

  pub arranged_reported : ReportsAll g key (value_view old) (link_map old) new.counter f last
  arranged_reported = record {
    indexes = arranged.indexes;
    order = links_ordered;
    reports = subst (λ (p : (ℕ → Option (Gen × T)) × Gen). ReportsMoves g key (ptr_at p.0) p.1 1 f arranged.indexes last)
        (λ i. (entry_found i, sym (ap (λ (a : Arena Gen T). a.counter) arranged.arena) i)) arranged.reports;
  }
