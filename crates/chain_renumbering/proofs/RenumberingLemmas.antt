-- A canonical compression, with its moves in a table, is a renumbering.
use Rattle.std.proofs.Common.{◌≡◌, ◌↔◌, ◌≤◌, ℕ, Bool, true, false, List, length, replicate, slice_index_or, All, None, Some, sym, ap, ◌∙◌, subst, arith}
use Rattle.std.specs.Option.{option_map}
use Rattle.std.specs.List.{range_with_len}
use Rattle.std.proofs.lemmas.List.Elements.{All-from_recursion, All-contains, recursion_from_All}
use Rattle.chain_laws.specs.Chains.{Interlinks, AreDistinct, linear, cyclic, all_items}
use Rattle.chain_laws.specs.Arrangements.{place_in}
use Rattle.chain_laws.proofs.ChainLemmas.Partitions.{no_others}
use Rattle.chain_laws.proofs.RenamingLemmas.Positions.{place-numbers}
use Rattle.arena_traits.specs.Arena.{Arena, IsValid}
use Rattle.arena_traits.specs.Entries.{found}
use Rattle.chain_links.specs.CanonicalLayouts.{IsCanonicalLayout}
use Rattle.chain_links.specs.ChainArena.{LinkView, link_value, values_of, entry, value_view, link_map}
use Rattle.chain_links.proofs.ArenaInsertionLemmas.{slots-within}
use Rattle.chain_links.proofs.MappedArenaLemmas.{length-with_each}
use Rattle.chain_compaction.specs.Layouts.{AreAllMoves}
use Rattle.chain_compaction.specs.PointerMoves.{ArePointerMoves}
use Rattle.chain_renumbering.specs.Renumbering.{Moves, IsRenumbered}
use Rattle.chain_renumbering.specs.MoveTables.{with_moves, new_key_of}
use Rattle.chain_renumbering.proofs.MoveTableLemmas.{HasPlaces, noted_table}
use Rattle.chain_renumbering.proofs.TableLookupLemmas.{GivesMoves, table_gives, valid_moves, moves_valid, values_move, moves_onto, moves_apart}
use Rattle.chain_renumbering.proofs.RenamedListLemmas.{moves_follow, items_move, list_moves}

abbrev no_neighbors : Interlinks
no_neighbors = record { prev = None; next = None }

module _ {P Gen T : Type 0} (key : P → ℕ × Gen) (old new : Arena Gen (LinkView T)) (moves : List (P × P)) (moved : ArePointerMoves key (entry old) (entry new) moves) where
  within : (p : ℕ × Gen) → IsValid (entry old) p → (1 ≤ p.0) × (p.0 ≤ length old.slots)
  within p valid =
      let inside = (slots-within (λ e. no_neighbors) (values_of old).slots).within p.0 (record { link = no_neighbors; links = ap (option_map (λ e. no_neighbors)) valid.stored }) in
      (inside.0, omega (arith, inside.1, length-with_each link_value old))

  has_places : HasPlaces key (length old.slots) moves
  has_places = recursion_from_All _ moves (λ k d below. within (key (slice_index_or moves k d).0) (moved.values k d below).0)

  module _ (first : Gen) (following : Gen → Gen) (layout : IsCanonicalLayout first following false (value_view old) (link_map old) (value_view new) (link_map new)) (all : AreAllMoves key (value_view old) (link_map old) new.counter moves) where
    same_order : all.indexes ≡ layout.indexes
    same_order = all.order.items ∙ (ap all_items (no_others (link_map old) all.order.chains layout.order.chains all.order.are layout.order.are) ∙ sym layout.order.items)

    all_moved : All (λ (m : P × P). (place_in layout.indexes (key m.0).0 ≡ Some (key m.1).0) × ((key m.1).1 ≡ new.counter)) moves
    all_moved =
        subst (λ (is : List ℕ). All (λ (m : P × P). (place_in is (key m.0).0 ≡ Some (key m.1).0) × ((key m.1).1 ≡ new.counter)) moves) same_order
        (All-from_recursion _ moves
        (moves_follow key (λ i. found i (value_view old).entries) (place_in all.indexes) new.counter moves all.indexes (range_with_len 1 (length all.indexes)) all.from all.to
        (place-numbers 1 all.indexes (subst AreDistinct (sym all.order.items) all.order.are.partition.once))))

    module _ (move : Moves Gen) (gives : GivesMoves key moves move) where
      placed : (p q : ℕ × Gen) → move p ≡ Some q → (place_in layout.indexes p.0 ≡ Some q.0) × (q.1 ≡ layout.generation)
      placed p q is =
          let m = gives.only p q is in
          let at = All-contains (λ (m : P × P). (place_in layout.indexes (key m.0).0 ≡ Some (key m.1).0) × ((key m.1).1 ≡ new.counter)) moves m.0 all_moved m.1 in (
            ap (λ (x : ℕ × Gen). place_in layout.indexes x.0) (sym m.2) ∙ (at.0 ∙ ap (λ (x : ℕ × Gen). Some x.0) m.3),
            ap (λ (x : ℕ × Gen). x.1) (sym m.3) ∙ (at.1 ∙ layout.is_counter),
          )

      go : (p q : ℕ × Gen) → move p ≡ Some q → place_in layout.indexes p.0 ≡ Some q.0
      go p q is = (placed p q is).0

      pub renumbered_by : IsRenumbered first following value_view entry link_map old new move
      renumbered_by = record {
        layout = layout;
        valid = moves_valid key (entry old) (entry new) moves moved move gives;
        values = values_move key (entry old) (entry new) moves moved move gives;
        apart = moves_apart key (entry old) (entry new) moves moved move gives (place_in layout.indexes) layout.renamed.apart go;
        onto = moves_onto key (entry old) (entry new) moves moved move gives;
        placed = placed;
        texts = λ state items is.
            list_moves state link_map old new move (place_in layout.indexes) linear (λ is ks images. images) layout.renamed items is
            (items_move (entry old) (entry new) move (place_in layout.indexes) (valid_moves key (entry old) (entry new) moves moved move gives) (values_move key (entry old) (entry new) moves moved move gives) go items is.are_stored);
        rings = λ state items is.
            list_moves state link_map old new move (place_in layout.indexes) cyclic (λ is ks images. images) layout.renamed items is
            (items_move (entry old) (entry new) move (place_in layout.indexes) (valid_moves key (entry old) (entry new) moves moved move gives) (values_move key (entry old) (entry new) moves moved move gives) go items is.are_stored);
      }

    pub renumbered : (same : Gen → Gen → Bool) → ((g h : Gen) → (same g h ≡ true) ↔ (g ≡ h))
        → IsRenumbered first following value_view entry link_map old new (new_key_of key same (with_moves key (replicate (length old.slots) None) moves))
    renumbered same same_is_equal =
        let table = with_moves key (replicate (length old.slots) None) moves in
        renumbered_by (new_key_of key same table) (table_gives key same same_is_equal moves table (noted_table key (length old.slots) moves has_places moved.old_apart))
