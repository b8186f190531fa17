-- A canonical compression and a transfer, stated by pointer.
use Rattle.std.proofs.Common.{◌≡◌, ℕ, Bool, List, [], ◌∷◌, map, Option, Some, refl, sym, ap, ◌∙◌, subst}
use Rattle.std.specs.Prelude.{is_some}
use Rattle.std.specs.Fn.{Mut}
use Rattle.std.specs.List.{AllByRecursion}
use Rattle.std.proofs.lemmas.List.Elements.{recursion_from_All}
use Rattle.arena_core.specs.Invalidation.{value_in}
use Rattle.arena_core.specs.declared.invalidation.InvalidationOption.{InvalidationOption}
use Rattle.arena_traits.specs.Arena.{Arena, slot_at}
use Rattle.arena_traits.specs.Entries.{entries, found}
use Rattle.arena_traits.specs.EntryLaws.{entries_ascend, found-entries}
use Rattle.chain_links.specs.ChainArena.{LinkView, on_value, link_value, interlinks_of, link_map, value_view, entry, values_of}
use Rattle.chain_links.specs.CanonicalLayouts.{IsCanonicalLayout}
use Rattle.chain_links.proofs.MappedArenaLemmas.{is_some-map, entry_at-with_each}
use Rattle.chain_compaction.specs.Layouts.{AreAllMoves}
use Rattle.chain_compaction.specs.PointerMoves.{ArePointerMoves, IsMove, HasLinksWhere}
use Rattle.chain_compaction.proofs.PointerMoveLemmas.{each_found, all_moved, compression_moves_pointers}
use Rattle.chain_arena.specs.Transfers.{TransferredLink, old_index}
use Rattle.chain_arena.specs.PointerTransfers.{IsMapped, TransferMovesPointers}

module _ {P Gen T : Type 0} (key : P → ℕ × Gen) (first : Gen) (following : Gen → Gen) (reset : Bool) (old new : Arena Gen (LinkView T)) (moves : List (P × P)) where
  links_stored : HasLinksWhere (link_map old) (entry old)
  links_stored i = is_some-map interlinks_of (slot_at old.slots i) ∙ sym (ap is_some (entry_at-with_each link_value old i) ∙ is_some-map (on_value link_value) (slot_at old.slots i))

  pub arena_moves_pointers : IsCanonicalLayout first following reset (value_view old) (link_map old) (value_view new) (link_map new) → AreAllMoves key (value_view old) (link_map old) new.counter moves → ArePointerMoves key (entry old) (entry new) moves
  arena_moves_pointers layout all =
      compression_moves_pointers key first following reset (value_view old) (value_view new) (link_map old) (link_map new) (entry old) (entry new) moves (found-entries (values_of old)) (found-entries (values_of new)) links_stored layout
      (subst (λ (g : Gen). AreAllMoves key (value_view old) (link_map old) g moves) layout.is_counter all)

module _ {Q P G Gen U T : Type 0} (key : Q → ℕ × G) (new_key : P → ℕ × Gen) (before : ℕ → Option (G × U)) (after : ℕ → Option (Gen × T)) where
  abbrev arrived : List (TransferredLink Q P U T) → List ((ℕ × Gen) × T)
  arrived transferred = map (λ (c : TransferredLink Q P U T). (new_key c.to, c.returned)) transferred

  keys_arrived : (transferred : List (TransferredLink Q P U T)) → map (λ (c : TransferredLink Q P U T). new_key c.to) transferred ≡ map (λ (e : (ℕ × Gen) × T). e.0) (arrived transferred)
  keys_arrived [] = refl
  keys_arrived (c ∷ transferred) = ap (λ (ps : List (ℕ × Gen)). new_key c.to ∷ ps) (keys_arrived transferred)

  each_moved : (es : List ((ℕ × G) × U)) (transferred : List (TransferredLink Q P U T)) → ((i : ℕ) → found i es ≡ before i)
      → AllByRecursion (λ (c : TransferredLink Q P U T). found (old_index key c) es ≡ Some ((key c.from).1, value_in c.value)) transferred
      → AllByRecursion (λ (e : (ℕ × Gen) × T). after e.0.0 ≡ Some (e.0.1, e.1)) (arrived transferred) → AllByRecursion (IsMove (λ (c : TransferredLink Q P U T). key c.from) (λ (c : TransferredLink Q P U T). new_key c.to) IsMapped before after) transferred
  each_moved es [] was_read was_stored are_stored = tt
  each_moved es (c ∷ transferred) was_read was_stored are_stored = (
    (
      record { value = value_in c.value; stored = sym (was_read (key c.from).0) ∙ was_stored.0 },
      record { value = c.returned; stored = are_stored.0 },
      (refl, refl),
    ),
    each_moved es transferred was_read was_stored.1 are_stored.1,
  )

pub transfer_moves_pointers : {Q P G Gen U T F : Type 0} (key : Q → ℕ × G) (new_key : P → ℕ × Gen) (following : G → G) (wraps : G → Bool) (call : Mut F (Q × (InvalidationOption U × (P × Unit {0}))) T)
    → TransferMovesPointers key new_key following wraps call
transfer_moves_pointers {Q} {P} {G} {Gen} {U} {T} {F} key new_key following wraps call generation f source source_after links old new before was_read are_stored transfer =
    all_moved (λ (c : TransferredLink Q P U T). key c.from) (λ (c : TransferredLink Q P U T). new_key c.to) (λ c u t. IsMapped c u t) before (entry new) links (map (old_index key) transfer.transferred) (entries (values_of new)) transfer.transferred
    transfer.order are_stored (entries_ascend (values_of new)) (found-entries (values_of new)) refl (keys_arrived key new_key before (entry new) transfer.transferred ∙ sym (ap (map (λ (e : (ℕ × Gen) × T). e.0)) transfer.values))
    (each_moved key new_key before (entry new) source.entries transfer.transferred was_read (recursion_from_All _ transfer.transferred transfer.was_stored)
    (subst (AllByRecursion (λ (e : (ℕ × Gen) × T). entry new e.0.0 ≡ Some (e.0.1, e.1))) transfer.values
    (each_found 1 (entries (values_of new)) (entry new) (entries_ascend (values_of new)) (λ j below. sym (found-entries (values_of new) j)))))
