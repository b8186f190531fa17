-- What each change does to an item.
use Rattle.std.proofs.Common.{◌≡◌, ℕ, inl, inr, ⊎_elim, List, [], ◌∷◌, ◌++◌, Option, sym, ap, ◌∙◌, subst}
use Rattle.std.specs.Prelude.{◌⊎◌, is_some}
use Rattle.std.specs.Option.{option_map}
use Rattle.std.proofs.lemmas.Bool.{cases_eq}
use Rattle.arena_core.specs.PointerKinds.{PointerKind}
use Rattle.chain_laws.specs.Chains.{LinkMap}
use Rattle.chain_laws.proofs.ListLemmas.Members.{IsMember-or_not, IsMember-parts}
use Rattle.arena_traits.specs.Entries.{ArenaView, ArenaState}
use Rattle.arena_traits.specs.CallOutcomes.{IsEntryInserted}
use Rattle.arena_traits.proofs.EntryChangeLemmas.{valued, value_there, values_elsewhere}
use Rattle.chain_lists.specs.Lists.{Item, indexes}
use Rattle.chain_lists.proofs.ItemListLemmas.{same_pointer}
use Rattle.linked_lists.specs.declared.entry.Entry.{Entry}
use Rattle.linked_lists.specs.declared.entry.Entry.TheVariants as entries
use Rattle.linked_lists.specs.LinkedLists.{IsItem, IsList, IsInListOf, ValueBecomes, LeavesList, IsListRemoved}
use Rattle.linked_lists.proofs.ListLemmas.{item_valid, head_or_item, ring_has, placed}

module _ {A Gen T : Type 0} {view : A → ArenaView Gen (Entry T)} {entry : A → ℕ → Option (Gen × Entry T)} (state : (a : A) → ArenaState (view a) (entry a)) (interlinks : A → LinkMap) (old new : A) (p : ℕ × Gen) (item : IsItem (entry old) p) where
  still : entry new p.0 ≡ entry old p.0 → IsItem (entry new) p
  still same = record { value = item.value; stored = same ∙ item.stored }

  pub kept_by_entries : entry new ≡ entry old → IsItem (entry new) p
  kept_by_entries same = still (ap (λ (f : ℕ → Option (Gen × Entry T)). f p.0) same)

  pub kept_by_insertion : (v : Entry T) (q : ℕ × Gen) → IsEntryInserted state old v q new → IsItem (entry new) p
  kept_by_insertion v q is = still (is.entries.rest p.0 (λ same. let some = ap is_some item.stored in let none = ap is_some (ap (entry old) same ∙ is.entries.free) in let both = sym some ∙ none in cc))

  pub kept_by_value : (q : ℕ × Gen) (t : T) → ValueBecomes state interlinks old new q t → IsItem (entry new) p
  kept_by_value q t is = ⊎_elim
      (λ same. record { value = t; stored = ap (entry new) same ∙ (value_there state old new q.0 (entries.Item t) is.view_after ∙ ap (option_map (valued (entries.Item t))) (ap (entry old) (sym same) ∙ item.stored)) })
      (λ other. still (values_elsewhere state old new q.0 (entries.Item t) is.view_after p.0 other))
      (cases_eq p.0 q.0)

  pub removed_or_kept : {P I W : Type 0} (pointers : PointerKind P I Gen W) (q : ℕ × Gen) (t : T) → LeavesList state interlinks old new pointers q t → (q ≡ p) ⊎ IsItem (entry new) p
  removed_or_kept pointers q t is = ⊎_elim
      (λ same. inl (same_pointer (entry old) q p (item_valid (entry old) q t is.removed.0) (item_valid (entry old) p item.value item.stored) (sym same)))
      (λ other. inr (still (is.entries p.0 other)))
      (cases_eq p.0 q.0)

  pub removed_with_list_or_kept : (following : Gen → Gen) (h : ℕ × Gen) (items : List (Item Gen T)) → IsListRemoved state interlinks old new following h items
      → IsInListOf state interlinks old h p ⊎ IsItem (entry new) p
  removed_with_list_or_kept following h items is = ⊎_elim
      (λ has. ⊎_elim
      (λ among. let place = placed state interlinks old h p items item.value is.list item.stored (ring_has h items p.0 (inr among)) in inl (record { value = item.value; before = place.0; after = place.1; list = subst (IsList state interlinks old h) place.2 is.list }))
      (λ head. ⊎_elim (λ same. absurd (head_or_item (entry old) h p item.value is.list.are_stored.0 item.stored same)) (λ none. absurd none) head)
      (IsMember-parts (indexes items) (h.0 ∷ []) p.0 has))
      (λ apart. inr (still (is.removed.entries p.0 apart)))
      (IsMember-or_not (indexes items ++ h.0 ∷ []) p.0)
