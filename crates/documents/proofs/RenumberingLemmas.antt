-- A renumbering moves the ring of each document.
use Rattle.std.proofs.Common.{◌≡◌, ℕ, inl, inr, ⊎_elim, List, [], ◌∷◌, map, Option, None, Some, refl, sym, ap, ◌∙◌, subst}
use Rattle.std.specs.Prelude.{is_some, true, IfOk, OnErr, Result, Ok, Err}
use Rattle.chain_laws.specs.Chains.{LinkMap, IsMember}
use Rattle.chain_laws.proofs.InterlinkLemmas.Inverses.{one_some}
use Rattle.arena_traits.specs.Arena.{IsValid}
use Rattle.arena_traits.specs.Entries.{ArenaView, ArenaState}
use Rattle.chain_lists.specs.Lists.{Item, AreEntries, indexes, IsRing}
use Rattle.chain_lists.proofs.ItemListLemmas.{same_pointer}
use Rattle.chain_renumbering.specs.Renumbering.{Moves, AreItemsMoved, IsRenumbered}
use Rattle.chain_renumbering.proofs.MovedItemLemmas.{moved_cons, moved_map}
use Rattle.linked_lists.specs.declared.entry.Entry.{Entry}
use Rattle.linked_lists.specs.declared.entry.Entry.TheVariants as entries
use Rattle.linked_lists.specs.LinkedLists.{as_item, ring_of, IsList, IsInList, EachInList}
use Rattle.documents.specs.Renumbering.{IsDocumentMoved, MovesDocuments}

moved_member : {Gen V : Type 0} (move : Moves Gen) (entry : ℕ → Option (Gen × V)) (p q : ℕ × Gen) → IsValid entry p → move p ≡ Some q → (xs ys : List (Item Gen V)) → AreItemsMoved move xs ys → AreEntries entry xs → IsMember (indexes xs) p.0 → IsMember (indexes ys) q.0
moved_member move entry p q valid is [] ys moved stored has = absurd has
moved_member {Gen} {V} move entry p q valid is (e ∷ xs) ys moved stored has =
    let first = moved_cons move e xs ys moved in
    subst (λ (l : List (Item Gen V)). IsMember (indexes l) q.0) (sym first.2) (⊎_elim
    (λ same.
    let here : e.0 ≡ p = same_pointer entry e.0 p (record { value = e.1; stored = stored.0 }) valid same in
    inl (ap (λ (k : ℕ × Gen). k.0) (one_some (sym first.3 ∙ (ap move here ∙ is)))))
    (λ later. inr (moved_member move entry p q valid is xs first.1 first.5 stored.1 later))
    has)

module _ {A Gen T : Type 0} {view : A → ArenaView Gen (Entry T)} {entry : A → ℕ → Option (Gen × Entry T)} (state : (a : A) → ArenaState (view a) (entry a)) (interlinks : A → LinkMap) (old new : A)
    (begins : Gen) (following : Gen → Gen) (move : Moves Gen) (is : IsRenumbered begins following view entry interlinks old new move) where
  ring_moved : (d : ℕ × Gen) (paragraphs : List (Item Gen T)) → IsList state interlinks old d paragraphs
      → (moved : IsDocumentMoved state interlinks old new move d paragraphs) × AreItemsMoved move (ring_of d paragraphs) (ring_of moved.handle moved.after)
  ring_moved d paragraphs was =
      let ring = is.rings state (ring_of d paragraphs) was in
      let first = moved_cons move (d, entries.Head) (map as_item paragraphs) ring.0 ring.1 in
      let rest = moved_map move entries.Item paragraphs first.1 first.5 in
      let whole : ring.0 ≡ ring_of first.0.0 rest.0 = first.2 ∙ (ap (λ (v : Entry T). (first.0.0, v) ∷ first.1) (sym first.4) ∙ ap (λ (l : List (Item Gen (Entry T))). (first.0.0, entries.Head) ∷ l) rest.1) in (
        record {
          handle = first.0.0;
          handle_moved = first.3;
          after = rest.0;
          paragraphs_moved = rest.2;
          document = subst (IsRing state interlinks new) whole ring.2;
        },
        subst (AreItemsMoved move (ring_of d paragraphs)) whole ring.1,
      )

  pub moves_documents : MovesDocuments state interlinks old new move
  moves_documents d paragraphs was = (ring_moved d paragraphs was).0

  pub each_renumbered : EachInList state interlinks old → EachInList state interlinks new
  each_renumbered each i some = by (entry new i) refl some
    where
      by : (o : Option (Gen × Entry T)) → entry new i ≡ o → is_some (entry new i) ≡ true → IsInList state interlinks new i
      by None at some = absurd (let none = ap is_some at in let both = sym some ∙ none in cc)
      by (Some (g, v)) at some =
          let from = is.onto (i, g) (record { value = v; stored = at }) in
          let valid = (is.valid from.0).0 (ap is_some from.1) in
          let there = each from.0.0 (ap is_some valid.stored) in
          let moved = ring_moved there.handle there.items there.list in
          record {
            handle = moved.0.handle;
            items = moved.0.after;
            list = moved.0.document;
            among = moved_member move (entry old) from.0 (i, g) valid from.1 (ring_of there.handle there.items) (ring_of moved.0.handle moved.0.after) moved.1 there.list.are_stored there.among;
          }

pub each_after : {A Gen T R E : Type 0} {view : A → ArenaView Gen (Entry T)} {entry : A → ℕ → Option (Gen × Entry T)} (state : (a : A) → ArenaState (view a) (entry a)) (interlinks : A → LinkMap) (old new : A)
    (begins : Gen) (following : Gen → Gen) (move : R → Moves Gen) (r : Result R E) → IfOk r (λ m. IsRenumbered begins following view entry interlinks old new (move m)) → OnErr r (new ≡ old) → EachInList state interlinks old → EachInList state interlinks new
each_after state interlinks old new begins following move (Ok m) is same each = each_renumbered state interlinks old new begins following (move m) is each
each_after state interlinks old new begins following move (Err why) is same each = subst (EachInList state interlinks) (sym same) each

module _ {A Gen T R E : Type 0} {view : A → ArenaView Gen (Entry T)} {entry : A → ℕ → Option (Gen × Entry T)} (state : (a : A) → ArenaState (view a) (entry a)) (interlinks : A → LinkMap) (old taken after new : A)
    (was : taken ≡ old) (is_put : new ≡ after) (begins : Gen) (following : Gen → Gen) (move : R → Moves Gen) where
  pub renumbers : (r : Result R E) → IfOk r (λ m. IsRenumbered begins following view entry interlinks taken after (move m)) → IfOk r (λ m. IsRenumbered begins following view entry interlinks old new (move m))
  renumbers (Ok m) is = subst (λ (a : A). IsRenumbered begins following view entry interlinks a new (move m)) was (subst (λ (b : A). IsRenumbered begins following view entry interlinks taken b (move m)) (sym is_put) is)
  renumbers (Err why) is = tt

  pub renumbers_documents : (r : Result R E) → IfOk r (λ m. IsRenumbered begins following view entry interlinks taken after (move m)) → IfOk r (λ m. MovesDocuments state interlinks old new (move m))
  renumbers_documents (Ok m) is = moves_documents state interlinks old new begins following (move m) (renumbers (Ok m) is)
  renumbers_documents (Err why) is = tt

  pub puts_back : (r : Result R E) → OnErr r (after ≡ taken) → OnErr r (new ≡ old)
  puts_back (Ok m) same = tt
  puts_back (Err why) same = is_put ∙ (same ∙ was)
