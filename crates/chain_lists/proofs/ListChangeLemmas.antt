-- The effect of insertions and removals on lists, linear or cyclic.
use Rattle.std.proofs.Common.{◌≡◌, ◌≢◌, ℕ, List, [], ◌∷◌, ◌++◌, map, Option, Some, refl, sym, ap, ◌∙◌, subst}
use Rattle.std.specs.Prelude.{is_some}
use Rattle.std.proofs.lemmas.List.{map-append}
use Rattle.chain_laws.specs.Chains.{LinkMap, Chain, linear, cyclic, items, IsChain, IsMember, AreDistinct, IsWellLinked, prev_of, next_of}
use Rattle.chain_laws.specs.declared.insert_kind.InsertKind.{InsertKind}
use Rattle.chain_laws.specs.declared.insert_kind.InsertKind.TheVariants.{NextTo, PrevTo}
use Rattle.chain_laws.specs.Insertions.{link_before, link_after}
use Rattle.chain_laws.specs.Frame.{IsDisjointFrom, links_named}
use Rattle.chain_laws.proofs.ChainLemmas.Frame.{insertion_keeps_others}
use Rattle.chain_laws.proofs.ListLemmas.MemberLaws.{once_in_middle}
use Rattle.arena_traits.specs.Entries.{ArenaView, ArenaState, index_of}
use Rattle.arena_traits.specs.Arena.{IsInserted}
use Rattle.chain_links.specs.Insertions.{IsInsertedBetween}
use Rattle.chain_links.proofs.OccupiedIndexLemmas.{unlinked}
use Rattle.chain_lists.specs.Lists.{Item, AreEntries, indexes, IsListOf, KeepsWithout, InsertsAfter, InsertsBefore, IsRemovedFromList, ChangesOnlyListsOf, IsItemInserted, IsItemStarted, IsItemAfter, IsItemBefore}
use Rattle.chain_traits.proofs.GenericRemovalLemmas.{same_entry}
use Rattle.chain_lists.proofs.ItemListLemmas.{are_stored-append, are_stored-left, are_stored-right, are_stored-frame, stored_kept}

pub no_items : {Gen T : Type 0} (xs : List (Item Gen T)) → indexes xs ≡ [] → xs ≡ []
no_items [] none = refl
no_items (x ∷ xs) none = absurd (cc)

members_once : (links : LinkMap) (c : Chain) → IsChain links c → AreDistinct (items c)
members_once links (linear xs) is = is.1
members_once links (cyclic xs) is = is.1

module _ {A Gen T : Type 0} {view : A → ArenaView Gen T} {entry : A → ℕ → Option (Gen × T)} (state : (a : A) → ArenaState (view a) (entry a)) (interlinks : A → LinkMap) (shape : List ℕ → Chain) where
  pub parts : (a : A) (xs ys : List (Item Gen T)) → IsChain (interlinks a) (shape (indexes (xs ++ ys))) → IsChain (interlinks a) (shape (indexes xs ++ indexes ys))
  parts a xs ys = subst (λ (l : List ℕ). IsChain (interlinks a) (shape l)) (map-append index_of xs ys)

  pub whole : (a : A) (xs ys : List (Item Gen T)) → IsChain (interlinks a) (shape (indexes xs ++ indexes ys)) → IsChain (interlinks a) (shape (indexes (xs ++ ys)))
  whole a xs ys = subst (λ (l : List ℕ). IsChain (interlinks a) (shape l)) (sym (map-append index_of xs ys))

  module _ (old new : A) where
    pub stays : entry new ≡ entry old → (xs : List (Item Gen T)) → AreEntries (entry old) xs → IsChain (interlinks new) (shape (indexes xs)) → IsListOf state interlinks shape new xs
    stays same xs are_stored chain = record { chain = chain; are_stored = subst (λ (f : ℕ → Option (Gen × T)). AreEntries f xs) (sym same) are_stored }

module _ {A Gen T : Type 0} {view : A → ArenaView Gen T} {entry : A → ℕ → Option (Gen × T)} (state : (a : A) → ArenaState (view a) (entry a)) (interlinks : A → LinkMap) (shape : List ℕ → Chain) (written : (xs : List ℕ) → items (shape xs) ≡ xs) where
  pub of_chain : (xs : List ℕ) (i : ℕ) → IsMember xs i → IsMember (items (shape xs)) i
  of_chain xs i = subst (λ (l : List ℕ). IsMember l i) (sym (written xs))

  pub once : (a : A) (xs : List ℕ) → IsChain (interlinks a) (shape xs) → AreDistinct xs
  once a xs is = subst AreDistinct (written xs) (members_once (interlinks a) (shape xs) is)

  module _ (old new : A) where
    pub leaves : (e : Item Gen T) → ((i : ℕ) → i ≢ e.0.0 → entry new i ≡ entry old i)
        → ((x y : List ℕ) → IsChain (interlinks old) (shape (x ++ e.0.0 ∷ y)) → x ++ y ≢ [] → IsChain (interlinks new) (shape (x ++ y))) → IsRemovedFromList state interlinks shape old new e
    leaves e same shrinks before after is filled =
        let chain = parts state interlinks shape old before (e ∷ after) is.chain in
        let apart = ((once_in_middle (indexes before) (indexes after) e.0.0).0 (once old (indexes before ++ e.0.0 ∷ indexes after) chain)).0 in
        record {
          chain = whole state interlinks shape new before after (shrinks (indexes before) (indexes after) chain (λ none. filled (no_items (before ++ after) (map-append index_of before after ∙ none))));
          are_stored = are_stored-frame (entry old) (entry new) (before ++ after)
              (λ i has. same i (λ is_e. apart (subst (λ (l : List ℕ). IsMember l e.0.0) (map-append index_of before after) (subst (IsMember (indexes (before ++ after))) is_e has))))
              (are_stored-append (entry old) before after (are_stored-left (entry old) before (e ∷ after) is.are_stored) (are_stored-right (entry old) before (e ∷ after) is.are_stored).1);
        }

    pub keeps_left : (p : ℕ × Gen) → ((i : ℕ) → i ≢ p.0 → entry new i ≡ entry old i)
        → ((c : Chain) → (IsMember (items c) p.0 → ⊥) → IsChain (interlinks old) c → IsChain (interlinks new) c) → KeepsWithout state interlinks shape old new (p ∷ [])
    keeps_left p same rest xs absent is = record {
      chain = rest (shape (indexes xs)) absent.0 is.chain;
      are_stored = are_stored-frame (entry old) (entry new) xs (λ i has. same i (λ is_p. absent.0 (of_chain (indexes xs) p.0 (subst (IsMember (indexes xs)) is_p has)))) is.are_stored;
    }

module _ {A Gen T : Type 0} {view : A → ArenaView Gen T} {entry : A → ℕ → Option (Gen × T)} (state : (a : A) → ArenaState (view a) (entry a)) (interlinks : A → LinkMap) (alike : (a : A) (i : ℕ) → is_some (interlinks a i) ≡ is_some (entry a i))
    (shape : List ℕ → Chain) (old new : A) (agrees : IsWellLinked (interlinks old)) (q : ℕ × Gen) (t : T) where
  module _ (gained : IsInserted (entry old) (entry new) q t) where
    kept : (xs : List (Item Gen T)) → AreEntries (entry old) xs → AreEntries (entry new) xs
    kept = stored_kept (entry old) (entry new) q gained.free gained.rest

    added_after : (p : ℕ × Gen) → ((x y : List ℕ) → IsChain (interlinks old) (shape (x ++ p.0 ∷ y)) → IsChain (interlinks new) (shape (x ++ p.0 ∷ q.0 ∷ y)))
        → InsertsAfter state interlinks shape old new p (q, t)
    added_after p grows s before after is =
        let right = are_stored-right (entry old) before ((p, s) ∷ after) is.are_stored in
        record {
          chain = whole state interlinks shape new before ((p, s) ∷ (q, t) ∷ after) (grows (indexes before) (indexes after) (parts state interlinks shape old before ((p, s) ∷ after) is.chain));
          are_stored = are_stored-append (entry new) before ((p, s) ∷ (q, t) ∷ after) (kept before (are_stored-left (entry old) before ((p, s) ∷ after) is.are_stored))
              ((kept ((p, s) ∷ []) (right.0, tt)).0, (gained.stored, kept after right.1));
        }

    added_before : (p : ℕ × Gen) → ((x y : List ℕ) → IsChain (interlinks old) (shape (x ++ p.0 ∷ y)) → IsChain (interlinks new) (shape (x ++ q.0 ∷ p.0 ∷ y)))
        → InsertsBefore state interlinks shape old new p (q, t)
    added_before p grows s before after is = record {
      chain = whole state interlinks shape new before ((q, t) ∷ (p, s) ∷ after) (grows (indexes before) (indexes after) (parts state interlinks shape old before ((p, s) ∷ after) is.chain));
      are_stored = are_stored-append (entry new) before ((q, t) ∷ (p, s) ∷ after) (kept before (are_stored-left (entry old) before ((p, s) ∷ after) is.are_stored))
          (gained.stored, kept ((p, s) ∷ after) (are_stored-right (entry old) before ((p, s) ∷ after) is.are_stored));
    }

  item_inserted : (kind : InsertKind ℕ ℕ) (beside : List (ℕ × Gen)) (list_after : Type 0) → map (λ (p : ℕ × Gen). p.0) beside ≡ links_named (λ i. i) (λ i. i) kind
      → IsInsertedBetween state interlinks (link_before (λ i. i) (λ i. i) (interlinks old) kind q.0) (link_after (λ i. i) (λ i. i) (interlinks old) kind q.0) old t q new
      → list_after → IsItemInserted state interlinks shape old new list_after beside (q, t)
  item_inserted kind beside list_after same gained list = record {
    list = list;
    item = record { entries = gained.entries; more = gained.more; generation = gained.generation; index = gained.index; slots = gained.slots; counter = gained.counter; maximum = gained.maximum };
    others = λ xs absent is. record {
      chain = insertion_keeps_others ℕ ℕ (λ i. i) (λ i. i) (interlinks old) (interlinks new) kind q.0 agrees (unlinked (entry old) (interlinks old) q.0 (alike old q.0) gained.entries.free) gained.chains
          (shape (indexes xs)) (subst (IsDisjointFrom (shape (indexes xs))) same absent) is.chain;
      are_stored = kept gained.entries xs is.are_stored;
    };
  }

  pub item_started : (kind : InsertKind ℕ ℕ) → [] ≡ links_named (λ i. i) (λ i. i) kind
      → IsInsertedBetween state interlinks (link_before (λ i. i) (λ i. i) (interlinks old) kind q.0) (link_after (λ i. i) (λ i. i) (interlinks old) kind q.0) old t q new
      → IsChain (interlinks new) (shape (q.0 ∷ [])) → IsItemStarted state interlinks shape old new (q, t)
  item_started kind alone gained chain = item_inserted kind [] _ alone gained (record { chain = chain; are_stored = (gained.entries.stored, tt) })

  pub item_after : (p : ℕ × Gen) → IsInsertedBetween state interlinks (Some p.0) (next_of (interlinks old) p.0) old t q new
      → ((x y : List ℕ) → IsChain (interlinks old) (shape (x ++ p.0 ∷ y)) → IsChain (interlinks new) (shape (x ++ p.0 ∷ q.0 ∷ y))) → IsItemAfter state interlinks shape old new p (q, t)
  item_after p gained grows = item_inserted (NextTo p.0) (p ∷ []) _ refl gained (added_after gained.entries p grows)

  pub item_before : (p : ℕ × Gen) → IsInsertedBetween state interlinks (prev_of (interlinks old) p.0) (Some p.0) old t q new
      → ((x y : List ℕ) → IsChain (interlinks old) (shape (x ++ p.0 ∷ y)) → IsChain (interlinks new) (shape (x ++ q.0 ∷ p.0 ∷ y))) → IsItemBefore state interlinks shape old new p (q, t)
  item_before p gained grows = item_inserted (PrevTo p.0) (p ∷ []) _ refl gained (added_before gained.entries p grows)

pub changes_only : {A Gen T : Type 0} {view : A → ArenaView Gen T} {entry : A → ℕ → Option (Gen × T)} (state : (a : A) → ArenaState (view a) (entry a)) (interlinks : A → LinkMap) (shape : List ℕ → Chain) (old new : A) (pointers : List (ℕ × Gen))
    → KeepsWithout state interlinks shape old new pointers → view new ≡ view old → ChangesOnlyListsOf state interlinks shape old new pointers
changes_only {Gen = Gen} {T = T} state interlinks shape old new pointers others same =
    record { others = others; entries = same_entry state old new (ap (λ (s : ArenaView Gen T). s.entries) same); view_after = same }
