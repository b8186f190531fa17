-- Moves of an item directly after another link.
use Rattle.std.proofs.Common.{◌≡◌, ◌≢◌, ℕ, inl, inr, ⊎_elim, List, [], ◌∷◌, ◌++◌, map, Option, None, Some, refl, sym, ap, ◌∙◌, subst, append_assoc}
use Rattle.std.specs.Prelude.{◌⊎◌, is_some, true, IfNone}
use Rattle.std.proofs.lemmas.Bool.{cases_eq}
use Rattle.std.proofs.lemmas.List.{map-append, append-nil}
use Rattle.chain_laws.specs.Chains.{LinkMap, cyclic, IsMember}
use Rattle.chain_laws.specs.MoveAfter.{MovesAfter}
use Rattle.chain_laws.proofs.InterlinkLemmas.Inverses.{one_some}
use Rattle.arena_traits.specs.Arena.{IsValid}
use Rattle.arena_traits.specs.Entries.{ArenaView, ArenaState, index_of, last_key}
use Rattle.chain_links.specs.CallEffects.{MovesLinkAfter}
use Rattle.chain_links.specs.ChainArena.{CanMove}
use Rattle.chain_traits.proofs.GenericRemovalLemmas.{same_entry}
use Rattle.chain_lists.specs.Lists.{Item, indexes, IsRing}
use Rattle.chain_lists.proofs.ItemListLemmas.{are_stored-append, are_stored-left, are_stored-right, same_pointer, among-left, among-right, among-parts, last_apart, last_is, apart}
use Rattle.chain_lists.proofs.ListChangeLemmas.{parts, whole, stays}
use Rattle.linked_lists.specs.declared.entry.Entry.{Entry}
use Rattle.linked_lists.specs.declared.entry.Entry.TheVariants as entries
use Rattle.linked_lists.specs.LinkedLists.{as_item, ring_of, IsHandle, IsItem, IsList, EachInList, Becomes, KeepsOthers, KeepsEntries, IsItemMoved, AtStart, AtEnd, DirectlyAfter, MovesToFront, MovesToBack, MovesAfterItem}
use Rattle.linked_lists.proofs.RingLemmas.{ring_rotated}
use Rattle.linked_lists.proofs.ListLemmas.{indexes-items, ring_parts, ring_has, ring_member, ring_more, same_handle, same_list, list_of, place_of, item_of, head_or_item, item_valid, head_valid, each_kept, each_kept_two}
use Rattle.linked_lists.proofs.InsertionLemmas.{has_item}

pub in_one_part : {X : Type 0} (xs ys x y : List X) (e : X) → xs ++ ys ≡ x ++ e ∷ y → ((m : List X) × (xs ≡ x ++ e ∷ m) × (y ≡ m ++ ys)) ⊎ ((m : List X) × (x ≡ xs ++ m) × (ys ≡ m ++ e ∷ y))
in_one_part [] ys x y e same = inr (x, refl, same)
in_one_part (a ∷ xs) ys [] y e same =
    let first : a ≡ e = cc in
    let rest : xs ++ ys ≡ y = cc in
    inl (xs, ap (λ b. b ∷ xs) first, sym rest)
in_one_part {X} (a ∷ xs) ys (b ∷ x) y e same =
    let first : a ≡ b = cc in
    let rest : xs ++ ys ≡ x ++ e ∷ y = cc in
    ⊎_elim
    (λ left. inl (left.0, ap (λ (l : List X). a ∷ l) left.1 ∙ ap (λ c. c ∷ x ++ e ∷ left.0) first, left.2))
    (λ right. inr (right.0, ap (λ (l : List X). b ∷ l) right.1 ∙ ap (λ c. c ∷ xs ++ right.0) (sym first), right.2))
    (in_one_part xs ys x y e rest)

module _ {A Gen V : Type 0} {view : A → ArenaView Gen V} {entry : A → ℕ → Option (Gen × V)} (state : (a : A) → ArenaState (view a) (entry a)) (interlinks : A → LinkMap)
    (old new : A) (p q : ℕ × Gen) (moves : MovesAfter (interlinks old) (interlinks new) p.0 q.0) (same : entry new ≡ entry old) where
  moved_around : (v s : V) (x y : List (Item Gen V)) → IsRing state interlinks old ((p, v) ∷ x ++ (q, s) ∷ y) → IsRing state interlinks new (x ++ (q, s) ∷ (p, v) ∷ y)
  moved_around v s x y is =
      let right = are_stored-right (entry old) x ((q, s) ∷ y) is.are_stored.1 in
      stays state interlinks cyclic old new same (x ++ (q, s) ∷ (p, v) ∷ y)
      (are_stored-append (entry old) x ((q, s) ∷ (p, v) ∷ y) (are_stored-left (entry old) x ((q, s) ∷ y) is.are_stored.1) (right.0, (is.are_stored.0, right.1)))
      (whole state interlinks cyclic new x ((q, s) ∷ (p, v) ∷ y) (moves.around (indexes x) (indexes y) (parts state interlinks cyclic old ((p, v) ∷ x) ((q, s) ∷ y) is.chain)))

  pub moved_within : (v s : V) (xs ys x y : List (Item Gen V)) → IsRing state interlinks old (xs ++ (p, v) ∷ ys) → xs ++ ys ≡ x ++ (q, s) ∷ y → IsRing state interlinks new (x ++ (q, s) ∷ (p, v) ∷ y)
  moved_within v s xs ys x y is split = ⊎_elim behind ahead (in_one_part xs ys x y (q, s) split)
    where
      behind : (m : List (Item Gen V)) × (xs ≡ x ++ (q, s) ∷ m) × (y ≡ m ++ ys) → IsRing state interlinks new (x ++ (q, s) ∷ (p, v) ∷ y)
      behind (m, left, right) =
          let turned = ring_rotated state interlinks old (x ++ (q, s) ∷ m) ((p, v) ∷ ys) (subst (λ (l : List (Item Gen V)). IsRing state interlinks old (l ++ (p, v) ∷ ys)) left is) in
          let from_p = subst (λ (l : List (Item Gen V)). IsRing state interlinks old ((p, v) ∷ l)) (sym (append_assoc ys x ((q, s) ∷ m))) turned in
          let moved = subst (IsRing state interlinks new) (append_assoc ys x ((q, s) ∷ (p, v) ∷ m)) (moved_around v s (ys ++ x) m from_p) in
          let back = ring_rotated state interlinks new ys (x ++ (q, s) ∷ (p, v) ∷ m) moved in
          subst (λ (l : List (Item Gen V)). IsRing state interlinks new (x ++ (q, s) ∷ (p, v) ∷ l)) (sym right) (subst (IsRing state interlinks new) (append_assoc x ((q, s) ∷ (p, v) ∷ m) ys) back)

      ahead : (m : List (Item Gen V)) × (x ≡ xs ++ m) × (ys ≡ m ++ (q, s) ∷ y) → IsRing state interlinks new (x ++ (q, s) ∷ (p, v) ∷ y)
      ahead (m, left, right) =
          let turned = ring_rotated state interlinks old xs ((p, v) ∷ m ++ (q, s) ∷ y) (subst (λ (l : List (Item Gen V)). IsRing state interlinks old (xs ++ (p, v) ∷ l)) right is) in
          let from_p = subst (λ (l : List (Item Gen V)). IsRing state interlinks old ((p, v) ∷ l)) (append_assoc m ((q, s) ∷ y) xs) turned in
          let moved = subst (IsRing state interlinks new) (sym (append_assoc m ((q, s) ∷ (p, v) ∷ y) xs)) (moved_around v s m (y ++ xs) from_p) in
          let back = ring_rotated state interlinks new (m ++ (q, s) ∷ (p, v) ∷ y) xs moved in
          subst (λ (l : List (Item Gen V)). IsRing state interlinks new (l ++ (q, s) ∷ (p, v) ∷ y)) (sym left) (subst (IsRing state interlinks new) (sym (append_assoc xs m ((q, s) ∷ (p, v) ∷ y))) back)

  pub moved_from : (v : V) (xs ys : List (Item Gen V)) → IsRing state interlinks old (xs ++ (p, v) ∷ ys) → (IsMember (indexes (xs ++ ys)) q.0 → ⊥) → (indexes xs ++ indexes ys ≢ []) → IsRing state interlinks new (xs ++ ys)
  moved_from v xs ys is apart filled = stays state interlinks cyclic old new same (xs ++ ys)
      (are_stored-append (entry old) xs ys (are_stored-left (entry old) xs ((p, v) ∷ ys) is.are_stored) (are_stored-right (entry old) xs ((p, v) ∷ ys) is.are_stored).1)
      (whole state interlinks cyclic new xs ys (moves.from_cyclic (indexes xs) (indexes ys) (parts state interlinks cyclic old xs ((p, v) ∷ ys) is.chain)
      (λ has. apart (subst (λ (l : List ℕ). IsMember l q.0) (sym (map-append index_of xs ys)) has)) filled))

  pub moved_to : (v s : V) (x y : List (Item Gen V)) → entry old p.0 ≡ Some (p.1, v) → IsRing state interlinks old (x ++ (q, s) ∷ y) → (IsMember (indexes (x ++ (q, s) ∷ y)) p.0 → ⊥) → IsRing state interlinks new (x ++ (q, s) ∷ (p, v) ∷ y)
  moved_to v s x y at is apart =
      let right = are_stored-right (entry old) x ((q, s) ∷ y) is.are_stored in
      stays state interlinks cyclic old new same (x ++ (q, s) ∷ (p, v) ∷ y)
      (are_stored-append (entry old) x ((q, s) ∷ (p, v) ∷ y) (are_stored-left (entry old) x ((q, s) ∷ y) is.are_stored) (right.0, (at, right.1)))
      (whole state interlinks cyclic new x ((q, s) ∷ (p, v) ∷ y) (moves.to_cyclic (indexes x) (indexes y) (parts state interlinks cyclic old x ((q, s) ∷ y) is.chain)
      (λ has. apart (subst (λ (l : List ℕ). IsMember l p.0) (sym (map-append index_of x ((q, s) ∷ y))) has))))

  pub moved_rest : (xs : List (Item Gen V)) → (IsMember (indexes xs) p.0 → ⊥) → (IsMember (indexes xs) q.0 → ⊥) → IsRing state interlinks old xs → IsRing state interlinks new xs
  moved_rest xs no_p no_q is = stays state interlinks cyclic old new same xs is.are_stored (moves.rest (cyclic (indexes xs)) no_p no_q is.chain)

-- In the ring of a list, `e` comes after `q`.
pub record ComesAfter {Gen T : Type 0} (q k : ℕ × Gen) (e : Item Gen T) (others items : List (Item Gen T)) : Type 0 where
  pub value : Entry T
  pub before : List (Item Gen (Entry T))
  pub after : List (Item Gen (Entry T))
  pub was : ring_of k others ≡ before ++ (q, value) ∷ after
  pub is : ring_of k items ≡ before ++ (q, value) ∷ as_item e ∷ after

module _ {Gen T : Type 0} (q k : ℕ × Gen) (e : Item Gen T) (others items : List (Item Gen T)) (at : ComesAfter q k e others items) where
  has_place : IsMember (indexes (ring_of k others)) q.0
  has_place = subst (λ (l : List (Item Gen (Entry T))). IsMember (indexes l) q.0) (sym at.was) (among-right at.before ((q, at.value) ∷ at.after) q.0 (inl refl))

  has_new : IsMember (indexes (ring_of k items)) e.0.0
  has_new = subst (λ (l : List (Item Gen (Entry T))). IsMember (indexes l) e.0.0) (sym at.is) (among-right at.before ((q, at.value) ∷ as_item e ∷ at.after) e.0.0 (inr (inl refl)))

  has_others : (i : ℕ) → IsMember (indexes (ring_of k others)) i → IsMember (indexes (ring_of k items)) i
  has_others i has = subst (λ (l : List (Item Gen (Entry T))). IsMember (indexes l) i) (sym at.is) (⊎_elim
      (λ left. among-left at.before ((q, at.value) ∷ as_item e ∷ at.after) i left)
      (λ right. among-right at.before ((q, at.value) ∷ as_item e ∷ at.after) i (⊎_elim (λ is. inl is) (λ later. inr (inr later)) right))
      (among-parts at.before ((q, at.value) ∷ at.after) i (subst (λ (l : List (Item Gen (Entry T))). IsMember (indexes l) i) at.was has)))

pub without_item : {Gen T : Type 0} (h : ℕ × Gen) (before after : List (Item Gen T)) (e : Item Gen T) (i : ℕ) → IsMember (indexes (ring_of h (before ++ e ∷ after))) i → (e.0.0 ≡ i) ⊎ IsMember (indexes (ring_of h (before ++ after))) i
without_item h before after e i has = ⊎_elim
    (λ head. inr (ring_has h (before ++ after) i (inl head)))
    (λ among. ⊎_elim
    (λ left. inr (ring_has h (before ++ after) i (inr (among-left before after i left))))
    (λ right. ⊎_elim (λ is. inl is) (λ later. inr (ring_has h (before ++ after) i (inr (among-right before after i later)))) right)
    (among-parts before (e ∷ after) i among))
    (ring_member h (before ++ e ∷ after) i has)

module _ {A Gen T : Type 0} {view : A → ArenaView Gen (Entry T)} {entry : A → ℕ → Option (Gen × Entry T)} (state : (a : A) → ArenaState (view a) (entry a)) (interlinks : A → LinkMap)
    (old new : A) (p : ℕ × Gen) (place : ℕ × Gen → Item Gen T → List (Item Gen T) → List (Item Gen T) → Type 0) where
  module _ (q : ℕ × Gen) (moves : MovesAfter (interlinks old) (interlinks new) p.0 q.0) (kept : KeepsEntries state interlinks old new) where
    module _ (h : ℕ × Gen) (t : T) (before after : List (Item Gen T)) (was : IsList state interlinks old h (before ++ (p, t) ∷ after)) where
      ring_was : IsRing state interlinks old (ring_of h before ++ (p, entries.Item t) ∷ map as_item after)
      ring_was = subst (IsRing state interlinks old) (ring_parts h before ((p, t) ∷ after)) was

      has_p : IsMember (indexes (ring_of h (before ++ (p, t) ∷ after))) p.0
      has_p = has_item state interlinks old new p (p, t) h t before after

      not_in : (k : ℕ × Gen) (others : List (Item Gen T)) (i : ℕ) → h ≢ k → IsList state interlinks old k others → IsMember (indexes (ring_of h (before ++ (p, t) ∷ after))) i → IsMember (indexes (ring_of k others)) i → ⊥
      not_in k others i other is in_h in_k = other (same_handle state interlinks old h k (before ++ (p, t) ∷ after) others i was is in_h in_k)

      more_links : (i : ℕ) → IsMember (indexes (ring_of h (before ++ after))) i → IsMember (indexes (ring_of h (before ++ (p, t) ∷ after))) i
      more_links i has = ring_more h before after ((p, t) ∷ after) (λ j later. inr later) i has

      moved_in_list : (items : List (Item Gen T)) → ComesAfter q h (p, t) (before ++ after) items → Becomes state interlinks old new h items
      moved_in_list items at = record {
        list = subst (IsRing state interlinks new) (sym at.is) (moved_within state interlinks old new p q moves kept.0 (entries.Item t) at.value (ring_of h before) (map as_item after) at.before at.after ring_was (sym (ring_parts h before after) ∙ at.was));
        others = λ k ys none other. moved_rest state interlinks old new p q moves kept.0 (ring_of k ys)
            (λ has. not_in k ys p.0 (λ same. none.0 (sym same)) other has_p has)
            (λ has. not_in k ys q.0 (λ same. none.0 (sym same)) other (more_links q.0 (has_place q h (p, t) (before ++ after) items at)) has) other;
      }

      moved_between : (k : ℕ × Gen) (others items : List (Item Gen T)) → h ≢ k → IsList state interlinks old k others → ComesAfter q k (p, t) others items
          → IsList state interlinks new h (before ++ after) × IsList state interlinks new k items × KeepsOthers state interlinks old new (h ∷ k ∷ [])
      moved_between k others items other is at =
          let in_k = has_place q k (p, t) others items at in (
            subst (IsRing state interlinks new) (sym (ring_parts h before after)) (moved_from state interlinks old new p q moves kept.0 (entries.Item t) (ring_of h before) (map as_item after) ring_was
                (λ has. not_in k others q.0 other is (more_links q.0 (subst (λ (l : List (Item Gen (Entry T))). IsMember (indexes l) q.0) (sym (ring_parts h before after)) has)) in_k) (λ none. cc)),
            subst (IsRing state interlinks new) (sym at.is) (moved_to state interlinks old new p q moves kept.0 (entries.Item t) at.value at.before at.after (item_of state interlinks old h p t before after was) (subst (IsRing state interlinks old) at.was is)
                (λ has. not_in k others p.0 other is has_p (subst (λ (l : List (Item Gen (Entry T))). IsMember (indexes l) p.0) (sym at.was) has))),
            λ j ys none there. moved_rest state interlinks old new p q moves kept.0 (ring_of j ys)
                (λ has. not_in j ys p.0 (λ same. none.0 (sym same)) there has_p has)
                (λ has. none.1.0 (same_handle state interlinks old j k ys others q.0 there is has in_k)) there,
          )

    pub item_moved : ((h : ℕ × Gen) (t : T) (before after items : List (Item Gen T)) → IsList state interlinks old h (before ++ (p, t) ∷ after) → place h (p, t) (before ++ after) items → ComesAfter q h (p, t) (before ++ after) items)
        → ((k : ℕ × Gen) (t : T) (others items : List (Item Gen T)) → IsList state interlinks old k others → place k (p, t) others items → ComesAfter q k (p, t) others items)
        → IsItemMoved state interlinks old new p place
    item_moved within between = record {
      within = λ h t before after items was at. moved_in_list h t before after was items (within h t before after items was at);
      between = λ h k t before after others items other was is at. moved_between h t before after was k others items other is (between k t others items is at);
      entries = kept;
    }

  -- Where an item goes: within its list, or to another one.
  abbrev pub Goes : ℕ × Gen → T → List (Item Gen T) → List (Item Gen T) → Type 0
  Goes h t before after = ((items : List (Item Gen T)) × place h (p, t) (before ++ after) items)
      ⊎ ((k : ℕ × Gen) × (others : List (Item Gen T)) × (items : List (Item Gen T)) × (h ≢ k) × IsList state interlinks old k others × place k (p, t) others items)

  abbrev pub KeepsLinks : Type 0
  KeepsLinks = (k : ℕ × Gen) (t : T) (others items : List (Item Gen T)) → place k (p, t) others items → (i : ℕ) → ((p.0 ≡ i) ⊎ IsMember (indexes (ring_of k others)) i) → IsMember (indexes (ring_of k items)) i

  pub each_moved : EachInList state interlinks old → IsItem (entry old) p → IsItemMoved state interlinks old new p place → KeepsLinks
      → ((h : ℕ × Gen) (t : T) (before after : List (Item Gen T)) → IsList state interlinks old h (before ++ (p, t) ∷ after) → Goes h t before after) → EachInList state interlinks new
  each_moved each item moved keeps goes =
      let t = item.value in
      let at = place_of state interlinks old each p t item.stored in
      ⊎_elim (within t at.handle at.before at.after at.list) (between t at.handle at.before at.after at.list) (goes at.handle t at.before at.after at.list)
    where
      was_some : (i : ℕ) → is_some (entry new i) ≡ true → is_some (entry old i) ≡ true
      was_some i some = ap (λ (f : ℕ → Option (Gen × Entry T)). is_some (f i)) (sym moved.entries.0) ∙ some

      within : (t : T) (h : ℕ × Gen) (before after : List (Item Gen T)) → IsList state interlinks old h (before ++ (p, t) ∷ after) → (items : List (Item Gen T)) × place h (p, t) (before ++ after) items → EachInList state interlinks new
      within t h before after was (items, at) = each_kept state interlinks old new each h (before ++ (p, t) ∷ after) items was (moved.within h t before after items was at)
          (λ i some apart. (was_some i some, λ has. apart (keeps h t (before ++ after) items at i (without_item h before after (p, t) i has))))

      between : (t : T) (h : ℕ × Gen) (before after : List (Item Gen T)) → IsList state interlinks old h (before ++ (p, t) ∷ after)
          → (k : ℕ × Gen) × (others : List (Item Gen T)) × (items : List (Item Gen T)) × (h ≢ k) × IsList state interlinks old k others × place k (p, t) others items → EachInList state interlinks new
      between t h before after was (k, others, items, other, is, at) =
          let now = moved.between h k t before after others items other was is at in
          each_kept_two state interlinks old new each h k (before ++ (p, t) ∷ after) others (before ++ after) items was is now.0 now.1 now.2
          (λ i some no_h no_k. (
            was_some i some,
            (λ has. ⊎_elim (λ same. no_k (keeps k t others items at i (inl same))) (λ among. no_h among) (without_item h before after (p, t) i has)),
            (λ has. no_k (keeps k t others items at i (inr has))),
          ))

pub handle_or_other : {Gen T : Type 0} (entry : ℕ → Option (Gen × Entry T)) (h k : ℕ × Gen) → IsHandle entry h → IsHandle entry k → (h ≡ k) ⊎ (h ≢ k)
handle_or_other {Gen} entry h k one two = ⊎_elim
    (λ same. inl (same_pointer entry h k (head_valid entry h one) (head_valid entry k two) same))
    (λ other. inr (λ same. other (ap (λ (q : ℕ × Gen). q.0) same)))
    (cases_eq h.0 k.0)

module _ {Gen T : Type 0} where
  pub start_place : (h k : ℕ × Gen) (e : Item Gen T) (others items : List (Item Gen T)) → AtStart h k e others items → ComesAfter h k e others items
  start_place h k e others items (same, is) = record {
    value = entries.Head;
    before = [];
    after = map as_item others;
    was = ap (λ (q : ℕ × Gen). (q, entries.Head) ∷ map as_item others) same;
    is = ap (ring_of k) is ∙ ap (λ (q : ℕ × Gen). (q, entries.Head) ∷ as_item e ∷ map as_item others) same;
  }

  pub item_place : (q k : ℕ × Gen) (e : Item Gen T) (others items : List (Item Gen T)) → DirectlyAfter q k e others items → ComesAfter q k e others items
  item_place q k e others items (s, x, y, was, is) = record {
    value = entries.Item s;
    before = ring_of k x;
    after = map as_item y;
    was = ap (ring_of k) was ∙ ring_parts k x ((q, s) ∷ y);
    is = ap (ring_of k) is ∙ ring_parts k x ((q, s) ∷ e ∷ y);
  }

  pub end_place : (l k : ℕ × Gen) (e : Item Gen T) (others items : List (Item Gen T)) → Some l ≡ last_key (ring_of k others) → items ≡ others ++ e ∷ [] → ComesAfter l k e others items
  end_place l k e others items last is =
      let apart = last_apart (k, entries.Head) (map as_item others) in
      let same : l ≡ apart.1.0 = one_some (last ∙ (ap last_key apart.2 ∙ last_is apart.0 apart.1)) in
      let was : ring_of k others ≡ apart.0 ++ (l, apart.1.1) ∷ [] = apart.2 ∙ ap (λ (q : ℕ × Gen). apart.0 ++ (q, apart.1.1) ∷ []) (sym same) in
      record {
        value = apart.1.1;
        before = apart.0;
        after = [];
        was = was;
        is = ap (ring_of k) is ∙ (ring_parts k others (e ∷ []) ∙ (ap (λ (x : List (Item Gen (Entry T))). x ++ as_item e ∷ []) was ∙ append_assoc apart.0 ((l, apart.1.1) ∷ []) (as_item e ∷ [])));
      }

  pub ring_last : (h : ℕ × Gen) (xs ys : List (Item Gen T)) (z : Item Gen T) → last_key (ring_of h (xs ++ (ys ++ z ∷ []))) ≡ Some z.0
  ring_last h xs ys z = ap (λ (l : List (Item Gen T)). last_key (ring_of h l)) (sym (append_assoc xs ys (z ∷ []))) ∙ (ap last_key (ring_parts h (xs ++ ys) (z ∷ [])) ∙ last_is (ring_of h (xs ++ ys)) (as_item z))

  pub keeps_place : (q k : ℕ × Gen) (e : Item Gen T) (others items : List (Item Gen T)) → ComesAfter q k e others items → (i : ℕ) → ((e.0.0 ≡ i) ⊎ IsMember (indexes (ring_of k others)) i) → IsMember (indexes (ring_of k items)) i
  keeps_place q k e others items at i (inl same) = subst (IsMember (indexes (ring_of k items))) same (has_new q k e others items at)
  keeps_place q k e others items at i (inr has) = has_others q k e others items at i has

  pub keeps_end : (h k : ℕ × Gen) (e : Item Gen T) (others items : List (Item Gen T)) → AtEnd h k e others items → (i : ℕ) → ((e.0.0 ≡ i) ⊎ IsMember (indexes (ring_of k others)) i) → IsMember (indexes (ring_of k items)) i
  keeps_end h k e others items (same, is) i has = subst (λ (l : List (Item Gen T)). IsMember (indexes (ring_of k l)) i) (sym is) (⊎_elim
      (λ new. ring_has k (others ++ e ∷ []) i (inr (among-right others (e ∷ []) i (inl new))))
      (λ old. ⊎_elim (λ head. ring_has k (others ++ e ∷ []) i (inl head)) (λ among. ring_has k (others ++ e ∷ []) i (inr (among-left others (e ∷ []) i among))) (ring_member k others i old))
      has)

module _ {A Gen T : Type 0} {view : A → ArenaView Gen (Entry T)} {entry : A → ℕ → Option (Gen × Entry T)} (state : (a : A) → ArenaState (view a) (entry a)) (interlinks : A → LinkMap) where
  last_without : (a : A) (h p l : ℕ × Gen) (t : T) (before after : List (Item Gen T)) → l ≢ p → Some l ≡ last_key (ring_of h (before ++ (p, t) ∷ after)) → Some l ≡ last_key (ring_of h (before ++ after))
  last_without a h p l t before [] other last = absurd (other (one_some (last ∙ ring_last h before [] (p, t))))
  last_without a h p l t before (x ∷ xs) other last =
      let apart = last_apart x xs in
      let with_p = ap (λ (r : List (Item Gen T)). last_key (ring_of h (before ++ (p, t) ∷ r))) apart.2 ∙ ring_last h before ((p, t) ∷ apart.0) apart.1 in
      last ∙ (with_p ∙ sym (ap (λ (r : List (Item Gen T)). last_key (ring_of h (before ++ r))) apart.2 ∙ ring_last h before apart.0 apart.1))

  none_after : (a : A) (h p : ℕ × Gen) (t : T) (before after : List (Item Gen T)) → IsList state interlinks a h (before ++ (p, t) ∷ after) → Some p ≡ last_key (ring_of h (before ++ (p, t) ∷ after)) → after ≡ []
  none_after a h p t before [] is last = refl
  none_after a h p t before (x ∷ xs) is last =
      let z = last_apart x xs in
      let same : p ≡ z.1.0 = one_some (last ∙ (ap (λ (r : List (Item Gen T)). last_key (ring_of h (before ++ (p, t) ∷ r))) z.2 ∙ ring_last h before ((p, t) ∷ z.0) z.1)) in
      let later : IsMember (indexes (x ∷ xs)) p.0 = subst (λ (r : List (Item Gen T)). IsMember (indexes r) p.0) (sym z.2) (among-right z.0 (z.1 ∷ []) p.0 (inl (sym (ap (λ (q : ℕ × Gen). q.0) same)))) in
      let ring = subst (IsRing state interlinks a) (ring_parts h before ((p, t) ∷ x ∷ xs)) is in
      absurd ((apart (ring_of h before) (as_item (p, t)) (map as_item (x ∷ xs)) ring.chain.1).0 (among-right (ring_of h before) (map as_item (x ∷ xs)) p.0 (subst (λ (l : List ℕ). IsMember l p.0) (sym (indexes-items (x ∷ xs))) later)))

  module _ (old new : A) (p : ℕ × Gen) where
    pub can_move : (q : ℕ × Gen) (v : Entry T) → IsItem (entry old) p → entry old q.0 ≡ Some (q.1, v) → p ≢ q → CanMove (entry old) p q
    can_move q v item at other =
        let one = item_valid (entry old) p item.value item.stored in
        let two : IsValid (entry old) q = record { value = v; stored = at } in
        record { first_valid = one; second_valid = two; apart = λ same. other (same_pointer (entry old) p q one two same) }

    pub entries_kept : view new ≡ view old → KeepsEntries state interlinks old new
    entries_kept same = (same_entry state old new (ap (λ (s : ArenaView Gen (Entry T)). s.entries) same), same)

    item_not_head : (h : ℕ × Gen) → IsItem (entry old) p → IsHandle (entry old) h → p ≢ h
    item_not_head h item head same = head_or_item (entry old) h p item.value head item.stored (sym (ap (λ (q : ℕ × Gen). q.0) same))

    pub moves_to_front : {P : Type 0} (key : P → ℕ × Gen) (a h : P) → key a ≡ p → (r : Option Unit) → IsItem (entry old) p → IsHandle (entry old) (key h) → MovesLinkAfter state interlinks key old a h r new → IfNone r (new ≡ old)
        → MovesToFront state interlinks old p (key h) r new
    moves_to_front key a h is_p None item head is same = absurd (is (subst (λ (q : ℕ × Gen). CanMove (entry old) q (key h)) (sym is_p) (can_move (key h) entries.Head item head (item_not_head (key h) item head))))
    moves_to_front key a h is_p (Some done) item head is same = (
      item,
      head,
      item_moved state interlinks old new p (AtStart (key h)) (key h) (subst (λ (q : ℕ × Gen). MovesAfter (interlinks old) (interlinks new) q.0 (key h).0) is_p is.1.chains) (entries_kept is.1.view_after)
          (λ k t before after items was at. start_place (key h) k (p, t) (before ++ after) items at) (λ k t others items was at. start_place (key h) k (p, t) others items at),
    )

    pub each_to_front : (h : ℕ × Gen) → EachInList state interlinks old → (r : Option Unit) → MovesToFront state interlinks old p h r new → EachInList state interlinks new
    each_to_front h each None is = subst (EachInList state interlinks) (sym is.1) each
    each_to_front h each (Some done) (item, head, moved) = each_moved state interlinks old new p (AtStart h) each item moved
        (λ k t others items at i has. keeps_place h k (p, t) others items (start_place h k (p, t) others items at) i has)
        (λ k t before after was. ⊎_elim
        (λ same. inl ((p, t) ∷ before ++ after, (same, refl)))
        (λ other. let list = list_of state interlinks old each h head in inr (h, list.0, (p, t) ∷ list.0, other, list.1, (refl, refl)))
        (handle_or_other (entry old) k h was.are_stored.0 head))

    module _ (h : ℕ × Gen) (item : IsItem (entry old) p) (head : IsHandle (entry old) h) where
      pub moved_to_back : {P : Type 0} (key : P → ℕ × Gen) (a l : P) → key a ≡ p → key l ≢ p → ((items : List (Item Gen T)) → IsList state interlinks old h items → Some (key l) ≡ last_key (ring_of h items)) → IsValid (entry old) (key l)
          → (r : Option Unit) → MovesLinkAfter state interlinks key old a l r new → IfNone r (new ≡ old) → MovesToBack state interlinks old p h r new
      moved_to_back key a l is_p other last valid None is same = absurd (is (subst (λ (q : ℕ × Gen). CanMove (entry old) q (key l)) (sym is_p) (can_move (key l) valid.value item valid.stored (λ eq. other (sym eq)))))
      moved_to_back key a l is_p other last valid (Some done) is same = (
        item,
        head,
        item_moved state interlinks old new p (AtEnd h) (key l) (subst (λ (q : ℕ × Gen). MovesAfter (interlinks old) (interlinks new) q.0 (key l).0) is_p is.1.chains) (entries_kept is.1.view_after)
            (λ k t before after items was at. end_place (key l) k (p, t) (before ++ after) items
            (last_without old k p (key l) t before after other (last_of k (before ++ (p, t) ∷ after) at.0 was)) at.1)
            (λ k t others items was at. end_place (key l) k (p, t) others items (last_of k others at.0 was) at.1),
      )
        where
          last_of : (k : ℕ × Gen) (items : List (Item Gen T)) → k ≡ h → IsList state interlinks old k items → Some (key l) ≡ last_key (ring_of k items)
          last_of k items same is =
              subst (λ (q : ℕ × Gen). Some (key l) ≡ last_key (ring_of q items)) (sym same) (last items (subst (λ (q : ℕ × Gen). IsList state interlinks old q items) same is))

      pub at_end_already : new ≡ old → ((items : List (Item Gen T)) → IsList state interlinks old h items → Some p ≡ last_key (ring_of h items)) → MovesToBack state interlinks old p h (Some tt) new
      at_end_already same last = subst (MovesToBack state interlinks old p h (Some tt)) (sym same) (
        item,
        head,
        record {
          within = λ k t before after items was at.
              let here = subst (λ (q : ℕ × Gen). IsList state interlinks old q (before ++ (p, t) ∷ after)) at.0 was in
              let none = none_after old h p t before after here (last (before ++ (p, t) ∷ after) here) in
              let ends : items ≡ before ++ (p, t) ∷ after = at.1 ∙ (ap (λ (l : List (Item Gen T)). (before ++ l) ++ (p, t) ∷ []) none ∙ (ap (λ (l : List (Item Gen T)). l ++ (p, t) ∷ []) (append-nil before) ∙ ap (λ (l : List (Item Gen T)). before ++ (p, t) ∷ l) (sym none))) in
              record { list = subst (IsList state interlinks old k) (sym ends) was; others = λ j ys none there. there };
          between = λ j k t before after others items other was is at.
              let there = subst (λ (q : ℕ × Gen). IsList state interlinks old q others) at.0 is in
              let apart = last_apart (h, entries.Head) (map as_item others) in
              let same_last : p ≡ apart.1.0 = one_some (last others there ∙ (ap last_key apart.2 ∙ last_is apart.0 apart.1)) in
              let among : IsMember (indexes (ring_of h others)) p.0 = subst (λ (l : List (Item Gen (Entry T))). IsMember (indexes l) p.0) (sym apart.2) (among-right apart.0 (apart.1 ∷ []) p.0 (inl (sym (ap (λ (q : ℕ × Gen). q.0) same_last)))) in
              absurd (other (same_handle state interlinks old j h (before ++ (p, t) ∷ after) others p.0 was there (has_item state interlinks old new p (p, t) j t before after) among ∙ sym at.0));
          entries = (refl, refl);
        },
      )

    pub each_to_back : (h : ℕ × Gen) → EachInList state interlinks old → (r : Option Unit) → MovesToBack state interlinks old p h r new → EachInList state interlinks new
    each_to_back h each None is = subst (EachInList state interlinks) (sym is.1) each
    each_to_back h each (Some done) (item, head, moved) = each_moved state interlinks old new p (AtEnd h) each item moved
        (λ k t others items at i has. keeps_end h k (p, t) others items at i has)
        (λ k t before after was. ⊎_elim
        (λ same. inl ((before ++ after) ++ (p, t) ∷ [], (same, refl)))
        (λ other. let list = list_of state interlinks old each h head in inr (h, list.0, list.0 ++ (p, t) ∷ [], other, list.1, (refl, refl)))
        (handle_or_other (entry old) k h was.are_stored.0 head))

    pub moves_after_item : {P : Type 0} (key : P → ℕ × Gen) (a q : P) → key a ≡ p → p ≢ key q → (r : Option Unit) → IsItem (entry old) p → IsItem (entry old) (key q) → MovesLinkAfter state interlinks key old a q r new → IfNone r (new ≡ old)
        → MovesAfterItem state interlinks old p (key q) r new
    moves_after_item key a q is_p other None item target is same = absurd (is (subst (λ (k : ℕ × Gen). CanMove (entry old) k (key q)) (sym is_p) (can_move (key q) (entries.Item target.value) item target.stored other)))
    moves_after_item key a q is_p other (Some done) item target is same = (
      item,
      target,
      other,
      item_moved state interlinks old new p (DirectlyAfter (key q)) (key q) (subst (λ (k : ℕ × Gen). MovesAfter (interlinks old) (interlinks new) k.0 (key q).0) is_p is.1.chains) (entries_kept is.1.view_after)
          (λ k t before after items was at. item_place (key q) k (p, t) (before ++ after) items at) (λ k t others items was at. item_place (key q) k (p, t) others items at),
    )

    still_among : (q : ℕ × Gen) (s t : T) (before after x y : List (Item Gen T)) → p ≢ q → before ++ (p, t) ∷ after ≡ x ++ (q, s) ∷ y → (u : List (Item Gen T)) × (v : List (Item Gen T)) × (before ++ after ≡ u ++ (q, s) ∷ v)
    still_among q s t before after x y other same = ⊎_elim
        (λ left. (x, left.0 ++ after, ap (λ (l : List (Item Gen T)). l ++ after) left.1 ∙ append_assoc x ((q, s) ∷ left.0) after))
        (λ right. later right.0 right.2)
        (in_one_part before ((p, t) ∷ after) x y (q, s) same)
      where
        later : (m : List (Item Gen T)) → (p, t) ∷ after ≡ m ++ (q, s) ∷ y → (u : List (Item Gen T)) × (v : List (Item Gen T)) × (before ++ after ≡ u ++ (q, s) ∷ v)
        later [] eq = absurd (other (ap (λ (e : Item Gen T). e.0) (let first : (p, t) ≡ (q, s) = cc in first)))
        later (b ∷ m) eq = let rest : after ≡ m ++ (q, s) ∷ y = cc in (before ++ m, y, ap (λ (l : List (Item Gen T)). before ++ l) rest ∙ sym (append_assoc before m ((q, s) ∷ y)))

    pub each_after_item : (q : ℕ × Gen) → EachInList state interlinks old → (r : Option Unit) → MovesAfterItem state interlinks old p q r new → EachInList state interlinks new
    each_after_item q each None is = subst (EachInList state interlinks) (sym is.1) each
    each_after_item q each (Some done) (item, target, apart, moved) = each_moved state interlinks old new p (DirectlyAfter q) each item moved
        (λ k t others items at i has. keeps_place q k (p, t) others items (item_place q k (p, t) others items at) i has)
        (λ k t before after was.
        let at = place_of state interlinks old each q target.value target.stored in
        ⊎_elim
        (λ same.
        let both = same_list state interlinks old at.handle (before ++ (p, t) ∷ after) (at.before ++ (q, target.value) ∷ at.after) (subst (λ (h : ℕ × Gen). IsList state interlinks old h (before ++ (p, t) ∷ after)) same was) at.list in
        let still = still_among q target.value t before after at.before at.after apart both in
        inl (still.0 ++ (q, target.value) ∷ (p, t) ∷ still.1, (target.value, still.0, still.1, still.2, refl)))
        (λ other. inr (at.handle, at.before ++ (q, target.value) ∷ at.after, at.before ++ (q, target.value) ∷ (p, t) ∷ at.after, other, at.list, (target.value, at.before, at.after, refl, refl)))
        (handle_or_other (entry old) k at.handle was.are_stored.0 at.list.are_stored.0))
