-- Each list has one handle, and each item is in one list.
use Rattle.std.proofs.Common.{◌≡◌, ℕ, inl, inr, ⊎_elim, List, [], ◌∷◌, ◌++◌, map, Option, None, Some, refl, sym, ap, ◌∙◌, subst}
use Rattle.std.specs.Prelude.{◌⊎◌, Bool, is_some, true, false}
use Rattle.std.proofs.lemmas.List.{map-append}
use Rattle.chain_laws.specs.Chains.{LinkMap, cyclic, IsMember}
use Rattle.chain_laws.proofs.ChainLemmas.Uniqueness.{one_cyclic}
use Rattle.chain_laws.proofs.ChainLemmas.MemberLaws.{chains_share_each}
use Rattle.chain_laws.proofs.InterlinkLemmas.Inverses.{one_some}
use Rattle.chain_laws.proofs.ListLemmas.Members.{IsMember-or_not}
use Rattle.arena_traits.specs.Arena.{IsValid}
use Rattle.arena_traits.specs.Entries.{ArenaView, ArenaState}
use Rattle.chain_lists.specs.Lists.{Item, AreEntries, indexes, KeepsWithout}
use Rattle.chain_lists.proofs.ItemListLemmas.{same_items, same_pointer, are_stored-right, among-left, among-right, among-parts}
use Rattle.linked_lists.specs.declared.entry.Entry.{Entry}
use Rattle.linked_lists.specs.declared.entry.Entry.TheVariants as entries
use Rattle.linked_lists.specs.LinkedLists.{as_item, ring_of, IsHandle, HasItem, IsList, IsInList, EachInList, HasPlace, AllInLists, KeepsOthers, Becomes}

module _ {Gen T : Type 0} where
  pub indexes-items : (xs : List (Item Gen T)) → indexes (map as_item xs) ≡ indexes xs
  indexes-items [] = refl
  indexes-items (x ∷ xs) = ap (λ (l : List ℕ). x.0.0 ∷ l) (indexes-items xs)

  pub ring_parts : (h : ℕ × Gen) (xs ys : List (Item Gen T)) → ring_of h (xs ++ ys) ≡ ring_of h xs ++ map as_item ys
  ring_parts h xs ys = ap (λ (l : List (Item Gen (Entry T))). (h, entries.Head) ∷ l) (map-append as_item xs ys)

  pub ring_has : (h : ℕ × Gen) (xs : List (Item Gen T)) (i : ℕ) → (h.0 ≡ i) ⊎ IsMember (indexes xs) i → IsMember (indexes (ring_of h xs)) i
  ring_has h xs i (inl is) = inl is
  ring_has h xs i (inr has) = inr (subst (λ (l : List ℕ). IsMember l i) (sym (indexes-items xs)) has)

  pub ring_member : (h : ℕ × Gen) (xs : List (Item Gen T)) (i : ℕ) → IsMember (indexes (ring_of h xs)) i → (h.0 ≡ i) ⊎ IsMember (indexes xs) i
  ring_member h xs i (inl is) = inl is
  ring_member h xs i (inr has) = inr (subst (λ (l : List ℕ). IsMember l i) (indexes-items xs) has)

  pub ring_more : (h : ℕ × Gen) (before rest more : List (Item Gen T)) → ((i : ℕ) → IsMember (indexes rest) i → IsMember (indexes more) i)
      → (i : ℕ) → IsMember (indexes (ring_of h (before ++ rest))) i → IsMember (indexes (ring_of h (before ++ more))) i
  ring_more h before rest more sub i has = ring_has h (before ++ more) i (⊎_elim
      (λ is. inl is)
      (λ among. inr (⊎_elim (λ left. among-left before more i left) (λ right. among-right before more i (sub i right)) (among-parts before rest i among)))
      (ring_member h (before ++ rest) i has))

  pub same_values : (xs ys : List (Item Gen T)) → map as_item xs ≡ map as_item ys → xs ≡ ys
  same_values [] [] same = refl
  same_values [] (y ∷ ys) same = absurd (cc)
  same_values (x ∷ xs) [] same = absurd (cc)
  same_values (x ∷ xs) (y ∷ ys) same =
      let entries_same : as_item x ≡ as_item y = cc in
      let first : x.0 ≡ y.0 = ap (λ (e : Item Gen (Entry T)). e.0) entries_same in
      let value : x.1 ≡ y.1 = let wrapped = ap (λ (e : Item Gen (Entry T)). e.1) entries_same in cc in
      let rest : map as_item xs ≡ map as_item ys = cc in
      ap (λ (k : ℕ × Gen). (k, x.1) ∷ xs) first ∙ (ap (λ (t : T). (y.0, t) ∷ xs) value ∙ ap (λ (l : List (Item Gen T)). y ∷ l) (same_values xs ys rest))

  module _ (entry : ℕ → Option (Gen × Entry T)) where
    pub head_or_item : (h p : ℕ × Gen) (t : T) → IsHandle entry h → HasItem entry p t → h.0 ≡ p.0 → ⊥
    head_or_item h p t head item same = absurd (let both = ap (λ (e : Gen × Entry T). e.1) (one_some (sym head ∙ (ap entry same ∙ item))) in cc)

    pub item_valid : (p : ℕ × Gen) (t : T) → HasItem entry p t → IsValid entry p
    item_valid p t has = record { value = entries.Item t; stored = has }

    pub head_valid : (h : ℕ × Gen) → IsHandle entry h → IsValid entry h
    head_valid h has = record { value = entries.Head; stored = has }

    pub item_there : (xs : List (Item Gen T)) (i : ℕ) → AreEntries entry (map as_item xs) → IsMember (indexes (map as_item xs)) i → (g : Gen) × (t : T) × HasItem entry (i, g) t
    item_there [] i s has = absurd has
    item_there (x ∷ xs) i s (inl is) = (x.0.1, x.1, ap entry (sym is) ∙ s.0)
    item_there (x ∷ xs) i s (inr has) = item_there xs i s.1 has

    pub item_between : (xs : List (Item Gen T)) (p : ℕ × Gen) (t : T) → AreEntries entry (map as_item xs) → HasItem entry p t → IsMember (indexes (map as_item xs)) p.0
        → (before : List (Item Gen T)) × (after : List (Item Gen T)) × (xs ≡ before ++ (p, t) ∷ after)
    item_between [] p t s item has = absurd has
    item_between (x ∷ xs) p t s item (inl is) =
        let there = one_some (sym s.0 ∙ (ap entry is ∙ item)) in
        let generation : x.0.1 ≡ p.1 = ap (λ (e : Gen × Entry T). e.0) there in
        let value : x.1 ≡ t = let wrapped = ap (λ (e : Gen × Entry T). e.1) there in cc in
        ([], xs, ap (λ (i : ℕ). ((i, x.0.1), x.1) ∷ xs) is ∙ (ap (λ (g : Gen). ((p.0, g), x.1) ∷ xs) generation ∙ ap (λ (u : T). (p, u) ∷ xs) value))
    item_between (x ∷ xs) p t s item (inr has) =
        let more = item_between xs p t s.1 item has in
        (x ∷ more.0, more.1, ap (λ (l : List (Item Gen T)). x ∷ l) more.2)

module _ {A Gen T : Type 0} {view : A → ArenaView Gen (Entry T)} {entry : A → ℕ → Option (Gen × Entry T)} (state : (a : A) → ArenaState (view a) (entry a)) (interlinks : A → LinkMap) where
  module _ (a : A) where
    pub only_head : (h k : ℕ × Gen) (ys : List (Item Gen T)) → IsHandle (entry a) h → IsList state interlinks a k ys → IsMember (indexes (ring_of k ys)) h.0 → h ≡ k
    only_head h k ys head is (inl same) = same_pointer (entry a) h k (head_valid (entry a) h head) (head_valid (entry a) k is.are_stored.0) (sym same)
    only_head h k ys head is (inr has) =
        let there = item_there (entry a) ys h.0 is.are_stored.1 has in
        absurd (head_or_item (entry a) h (h.0, there.0) there.1 head there.2 refl)

    pub same_list : (h : ℕ × Gen) (xs ys : List (Item Gen T)) → IsList state interlinks a h xs → IsList state interlinks a h ys → xs ≡ ys
    same_list h xs ys one two = same_values xs ys (same_items (entry a) (map as_item xs) (map as_item ys) one.are_stored.1 two.are_stored.1
        (one_cyclic (interlinks a) h.0 (indexes (map as_item xs)) (indexes (map as_item ys)) one.chain two.chain))

    pub same_handle : (h k : ℕ × Gen) (xs ys : List (Item Gen T)) (i : ℕ) → IsList state interlinks a h xs → IsList state interlinks a k ys
        → IsMember (indexes (ring_of h xs)) i → IsMember (indexes (ring_of k ys)) i → h ≡ k
    same_handle h k xs ys i one two in_one in_two = only_head h k ys one.are_stored.0 two
        ((chains_share_each (interlinks a) (cyclic (indexes (ring_of h xs))) (cyclic (indexes (ring_of k ys))) i h.0 one.chain two.chain in_one in_two).0 (inl refl))

    pub one_list : (h k : ℕ × Gen) (xs ys : List (Item Gen T)) (i : ℕ) → IsList state interlinks a h xs → IsList state interlinks a k ys
        → IsMember (indexes (ring_of h xs)) i → IsMember (indexes (ring_of k ys)) i → (h ≡ k) × (xs ≡ ys)
    one_list h k xs ys i one two in_one in_two =
        let same = same_handle h k xs ys i one two in_one in_two in
        (same, same_list k xs ys (subst (λ (q : ℕ × Gen). IsList state interlinks a q xs) same one) two)

    pub placed : (h p : ℕ × Gen) (xs : List (Item Gen T)) (t : T) → IsList state interlinks a h xs → HasItem (entry a) p t → IsMember (indexes (ring_of h xs)) p.0
        → (before : List (Item Gen T)) × (after : List (Item Gen T)) × (xs ≡ before ++ (p, t) ∷ after)
    placed h p xs t is item (inl same) = absurd (head_or_item (entry a) h p t is.are_stored.0 item same)
    placed h p xs t is item (inr has) = item_between (entry a) xs p t is.are_stored.1 item has

    pub item_of : (h p : ℕ × Gen) (t : T) (before after : List (Item Gen T)) → IsList state interlinks a h (before ++ (p, t) ∷ after) → HasItem (entry a) p t
    item_of h p t before after is = (are_stored-right (entry a) (ring_of h before) (as_item (p, t) ∷ map as_item after) (subst (AreEntries (entry a)) (ring_parts h before ((p, t) ∷ after)) is.are_stored)).0

    pub list_of : EachInList state interlinks a → (h : ℕ × Gen) → IsHandle (entry a) h → (items : List (Item Gen T)) × IsList state interlinks a h items
    list_of each h head =
        let at = each h.0 (ap is_some head) in
        (at.items, subst (λ (q : ℕ × Gen). IsList state interlinks a q at.items) (sym (only_head h at.handle at.items head at.list at.among)) at.list)

    pub place_of : EachInList state interlinks a → (p : ℕ × Gen) (t : T) → HasItem (entry a) p t → HasPlace state interlinks a p t
    place_of each p t item =
        let at = each p.0 (ap is_some item) in
        let place = placed at.handle p at.items t at.list item at.among in
        record { handle = at.handle; before = place.0; after = place.1; list = subst (IsList state interlinks a at.handle) place.2 at.list }

    pub all_in_lists : EachInList state interlinks a → AllInLists state interlinks a
    all_in_lists each = record { lists = list_of each; items = place_of each; once = one_list }

    pub each_of_all : AllInLists state interlinks a → EachInList state interlinks a
    each_of_all all i some = by (entry a i) refl some
      where
        by : (o : Option (Gen × Entry T)) → entry a i ≡ o → is_some (entry a i) ≡ true → IsInList state interlinks a i
        by None is some = absurd (let none = ap is_some is in let both = sym some ∙ none in cc)
        by (Some (g, entries.Head)) is some = let list = all.lists (i, g) is in record { handle = (i, g); items = list.0; list = list.1; among = inl refl }
        by (Some (g, entries.Item t)) is some =
            let at = all.items (i, g) t is in
            record { handle = at.handle; items = at.before ++ ((i, g), t) ∷ at.after; list = at.list; among = ring_has at.handle (at.before ++ ((i, g), t) ∷ at.after) i (inr (among-right at.before (((i, g), t) ∷ at.after) i (inl refl))) }

    pub links_of_handle : (k h : ℕ × Gen) (ys xs : List (Item Gen T)) (i : ℕ) → IsList state interlinks a k ys → IsList state interlinks a h xs → k ≡ h → IsMember (indexes (ring_of k ys)) i → IsMember (indexes (ring_of h xs)) i
    links_of_handle k h ys xs i one two same among =
        let here = subst (λ (q : ℕ × Gen). IsList state interlinks a q ys) same one in
        subst (λ (l : List (Item Gen T)). IsMember (indexes (ring_of h l)) i) (same_list h ys xs here two) (subst (λ (q : ℕ × Gen). IsMember (indexes (ring_of q ys)) i) same among)

  module _ (old new : A) where
    pub keeps_others : (h p : ℕ × Gen) (xs : List (Item Gen T)) → KeepsWithout state interlinks cyclic old new (p ∷ []) → IsList state interlinks old h xs → IsMember (indexes (ring_of h xs)) p.0
        → KeepsOthers state interlinks old new (h ∷ [])
    keeps_others h p xs kept is has k ys none other = kept (ring_of k ys) ((λ among. none.0 (same_handle old k h ys xs p.0 other is among has)), tt) other

    pub each_kept : EachInList state interlinks old → (h : ℕ × Gen) (xs ys : List (Item Gen T)) → IsList state interlinks old h xs → Becomes state interlinks old new h ys
        → ((i : ℕ) → is_some (entry new i) ≡ true → (IsMember (indexes (ring_of h ys)) i → ⊥) → (is_some (entry old i) ≡ true) × (IsMember (indexes (ring_of h xs)) i → ⊥))
        → EachInList state interlinks new
    each_kept each h xs ys was is rest i some = ⊎_elim
        (λ has. record { handle = h; items = ys; list = is.list; among = has })
        (λ apart.
        let elsewhere = rest i some apart in
        let at = each i elsewhere.0 in
        record {
          handle = at.handle;
          items = at.items;
          list = is.others at.handle at.items ((λ same. elsewhere.1 (links_of_handle old at.handle h at.items xs i at.list was same at.among)), tt) at.list;
          among = at.among;
        })
        (IsMember-or_not (indexes (ring_of h ys)) i)

    pub each_kept_two : EachInList state interlinks old → (h k : ℕ × Gen) (xs ys us vs : List (Item Gen T)) → IsList state interlinks old h xs → IsList state interlinks old k ys
        → IsList state interlinks new h us → IsList state interlinks new k vs → KeepsOthers state interlinks old new (h ∷ k ∷ [])
        → ((i : ℕ) → is_some (entry new i) ≡ true → (IsMember (indexes (ring_of h us)) i → ⊥) → (IsMember (indexes (ring_of k vs)) i → ⊥)
        → (is_some (entry old i) ≡ true) × (IsMember (indexes (ring_of h xs)) i → ⊥) × (IsMember (indexes (ring_of k ys)) i → ⊥)) → EachInList state interlinks new
    each_kept_two each h k xs ys us vs one two now_one now_two others rest i some = ⊎_elim
        (λ has. record { handle = h; items = us; list = now_one; among = has })
        (λ no_h. ⊎_elim
        (λ has. record { handle = k; items = vs; list = now_two; among = has })
        (λ no_k.
        let elsewhere = rest i some no_h no_k in
        let at = each i elsewhere.0 in
        record {
          handle = at.handle;
          items = at.items;
          list = others at.handle at.items ((λ same. elsewhere.1 (links_of_handle old at.handle h at.items xs i at.list one same at.among)), ((λ same. elsewhere.2 (links_of_handle old at.handle k at.items ys i at.list two same at.among)), tt)) at.list;
          among = at.among;
        })
        (IsMember-or_not (indexes (ring_of k vs)) i))
        (IsMember-or_not (indexes (ring_of h us)) i)

-- A test is not both true and false.
pub not_both : {b : Bool} → b ≡ true → b ≡ false → ⊥
not_both is not = absurd (let both = sym is ∙ not in cc)
