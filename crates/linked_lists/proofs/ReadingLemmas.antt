-- Reads of lists by reads of their rings.
use Rattle.std.proofs.Common.{◌≡◌, ℕ, List, [], ◌∷◌, ◌++◌, map, Option, None, Some, refl, sym, ap, ◌∙◌, subst, append_assoc}
use Rattle.std.specs.Option.{option_map}
use Rattle.chain_laws.specs.Chains.{LinkMap}
use Rattle.chain_laws.proofs.InterlinkLemmas.Inverses.{one_some}
use Rattle.arena_traits.specs.Arena.{IsValid}
use Rattle.arena_traits.specs.Entries.{ArenaView, ArenaState, first_key, last_key}
use Rattle.chain_lists.specs.Lists.{Item, AreEntries, IsRing}
use Rattle.chain_lists.proofs.ItemListLemmas.{are_stored-left, are_stored-right, last_apart, last_is}
use Rattle.linked_lists.specs.declared.entry.Entry.{Entry}
use Rattle.linked_lists.specs.declared.entry.Entry.TheVariants as entries
use Rattle.linked_lists.specs.LinkedLists.{as_item, ring_of, IsHandle, IsItem, IsList, EachInList, ReadsFirst, ReadsLast, ReadsNext, ReadsPrev}
use Rattle.linked_lists.specs.RingCalls.{KeepsItemOnly, ReadsNextLink, ReadsPrevLink, ReadsLastLink, EndsList}
use Rattle.linked_lists.proofs.RingLemmas.{ring_rotated}
use Rattle.linked_lists.proofs.ListLemmas.{ring_parts, head_or_item, item_of, list_of}

module _ {Gen T P : Type 0} (entry : ℕ → Option (Gen × Entry T)) (key : P → ℕ × Gen) where
  item_stays : (q r : Option P) → KeepsItemOnly entry key q r → (k : ℕ × Gen) → option_map key q ≡ Some k → IsItem entry k → option_map key r ≡ Some k
  item_stays None r kept k is item = absurd (let none = is in cc)
  item_stays (Some q) r kept k is item = ap (option_map key) (kept.item (subst (IsItem entry) (sym (one_some is)) item)) ∙ is

  head_goes : (q r : Option P) → KeepsItemOnly entry key q r → (k : ℕ × Gen) → option_map key q ≡ Some k → IsHandle entry k → option_map key r ≡ None
  head_goes None r kept k is head = absurd (let none = is in cc)
  head_goes (Some q) r kept k is head = ap (option_map key) (kept.none (λ item. head_or_item entry k (key q) item.value head item.stored (sym (ap (λ (p : ℕ × Gen). p.0) (one_some is)))))

  first_item : (q r : Option P) → KeepsItemOnly entry key q r → (h : ℕ × Gen) (xs : List (Item Gen T)) (more : List (Item Gen (Entry T))) → IsHandle entry h → AreEntries entry (map as_item xs)
      → option_map key q ≡ first_key (map as_item xs ++ (h, entries.Head) ∷ more) → option_map key r ≡ first_key xs
  first_item q r kept h [] more head stored is = head_goes q r kept h is head
  first_item q r kept h (x ∷ xs) more head stored is = item_stays q r kept x.0 is (record { value = x.1; stored = stored.0 })

  last_item : (q r : Option P) → KeepsItemOnly entry key q r → (h : ℕ × Gen) (xs : List (Item Gen T)) (more : List (Item Gen (Entry T))) → IsHandle entry h → AreEntries entry (map as_item xs)
      → option_map key q ≡ last_key (more ++ ring_of h xs) → option_map key r ≡ last_key xs
  last_item q r kept h [] more head stored is = head_goes q r kept h (is ∙ last_is more (h, entries.Head)) head
  last_item q r kept h (x ∷ xs) more head stored is =
      let last = last_apart x xs in
      let ring = ap (ring_of h) last.2 ∙ ring_parts h last.0 (last.1 ∷ []) in
      let apart : more ++ ring_of h (x ∷ xs) ≡ (more ++ ring_of h last.0) ++ as_item last.1 ∷ [] = ap (λ (l : List (Item Gen (Entry T))). more ++ l) ring ∙ sym (append_assoc more (ring_of h last.0) (as_item last.1 ∷ [])) in
      let item = are_stored-right entry (ring_of h last.0) (as_item last.1 ∷ []) (subst (AreEntries entry) ring (head, stored)) in
      item_stays q r kept last.1.0 (is ∙ (ap last_key apart ∙ last_is (more ++ ring_of h last.0) (as_item last.1))) (record { value = last.1.1; stored = item.0 })
      ∙ sym (ap last_key last.2 ∙ last_is last.0 last.1)

module _ {A Gen T : Type 0} {view : A → ArenaView Gen (Entry T)} {entry : A → ℕ → Option (Gen × Entry T)} (state : (a : A) → ArenaState (view a) (entry a)) (interlinks : A → LinkMap) {P : Type 0} (key : P → ℕ × Gen) (a : A) (p : P) (q r : Option P) (kept : KeepsItemOnly (entry a) key q r) where
  pub reads_first : IsHandle (entry a) (key p) → ReadsNextLink state interlinks key a p q → ReadsFirst state interlinks key a p r
  reads_first head reads = record {
    none = λ no. absurd (no head);
    first = λ items is. first_item (entry a) key q r kept (key p) items [] is.are_stored.0 is.are_stored.1 (reads entries.Head (map as_item items) is);
  }

  pub reads_last : IsHandle (entry a) (key p) → ReadsPrevLink state interlinks key a p q → ReadsLast state interlinks key a p r
  reads_last head reads = record {
    none = λ no. absurd (no head);
    last = λ items is. last_item (entry a) key q r kept (key p) items [] is.are_stored.0 is.are_stored.1 (reads entries.Head (map as_item items) is);
  }

  from_item : (h : ℕ × Gen) (t : T) (before after : List (Item Gen T)) → IsList state interlinks a h (before ++ (key p, t) ∷ after) → IsRing state interlinks a ((key p, entries.Item t) ∷ map as_item after ++ ring_of h before)
  from_item h t before after is = ring_rotated state interlinks a (ring_of h before) ((key p, entries.Item t) ∷ map as_item after) (subst (IsRing state interlinks a) (ring_parts h before ((key p, t) ∷ after)) is)

  pub reads_next : IsItem (entry a) (key p) → ReadsNextLink state interlinks key a p q → ReadsNext state interlinks key a p r
  reads_next item reads = record {
    none = λ no. absurd (no item);
    next = λ h t before after is.
        let ring = from_item h t before after is in
        let read = reads (entries.Item t) (map as_item after ++ ring_of h before) ring in
        first_item (entry a) key q r kept h after (map as_item before ++ (key p, entries.Item t) ∷ []) is.are_stored.0 (are_stored-left (entry a) (map as_item after) (ring_of h before) ring.are_stored.1)
        (read ∙ ap first_key (append_assoc (map as_item after) (ring_of h before) ((key p, entries.Item t) ∷ [])));
  }

  pub reads_prev : IsItem (entry a) (key p) → ReadsPrevLink state interlinks key a p q → ReadsPrev state interlinks key a p r
  reads_prev item reads = record {
    none = λ no. absurd (no item);
    prev = λ h t before after is.
        let ring = from_item h t before after is in
        last_item (entry a) key q r kept h before ((key p, entries.Item t) ∷ map as_item after) is.are_stored.0 (are_stored-right (entry a) (map as_item after) (ring_of h before) ring.are_stored.1).1
        (reads (entries.Item t) (map as_item after ++ ring_of h before) ring);
  }

module _ {A Gen T : Type 0} {view : A → ArenaView Gen (Entry T)} {entry : A → ℕ → Option (Gen × Entry T)} (state : (a : A) → ArenaState (view a) (entry a)) (interlinks : A → LinkMap) {P : Type 0} (key : P → ℕ × Gen) (a : A) (p : P) (no : IsItem (entry a) (key p) → ⊥) where
  absent : (h : ℕ × Gen) (t : T) (before after : List (Item Gen T)) → IsList state interlinks a h (before ++ (key p, t) ∷ after) → ⊥
  absent h t before after is = no (record { value = t; stored = item_of state interlinks a h (key p) t before after is })

  pub no_next : ReadsNext state interlinks key a p None
  no_next = record { none = λ no. refl; next = λ h t before after is. absurd (absent h t before after is) }

  pub no_prev : ReadsPrev state interlinks key a p None
  no_prev = record { none = λ no. refl; prev = λ h t before after is. absurd (absent h t before after is) }

module _ {A Gen T : Type 0} {view : A → ArenaView Gen (Entry T)} {entry : A → ℕ → Option (Gen × Entry T)} (state : (a : A) → ArenaState (view a) (entry a)) (interlinks : A → LinkMap) where
  ends_valid : (a : A) (h l : ℕ × Gen) → EachInList state interlinks a → IsHandle (entry a) h → EndsList state interlinks a h l → IsValid (entry a) l
  ends_valid a h l each head last =
      let list = list_of state interlinks a each h head in
      let apart = last_apart (h, entries.Head) (map as_item list.0) in
      let same : l ≡ apart.1.0 = one_some (last list.0 list.1 ∙ (ap last_key apart.2 ∙ last_is apart.0 apart.1)) in
      let stored = are_stored-right (entry a) apart.0 (apart.1 ∷ []) (subst (AreEntries (entry a)) apart.2 list.1.are_stored) in
      subst (IsValid (entry a)) (sym same) (record { value = apart.1.1; stored = stored.0 })

  module _ {P : Type 0} (key : P → ℕ × Gen) (a : A) (h : P) where
    ends_list : (l : P) → ReadsPrevLink state interlinks key a h (Some l) → EndsList state interlinks a (key h) (key l)
    ends_list l reads items is = reads entries.Head (map as_item items) is

    has_end : EachInList state interlinks a → IsHandle (entry a) (key h) → ReadsPrevLink state interlinks key a h None → ⊥
    has_end each head reads =
        let list = list_of state interlinks a each (key h) head in
        let apart = last_apart (key h, entries.Head) (map as_item list.0) in
        absurd (let none = reads entries.Head (map as_item list.0) list.1 ∙ (ap last_key apart.2 ∙ last_is apart.0 apart.1) in cc)

    pub reads_last_link : EachInList state interlinks a → IsHandle (entry a) (key h) → (r : Option P) → ReadsPrevLink state interlinks key a h r → ReadsLastLink state interlinks key a (key h) r
    reads_last_link each head None reads = λ is. has_end each head reads
    reads_last_link each head (Some l) reads = (head, ends_valid a (key h) (key l) each head (ends_list l reads), ends_list l reads)
