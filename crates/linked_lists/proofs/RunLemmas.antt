-- Moves of a run of items behind another link.
use Rattle.std.proofs.Common.{◌≡◌, ◌≢◌, ℕ, inl, inr, ⊎_elim, List, [], ◌∷◌, ◌++◌, map, Option, None, Some, refl, sym, ap, ◌∙◌, subst, append_assoc}
use Rattle.std.specs.Prelude.{is_some, IfNone}
use Rattle.std.specs.Option.{option_map}
use Rattle.std.proofs.lemmas.List.{map-append, append-nil}
use Rattle.chain_laws.specs.Chains.{LinkMap, cyclic, IsChain, IsMember, last_or}
use Rattle.chain_laws.specs.Splices.{Splices, IsRun}
use Rattle.chain_laws.proofs.InterlinkLemmas.Inverses.{one_some}
use Rattle.chain_laws.proofs.ListLemmas.Members.{last_or-append}
use Rattle.arena_traits.specs.Arena.{IsValid}
use Rattle.arena_traits.specs.Entries.{ArenaView, ArenaState, index_of, first_key, last_key}
use Rattle.chain_links.specs.CallEffects.{SplicesAfter}
use Rattle.chain_lists.specs.Lists.{Item, indexes, IsRing}
use Rattle.chain_lists.proofs.ItemListLemmas.{are_stored-append, are_stored-left, are_stored-right, among-left, among-right, among-parts, last_apart, last_is, last_key-cons}
use Rattle.chain_lists.proofs.ListChangeLemmas.{parts, whole, stays}
use Rattle.linked_lists.specs.declared.entry.Entry.{Entry}
use Rattle.linked_lists.specs.declared.entry.Entry.TheVariants as entries
use Rattle.linked_lists.specs.LinkedLists.{as_item, ring_of, IsHandle, IsList, EachInList, KeepsOthers, KeepsEntries, AreJoined, JoinsLists, ReadsFirst}
use Rattle.linked_lists.specs.RingCalls.{EndsList}
use Rattle.linked_lists.proofs.RingLemmas.{ring_rotated}
use Rattle.linked_lists.proofs.ListLemmas.{ring_parts, ring_has, ring_member, same_handle, same_list, list_of, item_valid, each_kept_two}
use Rattle.linked_lists.proofs.MoveLemmas.{entries_kept}

module _ {Gen V : Type 0} where
  pub is_run : (run : List (Item Gen V)) (f z : ℕ × Gen) → first_key run ≡ Some f → last_key run ≡ Some z → IsRun (indexes run) f.0 z.0
  is_run [] f z first last = absurd (let none = first in cc)
  is_run (x ∷ xs) f z first last =
      let end = last_apart x xs in
      let same : end.1.0 ≡ z = one_some (sym (ap last_key end.2 ∙ last_is end.0 end.1) ∙ last) in (
        ap (option_map (λ (q : ℕ × Gen). q.0)) first,
        ap (λ (l : List (Item Gen V)). last_or (indexes l) None) end.2 ∙ (ap (λ (l : List ℕ). last_or l None) (map-append index_of end.0 (end.1 ∷ []))
            ∙ (last_or-append (indexes end.0) (end.1.0.0 ∷ []) None ∙ ap (λ (q : ℕ × Gen). Some q.0) same)),
      )

  pub first_among : (run : List (Item Gen V)) (f : ℕ × Gen) → first_key run ≡ Some f → IsMember (indexes run) f.0
  first_among [] f first = absurd (let none = first in cc)
  first_among (x ∷ xs) f first = inl (ap (λ (q : ℕ × Gen). q.0) (one_some first))

  pub last_among : (run : List (Item Gen V)) (z : ℕ × Gen) → last_key run ≡ Some z → IsMember (indexes run) z.0
  last_among [] z last = absurd (let none = last in cc)
  last_among (x ∷ xs) z last =
      let end = last_apart x xs in
      let same : end.1.0 ≡ z = one_some (sym (ap last_key end.2 ∙ last_is end.0 end.1) ∙ last) in
      subst (λ (l : List (Item Gen V)). IsMember (indexes l) z.0) (sym end.2) (among-right end.0 (end.1 ∷ []) z.0 (inl (ap (λ (q : ℕ × Gen). q.0) same)))

module _ {A Gen V : Type 0} {view : A → ArenaView Gen V} {entry : A → ℕ → Option (Gen × V)} (state : (a : A) → ArenaState (view a) (entry a)) (interlinks : A → LinkMap)
    (old new : A) (l f z : ℕ × Gen) (splices : Splices (interlinks old) (interlinks new) l.0 f.0 z.0) (same : entry new ≡ entry old) where
  module _ (run y : List (Item Gen V)) (ends : IsRun (indexes run) f.0 z.0) (is : IsRing state interlinks old (run ++ y)) (apart : IsMember (indexes (run ++ y)) l.0 → ⊥) where
    no_l : IsMember (indexes run ++ indexes y) l.0 → ⊥
    no_l has = apart (subst (λ (i : List ℕ). IsMember i l.0) (sym (map-append index_of run y)) has)

    pub run_leaves : indexes y ≢ [] → IsRing state interlinks new y
    run_leaves filled = stays state interlinks cyclic old new same y (are_stored-right (entry old) run y is.are_stored)
        (splices.from_cyclic (indexes run) (indexes y) ends (parts state interlinks cyclic old run y is.chain) no_l filled)

    pub run_comes : (s : V) (u v : List (Item Gen V)) → IsRing state interlinks old (u ++ (l, s) ∷ v) → IsRing state interlinks new (u ++ (l, s) ∷ (run ++ v))
    run_comes s u v there =
        let right = are_stored-right (entry old) u ((l, s) ∷ v) there.are_stored in
        let chain = splices.to_cyclic (cyclic (indexes run ++ indexes y)) (indexes run) (indexes u) (indexes v) ends (parts state interlinks cyclic old run y is.chain) ([], indexes y, refl) no_l (parts state interlinks cyclic old u ((l, s) ∷ v) there.chain) in
        stays state interlinks cyclic old new same (u ++ (l, s) ∷ (run ++ v))
        (are_stored-append (entry old) u ((l, s) ∷ (run ++ v)) (are_stored-left (entry old) u ((l, s) ∷ v) there.are_stored)
        (right.0, are_stored-append (entry old) run v (are_stored-left (entry old) run y is.are_stored) right.1))
        (whole state interlinks cyclic new u ((l, s) ∷ (run ++ v)) (subst (λ (i : List ℕ). IsChain (interlinks new) (cyclic i)) (append_assoc (indexes u) (l.0 ∷ indexes run) (indexes v) ∙ ap (λ (i : List ℕ). indexes u ++ l.0 ∷ i) (sym (map-append index_of run v))) chain))

  pub run_elsewhere : (xs : List (Item Gen V)) → (IsMember (indexes xs) l.0 → ⊥) → (IsMember (indexes xs) f.0 → ⊥) → (IsMember (indexes xs) z.0 → ⊥) → IsRing state interlinks old xs → IsRing state interlinks new xs
  run_elsewhere xs no_l no_f no_z is = stays state interlinks cyclic old new same xs is.are_stored (splices.rest (cyclic (indexes xs)) no_l no_f no_z is.chain)

module _ {A Gen T : Type 0} {view : A → ArenaView Gen (Entry T)} {entry : A → ℕ → Option (Gen × Entry T)} (state : (a : A) → ArenaState (view a) (entry a)) (interlinks : A → LinkMap) (old new : A) where
  module _ (h k l f z : ℕ × Gen) (other : h ≢ k) (ends : EndsList state interlinks old h l) (ends_k : EndsList state interlinks old k z)
      (first : (ys : List (Item Gen T)) → IsList state interlinks old k ys → first_key ys ≡ Some f)
      (splices : Splices (interlinks old) (interlinks new) l.0 f.0 z.0) (kept : KeepsEntries state interlinks old new) where
    module _ (xs ys : List (Item Gen T)) (one : IsList state interlinks old h xs) (two : IsList state interlinks old k ys) where
      abbrev run : List (Item Gen (Entry T))
      run = map as_item ys

      first_is : first_key run ≡ Some f
      first_is = by ys (first ys two)
        where
          by : (es : List (Item Gen T)) → first_key es ≡ Some f → first_key (map as_item es) ≡ Some f
          by [] is = is
          by (e ∷ es) is = is

      last_is_z : last_key run ≡ Some z
      last_is_z = by ys (first ys two) (ends_k ys two)
        where
          by : (es : List (Item Gen T)) → first_key es ≡ Some f → Some z ≡ last_key (ring_of k es) → last_key (map as_item es) ≡ Some z
          by [] is last = absurd (let none = is in cc)
          by (e ∷ es) is last = last_key-cons (k, entries.Head) (as_item e) (map as_item es) ∙ sym last

      turned : IsRing state interlinks old (run ++ (k, entries.Head) ∷ [])
      turned = ring_rotated state interlinks old ((k, entries.Head) ∷ []) run two

      in_k : (i : ℕ) → IsMember (indexes (run ++ (k, entries.Head) ∷ [])) i → IsMember (indexes (ring_of k ys)) i
      in_k i has = ⊎_elim (λ among. inr among) (λ is. ⊎_elim (λ head. inl head) (λ none. absurd none) is) (among-parts run ((k, entries.Head) ∷ []) i has)

      end_among : IsMember (indexes (ring_of h xs)) l.0
      end_among = last_among (ring_of h xs) l (sym (ends xs one))

      end_apart : IsMember (indexes (run ++ (k, entries.Head) ∷ [])) l.0 → ⊥
      end_apart has = other (same_handle state interlinks old h k xs ys l.0 one two end_among (in_k l.0 has))

      run_ends : IsRun (indexes run) f.0 z.0
      run_ends = is_run run f z first_is last_is_z

      pub emptied : IsList state interlinks new k []
      emptied = run_leaves state interlinks old new l f z splices kept.0 run ((k, entries.Head) ∷ []) run_ends turned end_apart (λ none. cc)

      pub extended : IsList state interlinks new h (xs ++ ys)
      extended =
          let end = last_apart (h, entries.Head) (map as_item xs) in
          let same : end.1.0 ≡ l = one_some (sym (ap last_key end.2 ∙ last_is end.0 end.1) ∙ sym (ends xs one)) in
          let was : ring_of h xs ≡ end.0 ++ (l, end.1.1) ∷ [] = end.2 ∙ ap (λ (q : ℕ × Gen). end.0 ++ (q, end.1.1) ∷ []) same in
          let now = run_comes state interlinks old new l f z splices kept.0 run ((k, entries.Head) ∷ []) run_ends turned end_apart end.1.1 end.0 [] (subst (IsRing state interlinks old) was one) in
          subst (IsRing state interlinks new) (ap (λ (r : List (Item Gen (Entry T))). end.0 ++ (l, end.1.1) ∷ r) (append-nil run)
          ∙ (sym (append_assoc end.0 ((l, end.1.1) ∷ []) run) ∙ (ap (λ (r : List (Item Gen (Entry T))). r ++ run) (sym was) ∙ sym (ring_parts h xs ys)))) now

      pub others_kept : KeepsOthers state interlinks old new (h ∷ k ∷ [])
      others_kept j zs none there = run_elsewhere state interlinks old new l f z splices kept.0 (ring_of j zs)
          (λ has. none.0 (same_handle state interlinks old j h zs xs l.0 there one has end_among))
          (λ has. none.1.0 (same_handle state interlinks old j k zs ys f.0 there two has (inr (first_among run f first_is))))
          (λ has. none.1.0 (same_handle state interlinks old j k zs ys z.0 there two has (inr (last_among run z last_is_z)))) there

  pub nothing_joined : (h k : ℕ × Gen) → IsList state interlinks old k [] → AreJoined state interlinks old old h k
  nothing_joined h k empty = record {
    lists = λ xs ys one two.
        let none = same_list state interlinks old k ys [] two empty in
        (subst (IsList state interlinks old h) (sym (ap (λ (l : List (Item Gen T)). xs ++ l) none ∙ append-nil xs)) one, empty);
    others = λ j zs none there. there;
    entries = (refl, refl);
  }

  pub each_joined : (h k : ℕ × Gen) → EachInList state interlinks old → (r : Option Unit) → JoinsLists state interlinks old h k r new → EachInList state interlinks new
  each_joined h k each None is = subst (EachInList state interlinks) (sym is.1) each
  each_joined h k each (Some done) (head, also, other, is) =
      let one = list_of state interlinks old each h head in
      let two = list_of state interlinks old each k also in
      let now = is.lists one.0 two.0 one.1 two.1 in
      each_kept_two state interlinks old new each h k one.0 two.0 (one.0 ++ two.0) [] one.1 two.1 now.0 now.1 is.others
      (λ i some no_h no_k. (
        ap (λ (g : ℕ → Option (Gen × Entry T)). is_some (g i)) (sym is.entries.0) ∙ some,
        (λ has. ⊎_elim (λ here. no_h (ring_has h (one.0 ++ two.0) i (inl here))) (λ among. no_h (ring_has h (one.0 ++ two.0) i (inr (among-left one.0 two.0 i among)))) (ring_member h one.0 i has)),
        (λ has. ⊎_elim (λ here. no_k (inl here)) (λ among. no_h (ring_has h (one.0 ++ two.0) i (inr (among-right one.0 two.0 i among)))) (ring_member k two.0 i has)),
      ))

-- `join`, by the case of the first item of the second list.
module _ {A Gen T : Type 0} {view : A → ArenaView Gen (Entry T)} {entry : A → ℕ → Option (Gen × Entry T)} (state : (a : A) → ArenaState (view a) (entry a)) (interlinks : A → LinkMap) {P : Type 0} (key : P → ℕ × Gen) (old new : A) (h k : P)
    (each : EachInList state interlinks old) (head : IsHandle (entry old) (key h)) (also : IsHandle (entry old) (key k)) (other : key h ≢ key k) where
  pub joins_nothing : ReadsFirst state interlinks key old k None → new ≡ old → JoinsLists state interlinks old (key h) (key k) (Some tt) new
  joins_nothing reads same =
      let list = list_of state interlinks old each (key k) also in
      subst (JoinsLists state interlinks old (key h) (key k) (Some tt)) (sym same) (head, also, other, nothing_joined state interlinks old old (key h) (key k) (subst (IsList state interlinks old (key k)) (empty list.0 (reads.first list.0 list.1)) list.1))
    where
      empty : (es : List (Item Gen T)) → None ≡ first_key es → es ≡ []
      empty [] none = refl
      empty (e ∷ es) none = absurd (let some = none in cc)

  pub appends_run : (l f z : P) → EndsList state interlinks old (key h) (key l) → EndsList state interlinks old (key k) (key z) → IsValid (entry old) (key l) → IsValid (entry old) (key z) → ReadsFirst state interlinks key old k (Some f)
      → (r : Option Unit) → SplicesAfter state interlinks key old l f z r new → IfNone r (new ≡ old) → JoinsLists state interlinks old (key h) (key k) r new
  appends_run l f z ends ends_k valid valid_z reads None is same = absurd (is (record { p_valid = valid; first_valid = first_valid list.0 (sym (reads.first list.0 list.1)) list.1; last_valid = valid_z; apart = ends_differ }))
    where
      list : (items : List (Item Gen T)) × IsList state interlinks old (key k) items
      list = list_of state interlinks old each (key k) also

      first_valid : (es : List (Item Gen T)) → first_key es ≡ Some (key f) → IsList state interlinks old (key k) es → IsValid (entry old) (key f)
      first_valid [] first there = absurd (let none = first in cc)
      first_valid (e ∷ es) first there = subst (IsValid (entry old)) (one_some first) (item_valid (entry old) e.0 e.1 there.are_stored.1.0)

      ends_differ : (key l).0 ≢ (key z).0
      ends_differ same =
          let mine = list_of state interlinks old each (key h) head in
          other (same_handle state interlinks old (key h) (key k) mine.0 list.0 (key z).0 mine.1 list.1
          (subst (IsMember (indexes (ring_of (key h) mine.0))) same (last_among (ring_of (key h) mine.0) (key l) (sym (ends mine.0 mine.1))))
          (last_among (ring_of (key k) list.0) (key z) (sym (ends_k list.0 list.1))))
  appends_run l f z ends ends_k valid valid_z reads (Some done) is same =
      let kept = entries_kept state interlinks old new (key h) is.1.view_after in
      let first : (ys : List (Item Gen T)) → IsList state interlinks old (key k) ys → first_key ys ≡ Some (key f) = λ ys two. sym (reads.first ys two) in
      let mine = list_of state interlinks old each (key h) head in
      let theirs = list_of state interlinks old each (key k) also in (
        head,
        also,
        other,
        record {
          lists = λ xs ys one two. (
            extended state interlinks old new (key h) (key k) (key l) (key f) (key z) other ends ends_k first is.1.chains kept xs ys one two,
            emptied state interlinks old new (key h) (key k) (key l) (key f) (key z) other ends ends_k first is.1.chains kept xs ys one two,
          );
          others = others_kept state interlinks old new (key h) (key k) (key l) (key f) (key z) other ends ends_k first is.1.chains kept mine.0 theirs.0 mine.1 theirs.1;
          entries = kept;
        },
      )
