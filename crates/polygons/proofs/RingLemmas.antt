-- Exchanges, insertions and removals in rings.
use Rattle.std.proofs.Common.{◌≡◌, ◌≢◌, ℕ, inl, inr, ⊎_elim, List, [], ◌∷◌, ◌++◌, reverse, Option, None, Some, refl, sym, ap, ◌∙◌, subst, arith}
use Rattle.std.specs.Prelude.{◌↔◌, ◌⊎◌, All, is_some, true, OnSome, IfNone, IfSome}
use Rattle.std.specs.Option.{option_map, option_and_then}
use Rattle.std.proofs.lemmas.Bool.{cases_eq}
use Rattle.std.proofs.lemmas.List.{map-append, reverse-append}
use Rattle.chain_laws.specs.Chains.{LinkMap, cyclic, IsChain, IsMember, AreDistinct, HasLink, IsWellLinked, next_of, next_in, prev_of, prev_in, first_or, last_or}
use Rattle.chain_laws.specs.Exchanges.{Exchanges, with_exchange}
use Rattle.chain_laws.specs.Reversals.{Reverses}
use Rattle.chain_laws.proofs.ChainLemmas.Rotations.{rotated}
use Rattle.chain_laws.proofs.ChainLemmas.Uniqueness.{one_cyclic}
use Rattle.chain_laws.proofs.ListLemmas.Members.{IsMember-right, IsMember-or_not}
use Rattle.chain_laws.proofs.ListLemmas.MemberLaws.{once_in_middle}
use Rattle.chain_laws.proofs.InterlinkLemmas.Inverses.{one_some}
use Rattle.chain_laws.proofs.ChainLemmas.MemberLaws.{chains_share_each, members_are_links}
use Rattle.chain_laws.proofs.ExchangeLemmas.Pairs.{exchanged_with_itself}
use Rattle.arena_core.specs.Numbers.{IsWithin}
use Rattle.arena_traits.specs.Arena.{IsValid, IsInserted}
use Rattle.arena_traits.specs.Entries.{ArenaView, ArenaState, Slots, index_of, first_key, last_key, next_slot, with_next_filled}
use Rattle.arena_traits.specs.CallOutcomes.{IsEntryInserted, ReplacesValue}
use Rattle.chain_traits.proofs.OutcomeLemmas.{if_mapped}
use Rattle.chain_links.specs.CallEffects.{IsReversed, ExchangesNext, ReversesChain}
use Rattle.chain_links.specs.ChainArena.{CanExchange, ptr_at}
use Rattle.chain_traits.proofs.GenericArenaLemmas.{some_valid, valid_some, links_within}
use Rattle.chain_traits.proofs.GenericRemovalLemmas.{same_entry}
use Rattle.chain_lists.specs.Lists.{Item, AreEntries, indexes, IsRing, KeepsWithout, InsertsAfter, InsertsBefore, IsItemBefore, IsItemAfter}
use Rattle.polygons.specs.Rings.{AllCyclic, AllInRings, IsCutInTwo, AreMerged, AreExchanged, ExchangesSuccessors, AreCopied, AreNextTwo, IsSplit, IsBridged, IsSplitAlong, IsTurnedOver, ReplacesPoint, ReversesRing, SecondExchangeRestores}
use Rattle.chain_lists.proofs.ItemListLemmas.{are_stored-append, are_stored-left, are_stored-right, are_stored-some, stored_kept, are_stored-reversed, indexes-reversed, same_items, same_pointer, item_among, last_key-cons}
use Rattle.chain_lists.proofs.ListChangeLemmas.{parts, whole, stays}
use Rattle.chain_lists.proofs.ValueWriteLemmas.{has_new_value}
use Rattle.polygons.proofs.CyclicLemmas.{some_item, ring_from}

pub items_at : {Gen T : Type 0} (entry : ℕ → Option (Gen × T)) (ks : List ℕ) → ((k : ℕ) → IsMember ks k → is_some (entry k) ≡ true) → (es : List (Item Gen T)) × (indexes es ≡ ks) × AreEntries entry es
items_at entry [] some = ([], refl, tt)
items_at entry (k ∷ ks) some =
    let e = some_item (entry k) (some k (inl refl)) in
    let more = items_at entry ks (λ j has. some j (inr has)) in
    (((k, e.0.0), e.0.1) ∷ more.0, ap (λ (l : List ℕ). k ∷ l) more.1, (e.1, more.2))

both : {X : Type 0} (F G : X → Type 0) (o : Option X) → IfSome o F → IfSome o G → IfSome o (λ x. F x × G x)
both F G None f g = tt
both F G (Some x) f g = (f, g)

mapped_twice : {X : Type 0} (f : X → X) (o : Option X) → option_map f (option_map f o) ≡ option_map (λ x. f (f x)) o
mapped_twice f None = refl
mapped_twice f (Some x) = refl

pub next_two : {A Gen T : Type 0} {view : A → ArenaView Gen T} {entry : A → ℕ → Option (Gen × T)} (state : (a : A) → ArenaState (view a) (entry a)) (old first second : A) (c d : ℕ × Gen) (s t : T)
    → IsEntryInserted state old s c first → IsEntryInserted state first t d second → AreNextTwo (view old) (view second) c d
next_two {Gen = Gen} {view = view} state old first second c d s t one two = record {
  more = omega (arith, one.more, two.more);
  generations = both (λ g. c.1 ≡ g) (λ g. d.1 ≡ g) (view old).counter one.generation (subst (λ (o : Option Gen). IfSome o (λ g. d.1 ≡ g)) one.counter two.generation);
  indexes = both (λ slots. c.0 ≡ next_slot slots) (λ slots. d.0 ≡ next_slot (with_next_filled slots)) (view old).slots one.index (if_mapped (λ slots. d.0 ≡ next_slot slots) with_next_filled (view old).slots (subst (λ (o : Option Slots). IfSome o (λ slots. d.0 ≡ next_slot slots)) one.slots two.index));
  slots = two.slots ∙ (ap (option_map with_next_filled) one.slots ∙ mapped_twice with_next_filled (view old).slots);
  counter = two.counter ∙ one.counter;
  maximum = two.maximum ∙ one.maximum;
}

-- Two insertions, at `c` and then at `d`, use two free indexes.
module _ {Gen T : Type 0} (entry mid after : ℕ → Option (Gen × T)) (c d : ℕ × Gen) (a b : T) (gained : IsInserted entry mid c a) (also : IsInserted mid after d b) where
  copies_differ : c.0 ≢ d.0
  copies_differ same = let some = ap is_some gained.stored in let none = ap is_some (ap mid same ∙ also.free) in let both = sym some ∙ none in cc

  copies_added : (p q : ℕ × Gen) → entry p.0 ≡ Some (p.1, a) → entry q.0 ≡ Some (q.1, b) → AreCopied entry after p q c d
  copies_added p q at_p at_q = record {
    first_free = gained.free;
    second_free = sym (gained.rest d.0 (λ same. copies_differ (sym same))) ∙ also.free;
    distinct = copies_differ;
    first = λ s at. also.rest c.0 copies_differ ∙ (gained.stored ∙ ap (λ (t : T). Some (c.1, t)) (ap (λ (e : Gen × T). e.1) (one_some (sym at_p ∙ at))));
    second = λ t at. also.stored ∙ ap (λ (t : T). Some (d.1, t)) (ap (λ (e : Gen × T). e.1) (one_some (sym at_q ∙ at)));
    rest = λ i not_c not_d. also.rest i not_d ∙ gained.rest i not_c;
  }

module _ {A Gen T : Type 0} {view : A → ArenaView Gen T} {entry : A → ℕ → Option (Gen × T)} (state : (a : A) → ArenaState (view a) (entry a)) (interlinks : A → LinkMap) where
  module _ (a : A) (p : ℕ × Gen) (t : T) (others : List (Item Gen T)) (is : IsRing state interlinks a ((p, t) ∷ others)) where
    pub in_a_ring : IsValid (entry a) p
    in_a_ring = record { value = t; stored = is.are_stored.0 }

    pub ring_continues : option_and_then (ptr_at (entry a)) (next_of (interlinks a) p.0) ≡ first_key (others ++ (p, t) ∷ [])
    ring_continues = ap (λ o. option_and_then (ptr_at (entry a)) (next_in o)) is.chain.2.0 ∙ key_of others is.are_stored.1
      where
        key_of : (es : List (Item Gen T)) → AreEntries (entry a) es → option_and_then (ptr_at (entry a)) (first_or (indexes es) (Some p.0)) ≡ first_key (es ++ (p, t) ∷ [])
        key_of [] s = ap (option_map (λ (x : Gen × T). (p.0, x.0))) is.are_stored.0
        key_of (e ∷ es) s = ap (option_map (λ (x : Gen × T). (e.0.0, x.0))) s.0

    pub ring_precedes : option_and_then (ptr_at (entry a)) (prev_of (interlinks a) p.0) ≡ last_key ((p, t) ∷ others)
    ring_precedes = ap (λ o. option_and_then (ptr_at (entry a)) (prev_in o)) is.chain.2.0 ∙ key_of (p, t) others is.are_stored
      where
        key_of : (e : Item Gen T) (es : List (Item Gen T)) → AreEntries (entry a) (e ∷ es) → option_and_then (ptr_at (entry a)) (last_or (indexes es) (Some e.0.0)) ≡ last_key (e ∷ es)
        key_of e [] s = ap (option_map (λ (x : Gen × T). (e.0.0, x.0))) s.0
        key_of e (f ∷ fs) s = key_of f fs s.1 ∙ last_key-cons e f fs

  pub ring_rotated : (a : A) (xs ys : List (Item Gen T)) → IsRing state interlinks a (xs ++ ys) → IsRing state interlinks a (ys ++ xs)
  ring_rotated a xs ys is = record {
    chain = whole state interlinks cyclic a ys xs (rotated (interlinks a) (indexes xs) (indexes ys) (parts state interlinks cyclic a xs ys is.chain));
    are_stored = are_stored-append (entry a) ys xs (are_stored-right (entry a) xs ys is.are_stored) (are_stored-left (entry a) xs ys is.are_stored);
  }

  can_exchange : (a : A) → ((i : ℕ) → is_some (entry a i) ≡ true → HasLink (interlinks a) i) → AllCyclic (interlinks a) → (p q : ℕ × Gen)
      → CanExchange (entry a) (interlinks a) p q ↔ (IsValid (entry a) p × IsValid (entry a) q)
  can_exchange a linked all_cyclic p q = (
    λ can. (can.first_valid, can.second_valid),
    λ valid. record {
      first_valid = valid.0;
      second_valid = valid.1;
      first_next = all_cyclic p.0 (linked p.0 (ap is_some valid.0.stored));
      second_next = all_cyclic q.0 (linked q.0 (ap is_some valid.1.stored));
    },
  )

  module _ (old new : A) (p q : ℕ × Gen) (exchanges : Exchanges (interlinks old) (interlinks new) p.0 q.0) (same : entry new ≡ entry old) where
    cuts_in_two : IsCutInTwo state interlinks old new p q
    cuts_in_two s t x y is =
        let right = are_stored-right (entry old) x ((q, t) ∷ y) is.are_stored.1 in
        let both = exchanges.one_cyclic (indexes x) (indexes y) (parts state interlinks cyclic old ((p, s) ∷ x) ((q, t) ∷ y) is.chain) in (
          stays state interlinks cyclic old new same ((p, s) ∷ y) (is.are_stored.0, right.1) both.0,
          stays state interlinks cyclic old new same ((q, t) ∷ x) (right.0, are_stored-left (entry old) x ((q, t) ∷ y) is.are_stored.1) both.1,
        )

    merges : AreMerged state interlinks old new p q
    merges s t x y first second apart = stays state interlinks cyclic old new same ((p, s) ∷ y ++ (q, t) ∷ x) (first.are_stored.0, are_stored-append (entry old) y ((q, t) ∷ x) second.are_stored.1 (second.are_stored.0, first.are_stored.1))
        (whole state interlinks cyclic new ((p, s) ∷ y) ((q, t) ∷ x) (exchanges.two_cyclic (indexes x) (indexes y) first.chain second.chain apart))

    keeps_exchanged : KeepsWithout state interlinks cyclic old new (p ∷ q ∷ [])
    keeps_exchanged xs absent is = stays state interlinks cyclic old new same xs is.are_stored ((exchanges.rest (cyclic (indexes xs)) absent.0 absent.1.0).0 is.chain)

  exchanged_itself : (old new : A) → ((i : ℕ) → is_some (entry old i) ≡ true → HasLink (interlinks old) i) → (p q : ℕ × Gen) → IsValid (entry old) p → IsWellLinked (interlinks old) → p ≡ q
      → interlinks new ≡ with_exchange (interlinks old) p.0 q.0 → interlinks new ≡ interlinks old
  exchanged_itself old new linked p q valid agrees same changed =
      changed ∙ subst (λ (k : ℕ × Gen). with_exchange (interlinks old) p.0 k.0 ≡ interlinks old) same (exchanged_with_itself (interlinks old) p.0 agrees (linked p.0 (ap is_some valid.stored)))

  pub exchanges_successors : {P : Type 0} (key : P → ℕ × Gen) (old new : A) (p q : P) → ((i : ℕ) → is_some (entry old i) ≡ true → HasLink (interlinks old) i) → IsWellLinked (interlinks old) → AllCyclic (interlinks old)
      → (r : Option Unit) → ExchangesNext state interlinks key old p q r new → IfNone r (new ≡ old) → ExchangesSuccessors state interlinks old (key p) (key q) r new
  exchanges_successors key old new p q linked agrees all_cyclic None is same = (λ valid. is ((can_exchange old linked all_cyclic (key p) (key q)).1 valid), same)
  exchanges_successors key old new p q linked agrees all_cyclic (Some done) is same =
      let entries = same_entry state old new (ap (λ (s : ArenaView Gen T). s.entries) is.1.view_after) in
      record {
        valid = (is.0.first_valid, is.0.second_valid);
        cut = cuts_in_two old new (key p) (key q) is.1.chains entries;
        merged = merges old new (key p) (key q) is.1.chains entries;
        itself = λ one. exchanged_itself old new linked (key p) (key q) is.0.first_valid agrees one is.1.exchanged;
        rest = record { others = keeps_exchanged old new (key p) (key q) is.1.chains entries; entries = entries; view_after = is.1.view_after };
      }

  pub exchanged_valid : (old new : A) (p q : ℕ × Gen) (r : Option Unit) → ExchangesSuccessors state interlinks old p q r new → IsValid (entry old) p → IsValid (entry old) q → AreExchanged state interlinks old new p q
  exchanged_valid old new p q None is one two = absurd (is.0 (one, two))
  exchanged_valid old new p q (Some done) is one two = is

  pub ring_viewed : (old new : A) → entry new ≡ entry old → interlinks new ≡ interlinks old → (xs : List (Item Gen T)) → IsRing state interlinks old xs → IsRing state interlinks new xs
  ring_viewed old new same linked xs is = stays state interlinks cyclic old new same xs is.are_stored (subst (λ (l : LinkMap). IsChain l (cyclic (indexes xs))) (sym linked) is.chain)

  module _ (old first second new : A) (u v c d : ℕ × Gen) (a b : T) where
    splits : entry old u.0 ≡ Some (u.1, a) → entry old v.0 ≡ Some (v.1, b) → InsertsBefore state interlinks cyclic old first u (c, a) → InsertsAfter state interlinks cyclic first second v (d, b)
        → IsCutInTwo state interlinks second new v c → IsSplit state interlinks old new u v c d
    splits at_u at_v before after cut s t x y is =
        let one = before s [] (x ++ (v, t) ∷ y) is in
        let two = after t ((c, a) ∷ (u, s) ∷ x) y one in
        let parts = cut t a ((d, b) ∷ y) ((u, s) ∷ x) (ring_rotated second ((c, a) ∷ (u, s) ∷ x) ((v, t) ∷ (d, b) ∷ y) two) in
        let same_u : a ≡ s = ap (λ (e : Gen × T). e.1) (one_some (sym at_u ∙ is.are_stored.0)) in
        let same_v : b ≡ t = ap (λ (e : Gen × T). e.1) (one_some (sym at_v ∙ (are_stored-right (entry old) x ((v, t) ∷ y) is.are_stored.1).0)) in
        (parts.0, subst (λ (w : T). IsRing state interlinks new ((c, s) ∷ (d, w) ∷ y)) same_v (subst (λ (w : T). IsRing state interlinks new ((c, w) ∷ (d, b) ∷ y)) same_u parts.1))

    bridges : entry old u.0 ≡ Some (u.1, a) → entry old v.0 ≡ Some (v.1, b) → IsInserted (entry old) (entry first) c a → IsInserted (entry first) (entry second) d b
        → InsertsBefore state interlinks cyclic old first u (c, a) → KeepsWithout state interlinks cyclic old first (u ∷ [])
        → InsertsAfter state interlinks cyclic first second v (d, b) → KeepsWithout state interlinks cyclic first second (v ∷ [])
        → AreMerged state interlinks second new v c → IsBridged state interlinks old new u v c d
    bridges at_u at_v gained also before kept after kept_too merged s t x y one two apart =
        let same_u : a ≡ s = ap (λ (e : Gen × T). e.1) (one_some (sym at_u ∙ one.are_stored.0)) in
        let same_v : b ≡ t = ap (λ (e : Gen × T). e.1) (one_some (sym at_v ∙ two.are_stored.0)) in
        let grown = kept_too ((c, a) ∷ (u, s) ∷ x) (not_among, tt) (before s [] x one) in
        let other = after t [] y (kept ((v, t) ∷ y) (other_excludes, tt) two) in
        let ring = merged t a ((d, b) ∷ y) ((u, s) ∷ x) other grown new_among in
        subst (λ (w : T). IsRing state interlinks new ((v, t) ∷ (u, s) ∷ x ++ (c, s) ∷ (d, w) ∷ y)) same_v
        (subst (λ (w : T). IsRing state interlinks new ((v, t) ∷ (u, s) ∷ x ++ (c, w) ∷ (d, b) ∷ y)) same_u ring)
      where
        free : (xs : List (Item Gen T)) → AreEntries (entry old) xs → IsMember (indexes xs) c.0 → ⊥
        free xs are_stored has = let some = are_stored-some (entry old) xs c.0 are_stored has in let none = ap is_some gained.free in let both = sym some ∙ none in cc

        other_excludes : IsMember (indexes ((v, t) ∷ y)) u.0 → ⊥
        other_excludes has = apart ((chains_share_each (interlinks old) (cyclic (indexes ((u, s) ∷ x))) (cyclic (indexes ((v, t) ∷ y))) u.0 v.0 one.chain two.chain (inl refl) has).1 (inl refl))

        not_among : IsMember (indexes ((c, a) ∷ (u, s) ∷ x)) v.0 → ⊥
        not_among (inl is) = free ((v, t) ∷ y) two.are_stored (inl (sym is))
        not_among (inr has) = apart has

        new_among : IsMember (indexes ((v, t) ∷ (d, b) ∷ y)) c.0 → ⊥
        new_among (inl is) = free ((v, t) ∷ y) two.are_stored (inl is)
        new_among (inr (inl is)) = copies_differ (entry old) (entry first) (entry second) c d a b gained also (sym is)
        new_among (inr (inr has)) = free ((v, t) ∷ y) two.are_stored (inr has)

    keeps_split : entry old c.0 ≡ None → KeepsWithout state interlinks cyclic old first (u ∷ []) → KeepsWithout state interlinks cyclic first second (v ∷ []) → KeepsWithout state interlinks cyclic second new (v ∷ c ∷ [])
        → KeepsWithout state interlinks cyclic old new (u ∷ v ∷ [])
    keeps_split free gained also cut xs absent is =
        cut xs (absent.1.0, ((λ has. let some = are_stored-some (entry old) xs c.0 is.are_stored has in let none = ap is_some free in let both = sym some ∙ none in cc), tt)) (also xs (absent.1.0, tt) (gained xs (absent.0, tt) is))

  pub exchange_keeps_view : (old new : A) (p q : ℕ × Gen) (r : Option Unit) → ExchangesSuccessors state interlinks old p q r new → view new ≡ view old
  exchange_keeps_view old new p q None is = ap view is.1
  exchange_keeps_view old new p q (Some done) is = is.rest.view_after

  pub split_along : (old first second new : A) (u v c d : ℕ × Gen) (a b : T) → entry old u.0 ≡ Some (u.1, a) → entry old v.0 ≡ Some (v.1, b)
      → IsItemBefore state interlinks cyclic old first u (c, a) → IsItemAfter state interlinks cyclic first second v (d, b)
      → (r : Option Unit) → ExchangesSuccessors state interlinks second v c r new → IsSplitAlong state interlinks old new u v c d
  split_along old first second new u v c d a b at_u at_v before after r exchanged =
      let one = before.item.entries in
      let two = after.item.entries in
      let at_c = stored_kept (entry first) (entry second) d two.free two.rest ((c, a) ∷ []) (one.stored, tt) in
      let still_v = stored_kept (entry first) (entry second) d two.free two.rest ((v, b) ∷ []) (stored_kept (entry old) (entry first) c one.free one.rest ((v, b) ∷ []) (at_v, tt)) in
      let change = exchanged_valid second new v c r exchanged (record { value = b; stored = still_v.0 }) (record { value = a; stored = at_c.0 }) in
      record {
        split = splits old first second new u v c d a b at_u at_v before.list after.list change.cut;
        bridged = bridges old first second new u v c d a b at_u at_v one two before.list before.others after.list after.others change.merged;
        copies = subst (λ (e : ℕ → Option (Gen × T)). AreCopied (entry old) e u v c d) (sym change.rest.entries) (copies_added (entry old) (entry first) (entry second) c d a b one two u v at_u at_v);
        others = keeps_split old first second new u v c d a b one.free before.others after.others change.rest.others;
        next_two = subst (λ (s : ArenaView Gen T). AreNextTwo (view old) s c d) (sym change.rest.view_after) (next_two state old first second c d a b before.item after.item);
      }

  pub rings_agree : (a : A) (e : Item Gen T) (xs ys : List (Item Gen T)) → IsRing state interlinks a (e ∷ xs) → IsRing state interlinks a (e ∷ ys) → xs ≡ ys
  rings_agree a e xs ys one two = same_items (entry a) xs ys one.are_stored.1 two.are_stored.1 (one_cyclic (interlinks a) e.0.0 (indexes xs) (indexes ys) one.chain two.chain)

  pub all_in_rings : (a : A) → ((i : ℕ) → is_some (interlinks a i) ≡ is_some (entry a i)) → (greatest : ℕ) → All (λ e. IsWithin greatest (index_of e)) (view a).entries → IsWellLinked (interlinks a) → AllCyclic (interlinks a)
      → AllInRings state interlinks a
  all_in_rings a alike greatest within agrees all_cyclic e at =
      let es = (view a).entries in
      let finds = (state a).finds in
      let ring = ring_from (interlinks a) greatest e.0.0 agrees (links_within (interlinks a) (entry a) es alike finds greatest within) all_cyclic (some_valid (interlinks a) (entry a) es alike finds e.0.0 (ap is_some at)) in
      let items = items_at (entry a) ring.0 (λ k has. valid_some (interlinks a) (entry a) es alike finds k (members_are_links (interlinks a) (cyclic (e.0.0 ∷ ring.0)) k ring.1 (inr has))) in
      let listed : IsRing state interlinks a (e ∷ items.0) = record { chain = subst (λ (l : List ℕ). IsChain (interlinks a) (cyclic (e.0.0 ∷ l))) (sym items.1) ring.1; are_stored = (at, items.2) } in
      record { others = items.0; ring = listed; only = λ xs is. rings_agree a e xs items.0 is listed }

  module _ (old new : A) (p : ℕ × Gen) (turned : Reverses (interlinks old) (interlinks new) p.0) (same : entry new ≡ entry old) where
    turns_over : IsTurnedOver state interlinks old new p
    turns_over t others is = stays state interlinks cyclic old new same ((p, t) ∷ reverse others) (is.are_stored.0, are_stored-reversed (entry old) others [] is.are_stored.1 tt)
        (subst (λ (l : List ℕ). IsChain (interlinks new) (cyclic (p.0 ∷ l))) (sym (indexes-reversed others []))
        (rotated (interlinks new) (reverse (indexes others)) (p.0 ∷ [])
        (subst (λ (l : List ℕ). IsChain (interlinks new) (cyclic l)) (reverse-append (p.0 ∷ []) (indexes others)) (turned.chain (cyclic (p.0 ∷ indexes others)) is.chain (inl refl)))))

    keeps_turned : KeepsWithout state interlinks cyclic old new (p ∷ [])
    keeps_turned xs absent is = stays state interlinks cyclic old new same xs is.are_stored ((turned.rest (cyclic (indexes xs)) absent.0).0 is.chain)

  pub reversed_on : {P : Type 0} (key : P → ℕ × Gen) (old new : A) (p : P) (r : Option Unit) → ReversesChain state interlinks key old p r new → OnSome r (IsReversed state interlinks old new (key p).0)
  reversed_on key old new p None is = tt
  reversed_on key old new p (Some done) is = is.1

  pub reverses_ring : {P : Type 0} (key : P → ℕ × Gen) (old new : A) (p : P) (r : Option Unit) → ReversesChain state interlinks key old p r new → IfNone r (new ≡ old) → ReversesRing state interlinks old (key p) r new
  reverses_ring key old new p None is same = (is, same)
  reverses_ring key old new p (Some done) is same =
      let entries = same_entry state old new (ap (λ (s : ArenaView Gen T). s.entries) is.1.view_after) in
      (is.0, turns_over old new (key p) is.1.chains entries, record { others = keeps_turned old new (key p) is.1.chains entries; entries = entries; view_after = is.1.view_after })

  pub replaces_point : {P : Type 0} (key : P → ℕ × Gen) (old new : A) (p : P) (t : T) (r : Option T) {W : Type 0} → ReplacesValue state key old p t r new → IfNone r (new ≡ old) → (W → interlinks new ≡ interlinks old) → OnSome r W
      → ReplacesPoint state interlinks old (key p) t r new
  replaces_point key old new p t None is same keeps written = (is, same)
  replaces_point key old new p t (Some former) is same keeps written = (is.0, has_new_value state interlinks cyclic (λ l. refl) old new (key p).0 t is.1 (key p).1 (keeps written))

  module _ (old mid new : A) (p q : ℕ × Gen) (all : AllInRings state interlinks old) (one : AreExchanged state interlinks old mid p q) (two : AreExchanged state interlinks mid new p q) where
    restored_from : (s : T) (others : List (Item Gen T)) → IsRing state interlinks old ((p, s) ∷ others) → IsRing state interlinks new ((p, s) ∷ others)
    restored_from s others is = ⊎_elim with_q without_q (IsMember-or_not (indexes others) q.0)
      where
        with_q : IsMember (indexes others) q.0 → IsRing state interlinks new ((p, s) ∷ others)
        with_q has = by (item_among (entry old) others q is.are_stored.1 one.valid.1 has)
          where
            by : (x : List (Item Gen T)) × (t : T) × (y : List (Item Gen T)) × (others ≡ x ++ (q, t) ∷ y) → IsRing state interlinks new ((p, s) ∷ others)
            by (x, t, y, same) =
                let was = subst (λ (l : List (Item Gen T)). IsRing state interlinks old ((p, s) ∷ l)) same is in
                let cut = one.cut s t x y was in
                let once = (once_in_middle (p.0 ∷ indexes x) (indexes y) q.0).0 (subst (λ (l : List ℕ). AreDistinct (p.0 ∷ l)) (map-append index_of x ((q, t) ∷ y)) was.chain.1) in
                subst (λ (l : List (Item Gen T)). IsRing state interlinks new ((p, s) ∷ l)) (sym same)
                (two.merged s t y x cut.0 cut.1 (λ has. once.0 (⊎_elim (λ is_p. inl is_p) (λ in_y. inr (IsMember-right (indexes x) (indexes y) q.0 in_y)) has)))

        without_q : (IsMember (indexes others) q.0 → ⊥) → IsRing state interlinks new ((p, s) ∷ others)
        without_q apart = ⊎_elim
            (λ same.
            let itself = same_pointer (entry old) p q one.valid.0 one.valid.1 same in
            ring_viewed mid new two.rest.entries (two.itself itself) ((p, s) ∷ others) (ring_viewed old mid one.rest.entries (one.itself itself) ((p, s) ∷ others) is))
            (λ other.
            let ring = all (q, one.valid.1.value) one.valid.1.stored in
            (two.cut s one.valid.1.value ring.others others (one.merged s one.valid.1.value others ring.others is ring.ring (λ has. ⊎_elim other apart has))).0)
            (cases_eq p.0 q.0)

    restored_other : (t : T) (others : List (Item Gen T)) → IsRing state interlinks old ((q, t) ∷ others) → (IsMember (indexes ((q, t) ∷ others)) p.0 → ⊥) → IsRing state interlinks new ((q, t) ∷ others)
    restored_other t others is apart =
        let ring = all (p, one.valid.0.value) one.valid.0.stored in
        (two.cut one.valid.0.value t others ring.others (one.merged one.valid.0.value t ring.others others ring.ring is
        (λ has. apart ((chains_share_each (interlinks old) (cyclic (p.0 ∷ indexes ring.others)) (cyclic (q.0 ∷ indexes others)) q.0 p.0 ring.ring.chain is.chain has (inl refl)).0 (inl refl))))).1

    from_item : (k : ℕ × Gen) (xs : List (Item Gen T)) → IsValid (entry old) k → IsMember (indexes xs) k.0 → IsRing state interlinks old xs
        → ((t : T) (others : List (Item Gen T)) → IsRing state interlinks old ((k, t) ∷ others) → IsMember (indexes xs) p.0 ⊎ (IsMember (indexes ((k, t) ∷ others)) p.0 → ⊥) → IsRing state interlinks new ((k, t) ∷ others))
        → IsRing state interlinks new xs
    from_item k xs valid has is restored = by (item_among (entry old) xs k is.are_stored valid has)
      where
        by : (x : List (Item Gen T)) × (t : T) × (y : List (Item Gen T)) × (xs ≡ x ++ (k, t) ∷ y) → IsRing state interlinks new xs
        by (x, t, y, same) =
            let turned = ring_rotated old x ((k, t) ∷ y) (subst (IsRing state interlinks old) same is) in
            let same_members = chains_share_each (interlinks old) (cyclic (indexes xs)) (cyclic (indexes ((k, t) ∷ y ++ x))) k.0 p.0 is.chain turned.chain has (inl refl) in
            subst (IsRing state interlinks new) (sym same)
            (ring_rotated new ((k, t) ∷ y) x (restored t (y ++ x) turned (⊎_elim (λ in_xs. inl in_xs) (λ apart. inr (λ among. apart (same_members.1 among))) (IsMember-or_not (indexes xs) p.0))))

    pub exchanged_back : (xs : List (Item Gen T)) → IsRing state interlinks old xs → IsRing state interlinks new xs
    exchanged_back xs is = ⊎_elim
        (λ has. from_item p xs one.valid.0 has is (λ t others ring _. restored_from t others ring))
        (λ no_p. ⊎_elim
        (λ has. from_item q xs one.valid.1 has is (λ t others ring without. restored_other t others ring (⊎_elim (λ in_xs. absurd (no_p in_xs)) (λ apart. apart) without)))
        (λ no_q. two.rest.others xs (no_p, (no_q, tt)) (one.rest.others xs (no_p, (no_q, tt)) is))
        (IsMember-or_not (indexes xs) q.0))
        (IsMember-or_not (indexes xs) p.0)

  pub second_exchange : SecondExchangeRestores state interlinks
  second_exchange old mid new p q all one two = exchanged_back old mid new p q all one two
