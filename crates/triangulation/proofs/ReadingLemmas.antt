-- Reading the corners of a ring in order.
use Rattle.std.proofs.Common.{◌≡◌, ℕ, ◌+◌, ◌≤◌, inl, inr, List, [], ◌∷◌, ◌++◌, map, length, Option, None, Some, refl, sym, ap, ◌∙◌, subst, arith}
use Rattle.std.specs.Prelude.{is_some, true}
use Rattle.std.specs.Option.{option_map}
use Rattle.std.proofs.lemmas.List.{map-append, append_assoc, length-append, length-map}
use Rattle.chain_laws.specs.Chains.{LinkMap, IsMember, AreDistinct}
use Rattle.chain_laws.proofs.ListLemmas.Members.{IsMember-right}
use Rattle.chain_laws.proofs.WalkLemmas.WalkBack.{length_among}
use Rattle.chain_laws.proofs.InterlinkLemmas.Inverses.{one_some}
use Rattle.arena_traits.specs.Arena.{IsValid}
use Rattle.arena_traits.specs.Entries.{ArenaView, ArenaState, count, index_of, first_key}
use Rattle.chain_links.proofs.OccupiedIndexLemmas.{found_has}
use Rattle.chain_lists.specs.Lists.{Item, AreEntries, indexes, IsRing}
use Rattle.polygons.specs.Rings.{AllInRings, ReadsNextInRing}
use Rattle.triangulation.specs.declared.points.Point.{Point}
use Rattle.triangulation.specs.Clippings.{points, IsRingFrom}
use Rattle.triangulation.proofs.CornerLemmas.{stored_right, ring_turned, value_read}

pub record IsRead {Gen : Type 0} (items : List (Item Gen Point)) (at : ℕ × Gen) (read : List Point) (n : ℕ) : Type 0 where
  pub passed : List (Item Gen Point)
  pub here : Item Gen Point
  pub rest : List (Item Gen Point)
  pub split : items ≡ passed ++ here ∷ rest
  pub place : at ≡ here.0
  pub values : read ≡ points passed
  pub number : length passed ≡ n

not_none : {Gen T : Type 0} (xs : List (Item Gen T)) (e : Item Gen T) → first_key (xs ++ e ∷ []) ≡ None → ⊥
not_none [] e none = let h = none in cc
not_none (x ∷ xs) e none = let h = none in cc

pub stored_some : {Gen T : Type 0} (entry : ℕ → Option (Gen × T)) (xs : List (Item Gen T)) (i : ℕ) → AreEntries entry xs → IsMember (indexes xs) i → is_some (entry i) ≡ true
stored_some entry [] i s has = absurd has
stored_some entry (x ∷ xs) i s (inl is) = ap (λ k. is_some (entry k)) (sym is) ∙ ap is_some s.0
stored_some entry (x ∷ xs) i s (inr has) = stored_some entry xs i s.1 has

first_once : {Gen : Type 0} (passed : List (Item Gen Point)) (here f : Item Gen Point) (fs : List (Item Gen Point)) → AreDistinct (indexes (passed ++ here ∷ f ∷ fs)) → first_key (passed ++ here ∷ f ∷ fs) ≡ Some f.0 → ⊥
first_once [] here f fs distinct first = distinct.0 (inl (ap (λ (k : ℕ × _). k.0) (sym (one_some first))))
first_once (x ∷ xs) here f fs distinct first = distinct.0 (subst (λ (l : List ℕ). IsMember l x.0.0) (sym (map-append index_of xs (here ∷ f ∷ fs)))
    (IsMember-right (indexes xs) (indexes (here ∷ f ∷ fs)) x.0.0 (inr (inl (ap (λ (k : ℕ × _). k.0) (sym (one_some first)))))))

module _ {A Gen : Type 0} {view : A → ArenaView Gen Point} {entry : A → ℕ → Option (Gen × Point)} (state : (a : A) → ArenaState (view a) (entry a)) (interlinks : A → LinkMap) where
  pub few_corners : (a : A) (items : List (Item Gen Point)) → IsRing state interlinks a items → length items ≤ count (view a)
  few_corners a items is =
      let among = length_among (indexes items) (map index_of (view a).entries) is.chain.1 (λ i has. found_has i (view a).entries (ap is_some ((state a).finds i) ∙ stored_some (entry a) items i is.are_stored has)) in
      omega (arith, among, length-map items index_of, length-map (view a).entries index_of)

  pub ring_of_valid : (a : A) (p : ℕ × Gen) → AllInRings state interlinks a → IsValid (entry a) p → (items : List (Item Gen Point)) × IsRingFrom state interlinks a p items
  ring_of_valid a p all valid = let ring = all (p, valid.value) valid.stored in ((p, valid.value) ∷ ring.others, record { ring = ring.ring; first = refl })

  module _ (a : A) (start : ℕ × Gen) (items : List (Item Gen Point)) (from : IsRingFrom state interlinks a start items) where
    pub read_starts : (read : List Point) → read ≡ [] → IsRead items start read 0
    read_starts read none = by items from
      where
        by : (xs : List (Item Gen Point)) → IsRingFrom state interlinks a start xs → IsRead xs start read 0
        by [] is = absurd (let h = is.first in cc)
        by (x ∷ xs) is = record { passed = []; here = x; rest = xs; split = refl; place = sym (one_some is.first); values = none; number = refl }

    module _ (at : ℕ × Gen) (read : List Point) (n : ℕ) (is : IsRead items at read n) where
      pub more_corners : n + 1 ≤ length items
      more_corners = omega (arith, is.number, ap length is.split, length-append is.passed (is.here ∷ is.rest))

      stored_here : entry a is.here.0.0 ≡ Some (is.here.0.1, is.here.1)
      stored_here = (stored_right (entry a) is.passed (is.here ∷ is.rest) (subst (λ (l : List (Item Gen Point)). AreEntries (entry a) l) is.split from.ring.are_stored)).0

      pub valid_here : IsValid (entry a) at
      valid_here = record { value = is.here.1; stored = subst (λ (k : ℕ × Gen). entry a k.0 ≡ Some (k.1, is.here.1)) (sym is.place) stored_here }

      pub value_here : (v : Point) → entry a at.0 ≡ Some (at.1, v) → v ≡ is.here.1
      value_here v reads = value_read (entry a) at is.here v reads is.place stored_here

      pub ring_here : IsRing state interlinks a (is.here ∷ (is.rest ++ is.passed))
      ring_here = ring_turned state interlinks a is.passed (is.here ∷ is.rest) (subst (λ (l : List (Item Gen Point)). IsRing state interlinks a l) is.split from.ring)

      module _ {P : Type 0} (key : P → ℕ × Gen) (p : P) (same : key p ≡ at) (r : Option P) (reads : ReadsNextInRing state interlinks key a p r) where
        next_here : option_map key r ≡ first_key ((is.rest ++ is.passed) ++ is.here ∷ [])
        next_here = subst (λ (k : ℕ × Gen). IsRing state interlinks a ((k, is.here.1) ∷ (is.rest ++ is.passed)) → option_map key r ≡ first_key ((is.rest ++ is.passed) ++ (k, is.here.1) ∷ [])) (same ∙ is.place) (reads.next is.here.1 (is.rest ++ is.passed)) ring_here

        pub next_exists : r ≡ None → ⊥
        next_exists none = not_none (is.rest ++ is.passed) is.here (sym next_here ∙ ap (option_map key) none)

        module _ (q : P) (got : r ≡ Some q) where
          pub next_key : Some (key q) ≡ first_key ((is.rest ++ is.passed) ++ is.here ∷ [])
          next_key = sym (ap (option_map key) got) ∙ next_here

          pub read_more : (more : List Point) (v : Point) → more ≡ read ++ v ∷ [] → v ≡ is.here.1 → (key q ≡ start → ⊥) → IsRead items (key q) more (n + 1)
          read_more more v pushed value other = by is.rest is.split next_key
            where
              by : (rest : List (Item Gen Point)) → items ≡ is.passed ++ is.here ∷ rest → Some (key q) ≡ first_key ((rest ++ is.passed) ++ is.here ∷ []) → IsRead items (key q) more (n + 1)
              by [] split next = absurd (other (one_some (next ∙ (ap first_key (sym split) ∙ from.first))))
              by (f ∷ fs) split next = record {
                passed = is.passed ++ is.here ∷ [];
                here = f;
                rest = fs;
                split = split ∙ sym (append_assoc is.passed (is.here ∷ []) (f ∷ fs));
                place = one_some next;
                values = pushed ∙ (ap (λ (w : Point). read ++ w ∷ []) value ∙ (ap (λ (l : List Point). l ++ is.here.1 ∷ []) is.values ∙ sym (map-append (λ (e : Item Gen Point). e.1) is.passed (is.here ∷ []))));
                number = omega (arith, length-append is.passed (is.here ∷ []), is.number);
              }

          pub read_all : (more : List Point) (v : Point) → more ≡ read ++ v ∷ [] → v ≡ is.here.1 → key q ≡ start → points items ≡ more
          read_all more v pushed value back = by is.rest is.split next_key
            where
              by : (rest : List (Item Gen Point)) → items ≡ is.passed ++ is.here ∷ rest → Some (key q) ≡ first_key ((rest ++ is.passed) ++ is.here ∷ []) → points items ≡ more
              by [] split next = ap points split ∙ (map-append (λ (e : Item Gen Point). e.1) is.passed (is.here ∷ []) ∙ sym (pushed ∙ (ap (λ (w : Point). read ++ w ∷ []) value ∙ ap (λ (l : List Point). l ++ is.here.1 ∷ []) is.values)))
              by (f ∷ fs) split next = absurd (first_once is.passed is.here f fs (subst (λ (l : List (Item Gen Point)). AreDistinct (indexes l)) split from.ring.chain.1)
                  (ap first_key (sym split) ∙ (from.first ∙ (ap Some (sym back) ∙ next))))
