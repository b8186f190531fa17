-- Turns of a ring, and the removal of a corner.
use Rattle.std.proofs.Common.{◌≡◌, ℕ, ◌+◌, ◌-◌, ◌≤◌, ⊎_elim, List, [], ◌∷◌, ◌++◌, length, Option, None, Some, refl, sym, ap, ◌∙◌, subst, arith}
use Rattle.std.specs.Option.{option_map}
use Rattle.std.proofs.lemmas.Bool.{cases_order}
use Rattle.std.proofs.lemmas.List.{map-append, length-map, length-append}
use Rattle.arena_core.specs.PointerKinds.{PointerKind}
use Rattle.chain_laws.specs.Chains.{LinkMap, cyclic}
use Rattle.chain_laws.proofs.InterlinkLemmas.Inverses.{one_some}
use Rattle.arena_traits.specs.Entries.{ArenaView, ArenaState, count}
use Rattle.chain_lists.specs.Lists.{Item, IsRing, RemovesItem}
use Rattle.polygons.specs.Rings.{ReadsNextInRing}
use Rattle.triangulation.specs.declared.points.Point.{Point}
use Rattle.triangulation.specs.declared.points.Triangle.{Triangle}
use Rattle.triangulation.specs.Triangulations.{IsClipping}
use Rattle.triangulation.specs.Clippings.{points, IsSameOutline, IsRingFrom, IsTurned, IsEarAfter, HasEar, IsRemaining}
use Rattle.triangulation.proofs.ClippingLemmas.{outline_same, outline_then, outline_turned, ear_clipped, clipping_turned}
use Rattle.triangulation.proofs.CornerLemmas.{ring_at, ring_turned, value_read}

item_same : {Gen : Type 0} (k j : ℕ × Gen) (s t : Point) → k ≡ j → s ≡ t → Path (Item Gen Point) (k, s) (j, t)
item_same {Gen} k j s t one two = ap (λ (i : ℕ × Gen). the_item i s) one ∙ ap (λ (u : Point). the_item j u) two
  where
    the_item : ℕ × Gen → Point → Item Gen Point
    the_item i u = (i, u)

module _ {A Gen : Type 0} {view : A → ArenaView Gen Point} {entry : A → ℕ → Option (Gen × Point)} (state : (a : A) → ArenaState (view a) (entry a)) (interlinks : A → LinkMap) where
  pub turn_starts : (a : A) (items : List (Item Gen Point)) (p : ℕ × Gen) → IsRingFrom state interlinks a p items → IsTurned state interlinks a items p
  turn_starts a items p from = record { turned = items; ring = from; outline = outline_same (points items) }

  pub turn_goes_on : {P : Type 0} (key : P → ℕ × Gen) (a : A) (items : List (Item Gen Point)) (p q : P) (r : Option P) → ReadsNextInRing state interlinks key a p r → r ≡ Some q
      → IsTurned state interlinks a items (key p) → IsTurned state interlinks a items (key q)
  turn_goes_on key a items p q r reads is turn = by turn.turned turn.ring turn.outline
    where
      by : (turned : List (Item Gen Point)) → IsRingFrom state interlinks a (key p) turned → IsSameOutline (points items) (points turned) → IsTurned state interlinks a items (key q)
      by [] from outline = absurd (let none = from.first in cc)
      by (e ∷ es) from outline =
          let same = sym (one_some from.first) in
          let ring = ring_at state interlinks a (key p) e es same from.ring in
          record {
            turned = es ++ (key p, e.1) ∷ [];
            ring = record {
              ring = ring_turned state interlinks a ((key p, e.1) ∷ []) es ring;
              first = sym (reads.next e.1 es ring) ∙ ap (option_map key) is;
            };
            outline = outline_then (points items) (points (e ∷ es)) (points (es ++ (key p, e.1) ∷ [])) outline
                (subst (λ (l : List Point). IsSameOutline (points (e ∷ es)) l) (sym (map-append (λ (x : Item Gen Point). x.1) es ((key p, e.1) ∷ []))) (outline_turned e.1 (points es)));
          }

  pub ear_seen : (a : A) (items : List (Item Gen Point)) (p corner after : ℕ × Gen) (t : Triangle) → IsTurned state interlinks a items p → 3 ≤ length items → IsEarAfter state interlinks a p corner after t → HasEar state interlinks a items p corner after t
  ear_seen a items p corner after t turn three ear = by turn.turned turn.ring turn.outline (omega (arith, three, turn.outline.number, length-map turn.turned (λ (x : Item Gen Point). x.1), length-map items (λ (x : Item Gen Point). x.1)))
    where
      by : (turned : List (Item Gen Point)) → IsRingFrom state interlinks a p turned → IsSameOutline (points items) (points turned) → 3 ≤ length turned → HasEar state interlinks a items p corner after t
      by [] from outline long = absurd (omega (arith, long))
      by (x ∷ []) from outline long = absurd (omega (arith, long))
      by (x ∷ y ∷ []) from outline long = absurd (omega (arith, long))
      by (x ∷ y ∷ z ∷ rest) from outline long =
          let is = ear x y z rest from in
          let same : x ∷ y ∷ z ∷ rest ≡ (p, t.a) ∷ (corner, t.b) ∷ (after, t.c) ∷ rest =
          ap (λ (e : Item Gen Point). e ∷ y ∷ z ∷ rest) (item_same x.0 p x.1 t.a (one_some from.first) (sym is.2)) ∙ (ap (λ (e : Item Gen Point). (p, t.a) ∷ e ∷ z ∷ rest) (item_same y.0 corner y.1 t.b (sym is.0) (sym is.3))
          ∙ ap (λ (e : Item Gen Point). (p, t.a) ∷ (corner, t.b) ∷ e ∷ rest) (item_same z.0 after z.1 t.c (sym is.1) (sym is.4))) in
          record {
            rest = rest;
            ring = subst (λ (l : List (Item Gen Point)). IsRing state interlinks a l) same from.ring;
            outline = subst (λ (l : List (Item Gen Point)). IsSameOutline (points items) (points l)) same outline;
            ear = is.5;
          }

  module _ {P I W : Type 0} (pointers : PointerKind P I Gen W) (old new : A) where
    pub ear_removed : (q : P) (result : Option Point) (items : List (Item Gen Point)) (p after : ℕ × Gen) (t : Triangle) (ear : HasEar state interlinks old items p (pointers.key q) after t) → RemovesItem state interlinks cyclic pointers old q result new
        → IsRing state interlinks new ((p, t.a) ∷ (after, t.c) ∷ ear.rest) × (count (view old) ≡ count (view new) + 1)
    ear_removed q None items p after t ear removes = absurd (removes.0 (record { value = t.b; stored = ear.ring.are_stored.1.0 }))
    ear_removed q (Some v) items p after t ear removes =
        let same : v ≡ t.b = value_read (entry old) (pointers.key q) (pointers.key q, t.b) v removes.removed.0 refl ear.ring.are_stored.1.0 in
        (removes.list ((p, t.a) ∷ []) ((after, t.c) ∷ ear.rest) (subst (λ (w : Point). IsRing state interlinks old ((p, t.a) ∷ (pointers.key q, w) ∷ (after, t.c) ∷ ear.rest)) (sym same) ear.ring) (λ none. cc), removes.size)

    pub entries_kept : (q : P) (result : Option Point) → RemovesItem state interlinks cyclic pointers old q result new → (i : ℕ) (e : Gen × Point) → entry new i ≡ Some e → entry old i ≡ Some e
    entries_kept q None removes i e is = subst (λ (a : A). entry a i ≡ Some e) removes.1 is
    entries_kept q (Some v) removes i e is = ⊎_elim (λ same. absurd (let none : None ≡ Some e = sym removes.gone ∙ (ap (entry new) (sym same) ∙ is) in cc)) (λ other. ⊎_elim (λ below. others (λ at. omega (arith, at, below))) (λ above. others (λ at. omega (arith, at, above))) other) (cases_order i (pointers.key q).0)
      where
        others : (i ≡ (pointers.key q).0 → ⊥) → entry old i ≡ Some e
        others differs = sym (removes.entries i differs) ∙ is

    pub remaining_shrinks : (q : P) (result : Option Point) (items : List (Item Gen Point)) (ts : List Triangle) (start p after : ℕ × Gen) (left : ℕ) (t : Triangle) (before : IsRemaining state interlinks old items ts start left)
        → HasEar state interlinks old before.remaining p (pointers.key q) after t → RemovesItem state interlinks cyclic pointers old q result new → IsRemaining state interlinks new items (ts ++ t ∷ []) after (left - 1)
    remaining_shrinks q result items ts start p after left t before ear removes =
        let shrunk = ear_removed q result before.remaining p after t ear removes in
        record {
          remaining = (after, t.c) ∷ (ear.rest ++ (p, t.a) ∷ []);
          ring = record { ring = ring_turned state interlinks new ((p, t.a) ∷ []) ((after, t.c) ∷ ear.rest) shrunk.0; first = refl };
          whole = record {
            number = omega (arith, before.whole.number, ear.outline.number, length-map before.remaining (λ (x : Item Gen Point). x.1), length-map ear.rest (λ (x : Item Gen Point). x.1), length-append ear.rest ((p, t.a) ∷ []));
            alone = omega (arith, before.whole.alone, shrunk.1);
          };
          clipping = subst (λ (l : List Point). IsClipping (points items) (ts ++ t ∷ []) (t.c ∷ l)) (sym (map-append (λ (x : Item Gen Point). x.1) ear.rest ((p, t.a) ∷ [])))
              (clipping_turned (points items) (ts ++ t ∷ []) t.a (t.c ∷ points ear.rest) (ear_clipped (points items) ts (points before.remaining) t (points ear.rest) before.clipping ear.outline ear.ear));
        }
