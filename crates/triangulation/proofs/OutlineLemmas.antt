-- Rings that are built corner by corner.
use Rattle.std.proofs.Common.{◌≡◌, ℕ, ◌+◌, ◌≤◌, length, arith, List, [], ◌∷◌, ◌++◌, Option, Some, refl, sym, ap, ◌∙◌, subst}
use Rattle.std.proofs.lemmas.List.{map-append, append_assoc, length-append, length-map}
use Rattle.std.specs.Prelude.{Result, Ok, Err}
use Rattle.std.specs.declared.vec.Vec.{Vec}
use Rattle.std.specs.declared.alloc.Global.{Global}
use Rattle.chain_laws.specs.Chains.{LinkMap, cyclic}
use Rattle.arena_traits.specs.Entries.{ArenaView, ArenaState, count, first_key}
use Rattle.chain_lists.specs.Lists.{Item, IsRing, InsertsAfter}
use Rattle.triangulation.specs.declared.points.Point.{Point}
use Rattle.triangulation.specs.Clippings.{IsRingBetween, IsRingOf, IsWholeRing, ClipsEars}
use Rattle.triangulation.specs.declared.points.Triangle.{Triangle}
use Rattle.triangulation.specs.declared.errors.TriangulationError.{TriangulationError}
use Rattle.triangulation.specs.declared.errors.TriangulationError.TheVariants as why
use Rattle.triangulation.specs.Triangulations.{IsTriangulation, IsStuck, TriangulatesPoints}

first_stays : {Gen T : Type 0} (xs : List (Item Gen T)) (e : Item Gen T) (k : ℕ × Gen) → first_key xs ≡ Some k → first_key (xs ++ e ∷ []) ≡ Some k
first_stays [] e k is = absurd (let none = is in cc)
first_stays (x ∷ xs) e k is = is

module _ {A Gen : Type 0} {view : A → ArenaView Gen Point} {entry : A → ℕ → Option (Gen × Point)} (state : (a : A) → ArenaState (view a) (entry a)) (interlinks : A → LinkMap) where
  pub ring_begins : (a : A) (start : ℕ × Gen) (x : Point) → IsRing state interlinks a ((start, x) ∷ []) → count (view a) ≡ 1 → IsRingBetween state interlinks a start start (x ∷ [])
  ring_begins a start x is one = record { before = []; point = x; ring = record { ring = is; first = refl }; all = refl; alone = one }

  pub ring_grows : (old new : A) (start last next : ℕ × Gen) (x : Point) (corners more : List Point) → IsRingBetween state interlinks old start last corners → InsertsAfter state interlinks cyclic old new last (next, x) → count (view new) ≡ count (view old) + 1 → more ≡ corners ++ x ∷ []
      → IsRingBetween state interlinks new start next more
  ring_grows old new start last next x corners more ring inserts size is =
      let items = ring.before ++ (last, ring.point) ∷ [] in
      record {
        before = items;
        point = x;
        ring = record {
          ring = subst (λ (l : List (Item Gen Point)). IsRing state interlinks new l) (sym (append_assoc ring.before ((last, ring.point) ∷ []) ((next, x) ∷ []))) (inserts ring.point ring.before [] ring.ring.ring);
          first = first_stays items (next, x) start ring.ring.first;
        };
        all = map-append (λ (e : Item Gen Point). e.1) items ((next, x) ∷ []) ∙ (ap (λ (l : List Point). l ++ x ∷ []) ring.all ∙ sym is);
        alone = omega (arith, size, ring.alone, ap length is, length-append corners (x ∷ []));
      }

  pub ring_ends : (a : A) (start last : ℕ × Gen) (corners all : List Point) → IsRingBetween state interlinks a start last corners → corners ≡ all → IsRingOf state interlinks a start all
  ring_ends a start last corners all ring is = record { items = ring.before ++ (last, ring.point) ∷ []; ring = ring.ring; all = ring.all ∙ is; alone = ring.alone ∙ ap length is }

  whole_ring : (a : A) (start : ℕ × Gen) (corners : List Point) (ring : IsRingOf state interlinks a start corners) → IsWholeRing state interlinks a ring.items (length corners)
  whole_ring a start corners ring = record { number = omega (arith, ap length ring.all, length-map ring.items (λ (e : Item Gen Point). e.1)); alone = ring.alone }

  pub points_triangulated : (a : A) (start : ℕ × Gen) (corners : List Point) (result : Result (Vec Triangle Global) TriangulationError) → 3 ≤ length corners → IsRingOf state interlinks a start corners → ClipsEars state interlinks a start (length corners) result → TriangulatesPoints corners result
  points_triangulated a start corners (Ok triangles) three ring clips = (three, subst (λ (l : List Point). IsTriangulation l triangles.items) ring.all (clips ring.items ring.ring (whole_ring a start corners ring) (omega (arith, three))))
  points_triangulated a start corners (Err why.InvalidPointer) three ring clips = clips
  points_triangulated a start corners (Err why.TooFewCorners) three ring clips = absurd clips
  points_triangulated a start corners (Err why.NoEar) three ring clips = subst IsStuck ring.all (clips ring.items ring.ring (whole_ring a start corners ring) (omega (arith, three)))
  points_triangulated a start corners (Err why.AllocError) three ring clips = three
