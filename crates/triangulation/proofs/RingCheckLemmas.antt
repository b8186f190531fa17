-- Witnesses for refusals of polygons.
use Rattle.std.proofs.Common.{◌≡◌, ℕ, zero, suc, ◌<◌, pos, inl, inr, List, [], ◌∷◌, length, get_or, sym, ap, subst, arith}
use Rattle.std.specs.Prelude.{HoldsAt}
use Rattle.std.specs.declared.vec.Vec.{Vec}
use Rattle.std.specs.declared.alloc.Global.{Global}
use Rattle.std.proofs.lemmas.List.Elements.{Contains-get_or}
use Rattle.triangulation.specs.declared.points.Point.{Point}
use Rattle.triangulation.specs.declared.errors.Ring.TheVariants as which
use Rattle.triangulation.specs.declared.errors.PolygonError.{PolygonError}
use Rattle.triangulation.specs.Triangulations.{polygon_area}
use Rattle.triangulation.specs.Polygons.{rings_of, HasCornerThat, IsOutside, RingsMeet, AreDisjoint, IsRingFault, IsReason}
use Rattle.triangulation.proofs.RingPathLemmas.{origin}

pub ring_at : (holes : List (Vec Point Global)) (i : ℕ) (hole : Vec Point Global) → i < length holes → hole ≡ get_or holes i hole → (d : List Point) → get_or (rings_of holes) i d ≡ hole.items
ring_at [] i hole less is d = absurd (omega (arith, less))
ring_at (r ∷ rs) zero hole less is d = ap (λ (v : Vec Point Global). v.items) (sym is)
ring_at (r ∷ rs) (suc i) hole less is d = ring_at rs i hole (omega (arith, less)) is d

pub holds_at : (P : List Point → Type 0) (holes : List (Vec Point Global)) (i : ℕ) (hole : Vec Point Global) → i < length holes → hole ≡ get_or holes i hole → P hole.items → HoldsAt P (rings_of holes) i
holds_at P holes i hole less is holds d = subst P (sym (ring_at holes i hole less is d)) holds

pub fault_of_outline : (outline : List Point) (holes : List (List Point)) (error : PolygonError) → IsRingFault outline which.Outline error → IsReason outline holes error
fault_of_outline outline holes error (inl few) = subst (IsReason outline holes) (sym few.0) few.1
fault_of_outline outline holes error (inr flat) = subst (IsReason outline holes) (sym flat.0) flat.1

pub fault_of_hole : (outline : List Point) (holes : List (Vec Point Global)) (i : ℕ) (hole : Vec Point Global) (error : PolygonError) → i < length holes → hole ≡ get_or holes i hole → IsRingFault hole.items (which.Hole i) error → IsReason outline (rings_of holes) error
fault_of_hole outline holes i hole error less is (inl few) = subst (IsReason outline (rings_of holes)) (sym few.0) (holds_at (λ corners. length corners < 3) holes i hole less is few.1)
fault_of_hole outline holes i hole error less is (inr flat) = subst (IsReason outline (rings_of holes)) (sym flat.0) (holds_at (λ corners. polygon_area corners ≡ pos 0) holes i hole less is flat.1)

pub first_that : (P : Point → Type 0) (ring : List Point) → 0 < length ring → P (get_or ring 0 origin) → HasCornerThat P ring
first_that P ring some holds = (get_or ring 0 origin, Contains-get_or ring 0 origin some, holds)

pub disjoint : (one other : List Point) → 0 < length one → 0 < length other → ¬ RingsMeet one other → IsOutside (get_or one 0 origin) other → IsOutside (get_or other 0 origin) one → AreDisjoint one other
disjoint one other some_one some_other apart first second = record {
  apart = apart;
  first = first_that (λ p. IsOutside p other) one some_one first;
  second = first_that (λ p. IsOutside p one) other some_other second;
}

pub disjoint_at : (holes : List (Vec Point Global)) (j i : ℕ) (other hole : Vec Point Global) → j < length holes → i < length holes → other ≡ get_or holes j other → hole ≡ get_or holes i hole → AreDisjoint other.items hole.items → (d : List Point) → AreDisjoint (get_or (rings_of holes) j d) (get_or (rings_of holes) i d)
disjoint_at holes j i other hole less_j less_i is_other is_hole are d =
    subst (λ (l : List Point). AreDisjoint l (get_or (rings_of holes) i d)) (sym (ring_at holes j other less_j is_other d))
    (subst (λ (l : List Point). AreDisjoint other.items l) (sym (ring_at holes i hole less_i is_hole d)) are)
