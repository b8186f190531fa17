use Rattle.std.proofs.Common.{◌≡◌, List, ap, refl, arith}
use Rattle.arena_traits.specs.Entries.{count}
use Rattle.chain_traits.proofs.GenericRemovalLemmas.{same_entry}
use Rattle.chain_lists.specs.Lists.{Item, IsRing}
use Rattle.polygons.proofs.RingLemmas.{ring_viewed}
use Rattle.polygons.proofs.polygons.Polygons.split.Given.{Over}
use Rattle.polygons.proofs.polygons.Polygons.split.Goals.{After-split_within_capacity, After-split_within_capacity-arg-1}
use Rattle.polygons.proofs.polygons.Polygons.split.Goals as goal

module _ (g : Over) (c : After-split_within_capacity g) where
  same : g.A.ArenaTrait.entry c.reserve.new.self ≡ g.A.ArenaTrait.entry c.args.self.now
  same = same_entry g.A.ArenaTrait.state c.args.self.now c.reserve.new.self (ap (λ s. s.entries) c.in_ok-reserve-in-Some.ensures.outcome.0)

  view_after : (xs : List (Item g.row.P-Gen.Denot g.row.T.Denot)) → IsRing g.A.ArenaTrait.state g.A.ChainArenaTrait.interlinks c.args.self.now xs
      → IsRing g.A.ArenaTrait.state g.A.ChainArenaTrait.interlinks c.reserve.new.self xs
  view_after = ring_viewed g.A.ArenaTrait.state g.A.ChainArenaTrait.interlinks c.args.self.now c.reserve.new.self same c.reserve.ensures.kept.1

pub returns-in_ok-reserve-in-Some : goal.returns-in_ok-reserve-in-Some
returns-in_ok-reserve-in-Some g c =
    let reserved = c.in_ok-reserve-in-Some.ensures.outcome in
    let rings = c.split_within_capacity.ensures.rings in
    let two = rw reserved.0 at rings.next_two in
    let capacity = c.split_within_capacity.ensures.capacity in (
      c.in-Some.ensures.some.0 refl,
      record {
        split = λ s t x y is. rings.split s t x y (view_after g c _ is);
        bridged = λ s t x y one two apart. rings.bridged s t x y (view_after g c _ one) (view_after g c _ two) apart;
        copies = rw (← same g c) rings.copies;
        others = λ items absent is. rings.others items absent (view_after g c items is);
        next_two = record { more = two.more; generations = two.generations; indexes = two.indexes; slots = two.slots; counter = two.counter; maximum = two.maximum };
      },
      rw (rings.next_two.maximum, capacity) reserved.1,
    )

pub split_within_capacity-requires-clause-capacity : goal.split_within_capacity-requires-clause-capacity
split_within_capacity-requires-clause-capacity g c = omega (arith, ap count c.in_ok-reserve-in-Some.ensures.outcome.0, c.in_ok-reserve-in-Some.ensures.outcome.1.0.fits)

still : (g : Over) (c : After-split_within_capacity-arg-1 g) → g.A.ArenaTrait.entry c.reserve.new.self ≡ g.A.ArenaTrait.entry c.args.self.now
still g c = same_entry g.A.ArenaTrait.state c.args.self.now c.reserve.new.self (ap (λ s. s.entries) c.in_ok-reserve-in-Some.ensures.outcome.0)

pub split_within_capacity-requires-clause-first : goal.split_within_capacity-requires-clause-first
split_within_capacity-requires-clause-first g c = rw (still g c) c.in-Some.ensures.points.0

pub split_within_capacity-requires-clause-second : goal.split_within_capacity-requires-clause-second
split_within_capacity-requires-clause-second g c = rw (still g c) c.in-Some.ensures.points.1
