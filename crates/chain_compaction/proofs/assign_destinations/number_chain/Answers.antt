use Rattle.std.proofs.Common.{◌≡◌, ◌+◌, ◌<◌, ℕ, List, length, Option, None, Some, refl, sym, ap, ◌∙◌, subst, arith}
use Rattle.std.specs.Prelude.{true, false, IsSome}
use Rattle.std.specs.Option.{option_map}
use Rattle.chain_laws.specs.Chains.{Chain}
use Rattle.chain_compaction.specs.Destinations.{CanNumber, IsRelinkedAt, number_after}
use Rattle.chain_compaction.proofs.DestinationWriteLemmas.{linked_long, linked_read}
use Rattle.chain_compaction.proofs.DetachedLinkLemmas.{work-twice}
use Rattle.chain_compaction.proofs.WorkCountLemmas.{counts_none, counts_on}
use Rattle.chain_compaction.proofs.ChainDestinationLemmas.{IsWalking, walk_begins, walk_first, walk_ends, walk_capacity, walk_more, walk_returns, walk_continues}
use Rattle.chain_compaction.proofs.assign_destinations.number_chain.Goals.{In-Some, After-relink_at}
use Rattle.chain_compaction.proofs.assign_destinations.number_chain.Given.{Over}
use Rattle.chain_compaction.proofs.assign_destinations.number_chain.Goals as goal

walk_at : (g : Over) (c : In-Some g) (done : List ℕ) (l : Chain) → CanNumber g.P.Inx.InxKey.packed_number c.args.compactor.now.detached.slots (g.P.Inx.InxKey.number c.args.start) c.args.before done l
    → IsWalking g.P.Inx.InxKey.packed_number g.V.Visitor.sees g.P.PtrKey.key c.args.generation c.args.visitor c.loop-on.visitor c.args.compactor.now.detached c.loop-on.compactor.detached
    c.args.compactor.now.arena.now c.loop-on.compactor.arena.now c.loop-on.count (g.P.Inx.InxKey.number c.args.start) (Some (g.P.Inx.InxKey.number c.in-Some.i)) (option_map g.P.Inx.InxKey.number c.loop-on.named) (option_map g.P.Inx.InxKey.number c.loop-on.prev) done l
walk_at g c done l can =
    subst (λ o. IsWalking g.P.Inx.InxKey.packed_number g.V.Visitor.sees g.P.PtrKey.key c.args.generation c.args.visitor c.loop-on.visitor c.args.compactor.now.detached c.loop-on.compactor.detached
    c.args.compactor.now.arena.now c.loop-on.compactor.arena.now c.loop-on.count (g.P.Inx.InxKey.number c.args.start) (option_map g.P.Inx.InxKey.number o) (option_map g.P.Inx.InxKey.number c.loop-on.named) (option_map g.P.Inx.InxKey.number c.loop-on.prev) done l)
    c.in-Some.is (c.loop-on.invariant.walks done l can)

capacity_at : (g : Over) (c : In-Some g) → c.loop-on.count < length c.args.compactor.now.detached.slots
capacity_at g c =
    let can = c.requires.chain.can in
    walk_capacity g.P.Inx.InxKey.packed_number g.V.Visitor.sees g.P.PtrKey.key c.args.generation c.args.visitor c.args.compactor.now.detached c.args.compactor.now.arena.now (g.P.Inx.InxKey.number c.args.start) c.args.before can.0 can.1 can.2 c.loop-on.visitor c.loop-on.compactor.detached c.loop-on.compactor.arena.now c.loop-on.count
    (option_map g.P.Inx.InxKey.number c.loop-on.named) (option_map g.P.Inx.InxKey.number c.loop-on.prev) (g.P.Inx.InxKey.number c.in-Some.i) (walk_at g c can.0 can.1 can.2)

pub loop-on-init : goal.loop-on-init
loop-on-init g c =
    let now = c.args.compactor.now in
    record {
      ready = c.requires.ready;
      long = refl;
      walks = λ done l can. walk_begins g.P.Inx.InxKey.packed_number g.V.Visitor.sees g.P.PtrKey.key c.args.generation c.args.visitor now.detached now.arena.now _ c.args.before done l can;
      counts = counts_none now;
    }

pub inx_at-destination-requires : goal.inx_at-destination-requires
inx_at-destination-requires g c = omega (arith, capacity_at g c, c.requires.chain.fits)

pub next_destination-after-requires-clause-first : goal.next_destination-after-requires-clause-first
next_destination-after-requires-clause-first g c =
    let can = c.requires.chain.can in
    let enough = walk_first g.P.Inx.InxKey.packed_number g.V.Visitor.sees g.P.PtrKey.key c.args.generation c.args.visitor c.args.compactor.now.detached c.args.compactor.now.arena.now (g.P.Inx.InxKey.number c.args.start) c.args.before can.0 can.1 can.2 in
    omega (arith, enough, c.requires.chain.fits)

some_there : {X : Type 0} (o : Option X) → IsSome o → (x : X) × (o ≡ Some x)
some_there None some = let both : false ≡ true = some in absurd (cc)
some_there (Some x) some = (x, refl)

pub next_destination-after-requires-clause-next : goal.next_destination-after-requires-clause-next
next_destination-after-requires-clause-next g c some =
    let next = (goal.at.next_destination-after-requires-clause-next g c).In-Some in
    let can = c.requires.chain.can in
    let on = some_there c.step_on-on.result some in
    let enough = walk_more g.P.Inx.InxKey.packed_number g.V.Visitor.sees g.P.PtrKey.key c.args.generation c.args.visitor c.args.compactor.now.detached c.args.compactor.now.arena.now (g.P.Inx.InxKey.number c.args.start) c.args.before can.0 can.1 can.2 c.loop-on.visitor c.loop-on.compactor.detached c.loop-on.compactor.arena.now c.loop-on.count
    (option_map g.P.Inx.InxKey.number c.loop-on.named) (option_map g.P.Inx.InxKey.number c.loop-on.prev) (g.P.Inx.InxKey.number c.in-Some.i) (walk_at g next can.0 can.1 can.2)
    (option_map g.P.Inx.InxKey.number c.read_link-link.result.next) (option_map g.P.Inx.InxKey.number c.step_on-on.result) c.read_link-link.ensures.next c.step_on-on.ensures (g.P.Inx.InxKey.number on.0) (ap (option_map g.P.Inx.InxKey.number) on.1) in
    omega (arith, enough, c.requires.chain.fits)

pub proved_unreachable-assume_proved-requires : goal.proved_unreachable-assume_proved-requires
proved_unreachable-assume_proved-requires g c = absurd (
    let next = (goal.at.proved_unreachable-assume_proved-requires g c).In-Some in
    let can = c.requires.chain.can in
    walk_returns g.P.Inx.InxKey.packed_number g.V.Visitor.sees g.P.PtrKey.key c.args.generation c.args.visitor c.args.compactor.now.detached c.args.compactor.now.arena.now (g.P.Inx.InxKey.number c.args.start) c.args.before can.0 can.1 can.2 c.loop-on.visitor c.loop-on.compactor.detached c.loop-on.compactor.arena.now c.loop-on.count
    (option_map g.P.Inx.InxKey.number c.loop-on.named) (option_map g.P.Inx.InxKey.number c.loop-on.prev) (g.P.Inx.InxKey.number c.in-Some.i) (walk_at g next can.0 can.1 can.2)
    (sym c.in-None.is ∙ c.read_link-link.ensures.generation))

linked_now : (g : Over) (c : After-relink_at g) → IsRelinkedAt g.P.Inx.InxKey.packed_number (g.P.Inx.InxKey.number c.in-Some.i) (option_map g.P.Inx.InxKey.number c.loop-on.prev)
    (number_after (option_map g.P.Inx.InxKey.number c.step_on-on.result) (option_map g.P.Inx.InxKey.number c.read_link-link.result.next) c.args.before (c.loop-on.count + 1)) (Some (g.P.Inx.InxKey.number c.inx_at-destination.result))
    c.loop-on.compactor.detached c.relink_at.new.compactor.detached
linked_now g c =
    linked_read g.P.Inx.InxKey.packed_number (g.P.Inx.InxKey.number c.in-Some.i) (option_map g.P.Inx.InxKey.number c.loop-on.prev) _ _ (Some (g.P.Inx.InxKey.number c.inx_at-destination.result))
    c.loop-on.compactor.detached c.read_link-link.new.compactor.detached c.relink_at.new.compactor.detached c.read_link-link.ensures.was_read.detached c.next_destination-after.ensures c.relink_at.ensures.relinked

long_now : (g : Over) (c : After-relink_at g) → length c.relink_at.new.compactor.detached.slots ≡ length c.args.compactor.now.detached.slots
long_now g c = linked_long g.P.Inx.InxKey.packed_number (g.P.Inx.InxKey.number c.in-Some.i) _ _ _ c.loop-on.compactor.detached c.relink_at.new.compactor.detached (linked_now g c) ∙ c.loop-on.invariant.long

pub loop-on-smaller : goal.loop-on-smaller
loop-on-smaller g c =
    let next = (goal.at.loop-on-smaller g c).In-Some in
    let long = long_now g (goal.at.loop-on-smaller g c).After-relink_at in
    omega (arith, capacity_at g next, long, c.loop-on.invariant.long)

pub loop-on-preserved : goal.loop-on-preserved
loop-on-preserved g c =
    let next = (goal.at.loop-on-preserved g c).In-Some in
    let wrote = (goal.at.loop-on-preserved g c).After-relink_at in
    let at = c.loop-on.invariant in
    let lookup = c.read_link-link.ensures in
    let links_both = c.relink_at.ensures in
    let now = c.loop-on.compactor in
    let new = c.relink_at.new.compactor in
    record {
      ready = c.visit.ensures.ready;
      long = long_now g wrote;
      walks = λ done l can.
          walk_continues g.P.Inx.InxKey.packed_number g.V.Visitor.sees g.P.PtrKey.key c.args.generation c.args.visitor c.args.compactor.now.detached c.args.compactor.now.arena.now (g.P.Inx.InxKey.number c.args.start) c.args.before done l can c.loop-on.visitor c.loop-on.compactor.detached c.loop-on.compactor.arena.now c.loop-on.count
          (option_map g.P.Inx.InxKey.number c.loop-on.named) (option_map g.P.Inx.InxKey.number c.loop-on.prev) (g.P.Inx.InxKey.number c.in-Some.i) (walk_at g next done l can)
          (option_map g.P.Inx.InxKey.number c.read_link-link.result.next) (option_map g.P.Inx.InxKey.number c.step_on-on.result) lookup.next c.step_on-on.ensures
          (g.P.Inx.InxKey.number c.inx_at-destination.result) new.detached new.arena.now c.in-Some-generation.was c._from_raw.result c._from_raw-in-Some-generation.result c.visit.new.self
          (linked_now g wrote) c.inx_at-destination.ensures (work-twice now.arena.now c.read_link-link.new.compactor.arena.now new.arena.now lookup.was_read.arena links_both.touched.arena)
          (sym c.in-Some-generation.is ∙ lookup.generation) c._from_raw.ensures c._from_raw-in-Some-generation.ensures c.visit.ensures.view_after;
      counts = counts_on c.args.compactor.now now new at.counts (counts_on now c.read_link-link.new.compactor new lookup.was_read.counts links_both.touched.counts);
    }

pub returns : goal.returns
returns g c =
    let at = c.loop-on.invariant in
    let old = c.args.compactor.now in
    let now = c.loop-on.compactor in
    let new = c.close_ring.new.compactor in
    record {
      ready = at.ready;
      chain = record {
        numbered = λ done l can.
            walk_ends g.P.Inx.InxKey.packed_number g.V.Visitor.sees g.P.PtrKey.key c.args.generation c.args.visitor old.detached old.arena.now (g.P.Inx.InxKey.number c.args.start) c.args.before done l can c.loop-on.visitor now.detached now.arena.now c.loop-on.count
            (option_map g.P.Inx.InxKey.number c.loop-on.named) (option_map g.P.Inx.InxKey.number c.loop-on.prev)
            (subst (λ o. IsWalking g.P.Inx.InxKey.packed_number g.V.Visitor.sees g.P.PtrKey.key c.args.generation c.args.visitor c.loop-on.visitor old.detached now.detached
            old.arena.now now.arena.now c.loop-on.count (g.P.Inx.InxKey.number c.args.start) (option_map g.P.Inx.InxKey.number o) (option_map g.P.Inx.InxKey.number c.loop-on.named) (option_map g.P.Inx.InxKey.number c.loop-on.prev) done l)
            c.in_default.is (at.walks done l can))
            new.detached c.close_ring.ensures.closed new.arena.now c.close_ring.ensures.work;
        counts = counts_on old now new at.counts c.close_ring.ensures.counts;
      };
    }
