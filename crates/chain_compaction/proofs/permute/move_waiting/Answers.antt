use Rattle.std.proofs.Common.{◌+◌, ◌-◌, length, slice_index, subst, arith}
use Rattle.arena_traits.specs.Arena.{slot_at}
use Rattle.chain_compaction.specs.Permutations.{IsInBlock, waiting_count, Settles, IsWorkOn}
use Rattle.chain_compaction.proofs.BlockTurnLemmas.{turn_in_block, listing_stays, listing_shrinks, sum_decreases-moved, sum_decreases-shortened, touches_stay, touches_continue, none_more, one_less_left, below_bound, turn_within}
use Rattle.chain_compaction.proofs.PermutationStepLemmas.{settling_begins, settling_continues}
use Rattle.chain_compaction.proofs.PermutationLoopLemmas.{work_on-begins, work_on-after}
use Rattle.chain_compaction.proofs.WorkCountLemmas.{slots_stay, slots_on}
use Rattle.chain_compaction.proofs.permute.move_waiting.Goals as goal
use Rattle.chain_links.specs.Links.{destination_of}

pub loop-turn-init : goal.loop-turn-init
loop-turn-init g c =
    let packed_number = g.P.Inx.InxKey.packed_number in
    let target = destination_of packed_number in
    let now = c.args.compactor.now in
    record {
      settles = settling_begins target (Settles packed_number c.args.generation) (IsInBlock c.args.start c.args.count) now.detached.slots;
      lists = c.requires.lists;
      few = omega arith;
      reached = omega arith;
      moved = omega arith;
      kept = slots_stay now;
      work = subst (IsWorkOn now.arena.now now.arena.now (waiting_count target now.detached.slots) (waiting_count target now.detached.slots)) (none_more c.args.left) (work_on-begins now.arena.now (waiting_count target now.detached.slots));
      unplaced = c.requires.can.unplaced;
    }

pub bounds-positions-turn : goal.bounds-positions-turn
bounds-positions-turn g c = turn_within c.loop-turn.turn c.loop-turn.rest c.args.count c.loop-turn-test.true c.loop-turn.invariant.lists.few c.requires.can.few

pub inx_at-requires : goal.inx_at-requires
inx_at-requires g c =
    let within = c.loop-turn.invariant.lists.within c.loop-turn.turn c.loop-turn-test.true in
    below_bound (slice_index c.loop-turn.positions c.loop-turn.turn) (c.args.start + c.args.count) (length c.args.compactor.now.detached.slots) g.P.Inx.InxKey.greatest within.1 c.requires.can.block c.requires.can.fits

pub move_to_destination-requires : goal.move_to_destination-requires
move_to_destination-requires g c = record { within = c.loop-turn.invariant.settles.within c.requires.can.within; unplaced = c.loop-turn.invariant.unplaced }

pub loop-turn-preserved-then-move_to_destination : goal.loop-turn-preserved-then-move_to_destination
loop-turn-preserved-then-move_to_destination g c =
    let packed_number = g.P.Inx.InxKey.packed_number in
    let target = destination_of packed_number in
    let i = g.P.Inx.InxKey.number c.inx_at.result in
    let turn = c.loop-turn.turn in
    let rest = c.loop-turn.rest in
    let inv = c.loop-turn.invariant in
    let step = c.if-move_to_destination.ensures in
    let old = c.args.compactor.now in
    let now = c.loop-turn.compactor in
    let next = c.move_to_destination.new.compactor in
    let inside = turn_in_block target c.args.start c.args.count c.loop-turn.positions rest turn i (slot_at now.detached.slots) (slot_at next.detached.slots) inv.lists c.loop-turn-test.true c.inx_at.ensures step.settles.stays in
    record {
      settles = settling_continues target (Settles packed_number c.args.generation) (IsInBlock c.args.start c.args.count) i old.detached.slots now.detached.slots next.detached.slots inside inv.settles step.settles;
      lists = listing_stays target c.args.start c.args.count c.loop-turn.positions rest turn i (slot_at now.detached.slots) (slot_at next.detached.slots) inv.lists c.loop-turn-test.true c.inx_at.ensures step.settles.stays;
      few = omega (arith, inv.few);
      reached = omega (arith, inv.reached, c.loop-turn-test.true);
      moved = omega (arith, inv.moved, step.fewer);
      kept = slots_on old now next inv.kept step.kept;
      work = work_on-after old.arena.now now.arena.now next.arena.now (waiting_count target old.detached.slots) (waiting_count target now.detached.slots) (waiting_count target next.detached.slots)
          (c.args.left - rest) 0 (c.args.left - rest) inv.work step.work (touches_stay c.args.left rest);
      unplaced = step.unplaced;
    }

pub loop-turn-preserved : goal.loop-turn-preserved
loop-turn-preserved g c =
    let packed_number = g.P.Inx.InxKey.packed_number in
    let target = destination_of packed_number in
    let i = g.P.Inx.InxKey.number c.inx_at.result in
    let turn = c.loop-turn.turn in
    let rest = c.loop-turn.rest in
    let inv = c.loop-turn.invariant in
    let step = c.if-move_to_destination.ensures in
    let old = c.args.compactor.now in
    let now = c.loop-turn.compactor in
    let next = c.move_to_destination.new.compactor in
    let inside = turn_in_block target c.args.start c.args.count c.loop-turn.positions rest turn i (slot_at now.detached.slots) (slot_at next.detached.slots) inv.lists c.loop-turn-test.true c.inx_at.ensures step.settles.stays in
    record {
      settles = settling_continues target (Settles packed_number c.args.generation) (IsInBlock c.args.start c.args.count) i old.detached.slots now.detached.slots next.detached.slots inside inv.settles step.settles;
      lists = listing_shrinks target c.args.start c.args.count c.loop-turn.positions rest turn i (slot_at now.detached.slots) (slot_at next.detached.slots) inv.lists c.loop-turn-test.true c.inx_at.ensures step.settles.stays
          (rest - 1) (one_less_left rest (omega (arith, c.loop-turn-test.true))) c.requires.can.few step.none;
      few = omega (arith, inv.few);
      reached = omega (arith, inv.reached, c.loop-turn-test.true);
      moved = omega (arith, inv.moved, step.work.count);
      kept = slots_on old now next inv.kept step.kept;
      work = work_on-after old.arena.now now.arena.now next.arena.now (waiting_count target old.detached.slots) (waiting_count target now.detached.slots) (waiting_count target next.detached.slots)
          (c.args.left - rest) 1 (c.args.left - (rest - 1)) inv.work step.work (touches_continue c.args.left rest (omega (arith, c.loop-turn-test.true)) inv.few);
      unplaced = step.unplaced;
    }

pub loop-turn-smaller-then-move_to_destination : goal.loop-turn-smaller-then-move_to_destination
loop-turn-smaller-then-move_to_destination g c =
    let target = destination_of g.P.Inx.InxKey.packed_number in
    sum_decreases-moved (waiting_count target c.loop-turn.compactor.detached.slots) (waiting_count target c.move_to_destination.new.compactor.detached.slots) c.loop-turn.rest c.if-move_to_destination.ensures.fewer

pub loop-turn-smaller : goal.loop-turn-smaller
loop-turn-smaller g c =
    let target = destination_of g.P.Inx.InxKey.packed_number in
    let work = c.if-move_to_destination.ensures.work in
    sum_decreases-shortened (waiting_count target c.loop-turn.compactor.detached.slots) (waiting_count target c.move_to_destination.new.compactor.detached.slots) work.moved c.loop-turn.rest work.count (omega (arith, c.loop-turn-test.true))

pub returns : goal.returns
returns g c =
    let inv = c.loop-turn.invariant in
    record {
      settles = inv.settles;
      lists = inv.lists;
      fewer = inv.few;
      moved = omega (arith, inv.moved, inv.reached, c.loop-turn-test.false);
      kept = inv.kept;
      work = inv.work;
      unplaced = inv.unplaced;
    }
