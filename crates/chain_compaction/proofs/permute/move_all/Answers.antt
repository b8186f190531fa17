use Rattle.std.proofs.Common.{◌≡◌, ℕ, ◌+◌, ◌≤◌, length, refl, sym, ◌∙◌, subst, arith}
use Rattle.chain_compaction.specs.Permutations.{ArePassed, waiting_count, Settles, IsWorkInRounds}
use Rattle.chain_compaction.proofs.SlotCountLemmas.{waiting-all}
use Rattle.chain_compaction.proofs.PermutationStepLemmas.{settled_rests}
use Rattle.chain_compaction.proofs.PermutationLoopLemmas.{passing_begins, passing_continues, passing_stops, passing_ends, passing_leaves_none, rounds_begin, rounds_then, rounds_stop, rounds_end}
use Rattle.chain_compaction.proofs.WorkCountLemmas.{slots_stay, slots_on}
use Rattle.chain_compaction.proofs.permute.move_all.Goals as goal
use Rattle.chain_links.specs.Links.{destination_of}

pub loop-start-init : goal.loop-start-init
loop-start-init g c =
    let packed_number = g.P.Inx.InxKey.packed_number in
    let old = c.args.compactor.now in
    record {
      reached = omega arith;
      passed = passing_begins (destination_of packed_number) (Settles packed_number c.args.generation) (settled_rests packed_number c.args.generation) old.detached.slots c.requires.can;
      kept = slots_stay old;
      work = rounds_begin old.arena.now (waiting_count (destination_of packed_number) old.detached.slots);
      unplaced = c.requires.links ∙ sym (waiting-all (destination_of packed_number) old.detached.slots c.requires.can.each);
    }

pub move_block-requires : goal.move_block-requires
move_block-requires g c =
    let passed = c.loop-start.invariant.passed in
    let reached : c.loop-start.start ≤ c.slots-slots.result = c.loop-start.invariant.reached in
    record {
      few = omega (arith, c.min-count.ensures);
      block = omega (arith, c.min-count.ensures, passed.length, reached, c.slots-slots.ensures);
      fits = omega (arith, passed.length, c.requires.fits);
      within = passed.within;
      unplaced = c.loop-start.invariant.unplaced;
    }

pub loop-start-preserved : goal.loop-start-preserved
loop-start-preserved g c =
    let packed_number = g.P.Inx.InxKey.packed_number in
    let inv = c.loop-start.invariant in
    let after = c.move_block.ensures in
    let old = c.args.compactor.now in
    let now = c.loop-start.compactor in
    let next = c.move_block.new.compactor in
    let start = c.loop-start.start in
    let count = c.min-count.result in
    record {
      reached = omega (arith, c.min-count.ensures, inv.reached);
      passed = passing_continues (destination_of packed_number) (Settles packed_number c.args.generation) (settled_rests packed_number c.args.generation) old.detached.slots now.detached.slots next.detached.slots
          start count inv.passed after.settles after.none;
      kept = slots_on old now next inv.kept after.kept;
      work = rounds_then old.arena.now now.arena.now next.arena.now (waiting_count (destination_of packed_number) old.detached.slots) (waiting_count (destination_of packed_number) now.detached.slots)
          (waiting_count (destination_of packed_number) next.detached.slots) start count (start + count) inv.work after.work refl;
      unplaced = after.unplaced;
    }

pub loop-start-smaller : goal.loop-start-smaller
loop-start-smaller g c = omega (arith, c.min-count.ensures, c.loop-start-test.true)

pub returns-after-loop-start : goal.returns-after-loop-start
returns-after-loop-start g c =
    let old = c.args.compactor.now in
    let all : c.loop-start.start ≡ length old.detached.slots = omega (arith, c.loop-start.invariant.reached, c.slots-slots.ensures) in
    let target = destination_of g.P.Inx.InxKey.packed_number in
    let settles = Settles g.P.Inx.InxKey.packed_number c.args.generation in
    let rests = settled_rests g.P.Inx.InxKey.packed_number c.args.generation in
    let now = c.loop-start.compactor in
    let inv = c.loop-start.invariant in
    let passed = subst (ArePassed target settles old.detached.slots now.detached.slots) all inv.passed in
    record {
      moved = passing_ends target settles rests old.detached.slots now.detached.slots passed;
      length = inv.passed.length;
      kept = inv.kept;
      work = rounds_end old.arena.now now.arena.now _ _ _ (length old.detached.slots) (subst (λ (n : ℕ). IsWorkInRounds old.arena.now now.arena.now (waiting_count target old.detached.slots) (waiting_count target now.detached.slots) n 0) all inv.work)
          (passing_leaves_none target settles rests old.detached.slots now.detached.slots passed) (waiting-all target old.detached.slots c.requires.can.each);
    }

pub returns-else-unplaced-gt0 : goal.returns-else-unplaced-gt0
returns-else-unplaced-gt0 g c =
    let old = c.args.compactor.now in
    let target = destination_of g.P.Inx.InxKey.packed_number in
    let now = c.loop-start.compactor in
    let inv = c.loop-start.invariant in
    let none : waiting_count target now.detached.slots ≡ 0 = omega (arith, inv.unplaced, c.if-unplaced-gt0.false) in
    let settles = Settles g.P.Inx.InxKey.packed_number c.args.generation in
    let rests = settled_rests g.P.Inx.InxKey.packed_number c.args.generation in
    record {
      moved = passing_ends target settles rests old.detached.slots now.detached.slots (passing_stops target settles rests old.detached.slots now.detached.slots c.loop-start.start inv.passed none);
      length = inv.passed.length;
      kept = inv.kept;
      work = rounds_end old.arena.now now.arena.now _ _ _ (length old.detached.slots) (rounds_stop old.arena.now now.arena.now _ _ c.loop-start.start (length old.detached.slots) 0 (omega (arith, inv.reached, c.slots-slots.ensures)) inv.work)
          none (waiting-all target old.detached.slots c.requires.can.each);
    }
