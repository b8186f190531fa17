use Rattle.std.proofs.Common.{◌+◌, ◌-◌, length, slice_index, sym, ap, ◌∙◌, subst, arith}
use Rattle.arena_traits.specs.Arena.{slot_at}
use Rattle.arena_base.specs.DetachedSlots.{DetachedView}
use Rattle.chain_compaction.specs.Permutations.{IsInBlock, waiting_count, Settles, IsWorkOn}
use Rattle.chain_compaction.proofs.BlockTurnLemmas.{listing_ends, sum_decreases-round, touches_round, none_left, below_bound}
use Rattle.chain_compaction.proofs.PermutationStepLemmas.{IsBlockRead, settle_reads, settling_joins}
use Rattle.chain_compaction.proofs.PermutationLoopLemmas.{rounds_start, rounds_continue, rounds_stop}
use Rattle.chain_compaction.proofs.permute.move_block.Given.{Over}
use Rattle.chain_compaction.proofs.permute.move_block.Goals.{After-move_waiting-arg-in-loop-left-1}
use Rattle.chain_compaction.proofs.permute.move_block.Goals as goal
use Rattle.chain_links.specs.Links.{destination_of}
use Rattle.chain_compaction.proofs.WorkCountLemmas.{slots_on, slots_detached}

here : (g : Over) (c : After-move_waiting-arg-in-loop-left-1 g) → IsBlockRead (destination_of g.P.Inx.InxKey.packed_number) (Settles g.P.Inx.InxKey.packed_number c.args.generation) c.args.start c.args.count
    c.loop-left.positions c.loop-left.left c.args.compactor.now.detached c.loop-left.compactor.detached c.read_destinations-reads_ahead.new.compactor.detached
here g c =
    let packed_number = g.P.Inx.InxKey.packed_number in
    let inv = c.loop-left.invariant in
    settle_reads (destination_of packed_number) (Settles packed_number c.args.generation) c.args.start c.args.count c.loop-left.positions c.loop-left.left c.args.compactor.now.detached c.loop-left.compactor.detached
    c.read_destinations-reads_ahead.new.compactor.detached c.read_destinations-reads_ahead.ensures.detached inv.lists inv.settles inv.kept.capacity inv.kept.maximum

pub loop-left-init : goal.loop-left-init
loop-left-init g c =
    let first = c.move_block_once-left.ensures in
    record {
      settles = first.settles;
      lists = first.lists;
      kept = first.kept;
      work = rounds_start c.args.compactor.now.arena.now c.move_block_once-left.new.compactor.arena.now _ _ _ c.move_block_once-left.result.1 first.work first.moved;
      unplaced = first.unplaced;
    }

pub read_destinations-reads_ahead-requires-clause-left : goal.read_destinations-reads_ahead-requires-clause-left
read_destinations-reads_ahead-requires-clause-left g c = omega (arith, c.loop-left.invariant.lists.few, c.requires.few)

pub read_destinations-reads_ahead-requires-clause-within : goal.read_destinations-reads_ahead-requires-clause-within
read_destinations-reads_ahead-requires-clause-within g c = λ p low. below_bound (slice_index c.loop-left.positions p) (c.args.start + c.args.count) (length c.args.compactor.now.detached.slots) g.P.Inx.InxKey.greatest (c.loop-left.invariant.lists.within p low).1 c.requires.block c.requires.fits

pub move_waiting-left-requires-clause-can : goal.move_waiting-left-requires-clause-can
move_waiting-left-requires-clause-can g c = record {
  few = c.requires.few;
  block = omega (arith, (here g c).settles.length, c.requires.block);
  fits = omega (arith, (here g c).settles.length, c.requires.fits);
  within = (here g c).settles.within c.requires.within;
  unplaced = c.loop-left.invariant.unplaced ∙ ap (λ (h : DetachedView _ _). waiting_count (destination_of g.P.Inx.InxKey.packed_number) h.slots) (sym c.read_destinations-reads_ahead.ensures.detached);
}

pub move_waiting-left-requires-clause-lists : goal.move_waiting-left-requires-clause-lists
move_waiting-left-requires-clause-lists g c = (here g c).lists

pub loop-left-preserved : goal.loop-left-preserved
loop-left-preserved g c =
    let packed_number = g.P.Inx.InxKey.packed_number in
    let target = destination_of packed_number in
    let left = c.loop-left.left in
    let rest = c.move_waiting-left.result in
    let inv = c.loop-left.invariant in
    let read = c.read_destinations-reads_ahead.ensures in
    let round = c.move_waiting-left.ensures in
    let old = c.args.compactor.now in
    let now = c.loop-left.compactor in
    let was_read = c.read_destinations-reads_ahead.new.compactor in
    let next = c.move_waiting-left.new.compactor in
    let here = settle_reads target (Settles packed_number c.args.generation) c.args.start c.args.count c.loop-left.positions left old.detached now.detached was_read.detached read.detached inv.lists inv.settles inv.kept.capacity inv.kept.maximum in
    let waited = ap (λ (h : DetachedView _ _). waiting_count target h.slots) read.detached in
    let work = subst (λ (h : DetachedView _ _). IsWorkOn was_read.arena.now next.arena.now (waiting_count target h.slots) (waiting_count target next.detached.slots) (left - rest)) read.detached round.work in
    record {
      settles = settling_joins target (Settles packed_number c.args.generation) (IsInBlock c.args.start c.args.count) old.detached.slots was_read.detached.slots next.detached.slots here.settles round.settles;
      lists = round.lists;
      kept = slots_on old was_read next (slots_on old now was_read inv.kept (slots_detached now was_read read.detached read.counts)) round.kept;
      work = rounds_continue old.arena.now now.arena.now was_read.arena.now next.arena.now (waiting_count target old.detached.slots) (waiting_count target now.detached.slots) (waiting_count target next.detached.slots)
          (c.args.count - left) left (left - rest) (c.args.count - rest) rest inv.work read.work work (touches_round c.args.count left rest inv.lists.few round.fewer) (omega (arith, round.moved, waited));
      unplaced = round.unplaced;
    }

pub loop-left-smaller : goal.loop-left-smaller
loop-left-smaller g c =
    let target = destination_of g.P.Inx.InxKey.packed_number in
    let round = c.move_waiting-left.ensures in
    sum_decreases-round (waiting_count target c.loop-left.compactor.detached.slots) (waiting_count target c.read_destinations-reads_ahead.new.compactor.detached.slots) (waiting_count target c.move_waiting-left.new.compactor.detached.slots) c.loop-left.left c.move_waiting-left.result
    (ap (λ (h : DetachedView _ _). waiting_count target h.slots) c.read_destinations-reads_ahead.ensures.detached) round.fewer round.moved c.loop-left-test.true

pub returns : goal.returns
returns g c =
    let target = destination_of g.P.Inx.InxKey.packed_number in
    let inv = c.loop-left.invariant in
    let now = c.loop-left.compactor in
    record {
      settles = inv.settles;
      none = listing_ends target c.args.start c.args.count c.loop-left.positions c.loop-left.left (slot_at now.detached.slots) inv.lists (none_left c.loop-left.left c.loop-left-test.false);
      kept = inv.kept;
      work = rounds_stop c.args.compactor.now.arena.now now.arena.now _ _ (c.args.count - c.loop-left.left) c.args.count c.loop-left.left (omega arith) inv.work;
      unplaced = inv.unplaced;
    }
