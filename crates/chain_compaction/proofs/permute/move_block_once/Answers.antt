use Rattle.std.proofs.Common.{◌≡◌, ◌∙◌, ◌+◌, ◌-◌, ℕ, false, List, sym, ap, subst, arith}
use Rattle.arena_traits.specs.Arena.{slot_at}
use Rattle.chain_compaction.specs.Permutations.{IsInBlock, ListsWaiting, waiting_count, Settles, IsWorkOn}
use Rattle.chain_compaction.proofs.BlockTurnLemmas.{listing_skips, listing_grows, touches_add, touches_skip, next_in_block, below_64}
use Rattle.chain_compaction.proofs.PermutationStepLemmas.{settling_continues}
use Rattle.chain_compaction.proofs.PermutationLoopLemmas.{work_on-after}
use Rattle.chain_compaction.proofs.permute.move_block_once.Goals as goal
use Rattle.chain_compaction.proofs.permute.move_block_once.Goals.{then-move_to_destination, else-move_to_destination}
use Rattle.chain_links.specs.Links.{destination_of}
use Rattle.chain_compaction.proofs.WorkCountLemmas.{slots_on}

pub loop-k-preserved : goal.loop-k-preserved
loop-k-preserved g c =
    let packed_number = g.P.Inx.InxKey.packed_number in
    let target = destination_of packed_number in
    let i = g.P.Inx.InxKey.number c.inx_at.result in
    let k = c.loop-k.k in
    let left = c.loop-k.left in
    let positions = c.loop-k.positions in
    let inv = c.loop-k.invariant in
    let step = c.move_to_destination.ensures in
    let old = c.args.compactor.now in
    let now = c.loop-k.compactor in
    let next = c.move_to_destination.new.compactor in
    let inside = next_in_block c.args.start c.args.count k i c.inx_at.ensures c.loop-k-test.true in
    let low = below_64 k c.args.count c.loop-k-test.true c.requires.few in
    let worked = λ (more all : ℕ) (further : IsWorkOn now.arena.now next.arena.now (waiting_count target now.detached.slots) (waiting_count target next.detached.slots) more). work_on-after old.arena.now now.arena.now next.arena.now
    (waiting_count target old.detached.slots) (waiting_count target now.detached.slots) (waiting_count target next.detached.slots) (k - left) more all inv.work further in
    let skips = λ (is : c.move_to_destination.result ≡ false). listing_skips target c.args.start positions k left i (slot_at now.detached.slots) (slot_at next.detached.slots) inv.lists c.inx_at.ensures step.settles.stays
    (rw is at step.none) in
    let grows = listing_grows target c.args.start positions k left i (slot_at now.detached.slots) (slot_at next.detached.slots) inv.lists c.inx_at.ensures step.settles.stays low in
    record {
      settles = settling_continues target (Settles packed_number c.args.generation) (IsInBlock c.args.start c.args.count) i old.detached.slots now.detached.slots next.detached.slots inside inv.settles step.settles;
      lists = elim c.if-move_to_destination.branch [
        | then-move_to_destination w ↦ subst (λ (l : ℕ). ListsWaiting target c.args.start (k + 1) c.if-move_to_destination.positions l (slot_at next.detached.slots)) (sym w.left-is)
            (subst (λ (p : List ℕ). ListsWaiting target c.args.start (k + 1) p (left + 1) (slot_at next.detached.slots)) (sym w.positions-is) grows)
        | else-move_to_destination w ↦ subst (λ (l : ℕ). ListsWaiting target c.args.start (k + 1) c.if-move_to_destination.positions l (slot_at next.detached.slots)) (sym w.left-is)
            (subst (λ (p : List ℕ). ListsWaiting target c.args.start (k + 1) p left (slot_at next.detached.slots)) (sym w.positions-is) (skips w.if-move_to_destination.false))
      ];
      moved = elim c.if-move_to_destination.branch [
        | then-move_to_destination w ↦ omega (arith, inv.moved, w.left-is, rw w.if-move_to_destination.true at step.fewer)
        | else-move_to_destination w ↦ omega (arith, inv.moved, w.left-is, step.work.count)
      ];
      kept = slots_on old now next inv.kept step.kept;
      work = elim c.if-move_to_destination.branch [
        | then-move_to_destination w ↦ worked 0 ((k + 1) - c.if-move_to_destination.left) (rw w.if-move_to_destination.true at step.work) (touches_add k left ∙ ap (λ (l : ℕ). (k + 1) - l) (sym w.left-is))
        | else-move_to_destination w ↦ worked 1 ((k + 1) - c.if-move_to_destination.left) (rw w.if-move_to_destination.false at step.work) (touches_skip k left inv.lists.few ∙ ap (λ (l : ℕ). (k + 1) - l) (sym w.left-is))
      ];
      unplaced = step.unplaced;
    }

pub returns : goal.returns
returns g c =
    let all : c.loop-k.k ≡ c.args.count = omega arith in
    let packed_number = g.P.Inx.InxKey.packed_number in
    let target = destination_of packed_number in
    let inv = c.loop-k.invariant in
    let old = c.args.compactor.now in
    let now = c.loop-k.compactor in
    let lists = subst (λ (n : ℕ). ListsWaiting target c.args.start n c.loop-k.positions c.loop-k.left (slot_at now.detached.slots)) all inv.lists in
    record {
      settles = inv.settles;
      lists = lists;
      fewer = lists.few;
      moved = inv.moved;
      kept = inv.kept;
      work = subst (λ (n : ℕ). IsWorkOn old.arena.now now.arena.now (waiting_count target old.detached.slots) (waiting_count target now.detached.slots) (n - c.loop-k.left)) all inv.work;
      unplaced = inv.unplaced;
    }
