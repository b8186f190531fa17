-- The positions that are left, and the links that were read: one for each walk that went on or ended.
use Rattle.std.proofs.Common.{◌≡◌, ◌≤◌, ◌+◌, ◌-◌, length}
use Rattle.chain_compaction.specs.SlotReads.{AreBelow, HasReadSlots}
use Rattle.chain_compaction.proofs.read_ahead.step_each.Given as goal

abbrev pub invariant-loop-turn : goal.invariant-loop-turn
invariant-loop-turn g l = record {
  length : length l.now ≡ 16;
  reached : l.turn ≤ l.rest;
  few : l.rest ≤ l.left;
  within : AreBelow g.P.Inx.InxKey.greatest l.now l.rest;
  read : HasReadSlots l.fn.compactor l.compactor (l.turn + (l.left - l.rest));
}

abbrev pub decreases-loop-turn : goal.decreases-loop-turn
decreases-loop-turn g l = l.rest - l.turn
