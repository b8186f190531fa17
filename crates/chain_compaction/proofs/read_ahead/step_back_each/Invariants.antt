-- The walks that are left, the starts that were found, and the links that were read: one for each walk that went on or ended.
use Rattle.std.proofs.Common.{◌≡◌, ◌≤◌, ◌+◌, ◌-◌, length}
use Rattle.chain_compaction.specs.SlotReads.{HasReadSlots}
use Rattle.chain_compaction.specs.FoundStarts.{AreWalksBack, AreStartsOfFresh}
use Rattle.chain_compaction.proofs.read_ahead.step_back_each.Given as goal

abbrev pub invariant-loop-turn : goal.invariant-loop-turn
invariant-loop-turn g l =
    let slots = l.fn.compactor.detached.slots in
    record {
      now_length : length l.now ≡ 16;
      links_length : length l.links ≡ 16;
      starts_length : length l.starts ≡ 64;
      reached : l.turn ≤ l.rest;
      few : l.rest ≤ l.left;
      back : AreWalksBack g.P.Inx.InxKey.packed_number g.P.Inx.InxKey.greatest slots l.first l.links l.now l.rest;
      starts : AreStartsOfFresh g.P.Inx.InxKey.packed_number slots l.first l.starts;
      read : HasReadSlots l.fn.compactor l.compactor (l.turn + (l.left - l.rest));
    }

abbrev pub decreases-loop-turn : goal.decreases-loop-turn
decreases-loop-turn g l = l.rest - l.turn
