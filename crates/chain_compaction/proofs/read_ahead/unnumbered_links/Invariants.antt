-- The slots that were read, and the number of links that were found.
use Rattle.std.proofs.Common.{◌≡◌, ◌≤◌, length}
use Rattle.chain_compaction.specs.SlotReads.{AreBelow, HasReadSlots}
use Rattle.chain_compaction.specs.FoundStarts.{AreFreshNear}
use Rattle.chain_compaction.proofs.read_ahead.unnumbered_links.Given as goal

abbrev pub invariant-loop-j : goal.invariant-loop-j
invariant-loop-j g l = record {
  links_length : length l.links ≡ 16;
  count : l.count ≤ 16;
  within : AreBelow g.P.Inx.InxKey.greatest l.links l.count;
  fresh : AreFreshNear g.P.Inx.InxKey.packed_number l.fn.compactor.detached.slots l.k l.links l.count;
  read : HasReadSlots l.fn.compactor l.compactor l.j;
}
