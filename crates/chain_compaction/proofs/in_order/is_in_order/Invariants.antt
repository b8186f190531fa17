-- The slots up to k were read, and their links form runs.
use Rattle.chain_compaction.specs.DetachedLinks.{link_map_in}
use Rattle.chain_compaction.specs.SlotReads.{HasReadSlots}
use Rattle.chain_compaction.proofs.OrderedRunLemmas.{AreRuns}
use Rattle.chain_compaction.proofs.in_order.is_in_order.Given as goal

abbrev pub invariant-loop-k : goal.invariant-loop-k
invariant-loop-k g l = record {
  read : HasReadSlots l.fn.compactor l.compactor l.k;
  runs : AreRuns (link_map_in g.P.Inx.InxKey.packed_number l.fn.compactor.detached.slots) l.start l.is_cyclic l.k;
}
