-- The holes up to slot k are closed, and the links are renamed so far.
use Rattle.std.proofs.Common.{◌≡◌, ◌+◌, ◌*◌}
use denote.Param.Always.{always_mut}
use Rattle.arena_base.proofs.HoleClosingLemmas.{IsClosing}
use Rattle.chain_links.specs.Links.{StayAtRest}
use Rattle.chain_compaction.specs.DetachedLinks.{slot_values, IsWork}
use Rattle.chain_compaction.specs.WorkCounts.{CountsWork}
use Rattle.chain_compaction.proofs.LinkCompressionLemmas.{AreGathered}
use Rattle.chain_compaction.proofs.compress.compact_links.Given as goal

abbrev pub invariant-loop-k : goal.invariant-loop-k
invariant-loop-k g l = record {
  callable : always_mut g.F.FnMut l.map;
  counts : CountsWork l.fn.compactor l.compactor;
  capacity : l.compactor.detached.stack_capacity ≡ l.fn.compactor.detached.stack_capacity;
  maximum : l.compactor.detached.maximum ≡ l.fn.compactor.detached.maximum;
  closing : IsClosing g.F.FnMut g.P.PtrKey.key l.generation l.fn.map (slot_values l.fn.compactor.detached.slots) l.k l.count l.map (slot_values l.compactor.detached.slots);
  gathered : AreGathered g.P.Inx.InxKey.packed_number l.fn.compactor.detached.slots l.compactor.detached.slots l.k l.count;
  at_rest : StayAtRest g.P.Inx.InxKey.packed_number l.fn.compactor.detached.slots l.compactor.detached.slots;
  work : IsWork l.fn.compactor.arena.now l.compactor.arena.now l.count (l.k + 3 * l.count);
}
