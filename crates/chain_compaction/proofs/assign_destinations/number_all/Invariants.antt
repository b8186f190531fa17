-- The chains with an index up to k have destinations, and the visitor has seen their links.
use Rattle.chain_compaction.specs.WorkCounts.{CountsWork}
use Rattle.chain_compaction.specs.DetachedLinks.{link_map_in}
use Rattle.chain_compaction.specs.FoundStarts.{AreStarts}
use Rattle.chain_compaction.proofs.ChainOrderLemmas.{IsOrdering}
use Rattle.chain_compaction.proofs.assign_destinations.number_all.Given as goal

abbrev pub invariant-loop-k : goal.invariant-loop-k
invariant-loop-k g l = record {
  ready : g.V.Visitor.is_ready l.visitor;
  order : IsOrdering g.P.Inx.InxKey.packed_number g.V.Visitor.sees g.P.PtrKey.key l.fn.generation l.fn.visitor l.visitor l.fn.compactor.detached l.compactor.detached l.fn.compactor.arena.now l.compactor.arena.now l.count l.k l.ahead.credit;
  known : AreStarts (link_map_in g.P.Inx.InxKey.packed_number l.fn.compactor.detached.slots) l.ahead.first l.ahead.starts;
  counts : CountsWork l.fn.compactor l.compactor;
}
