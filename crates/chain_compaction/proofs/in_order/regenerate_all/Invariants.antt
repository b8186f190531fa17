-- The links up to k have the generation, and the visitor has seen them.
use Rattle.std.specs.List.{range_with_len}
use Rattle.arena_traits.specs.Arena.{slot_at}
use Rattle.chain_links.specs.ChainArena.{ptr_at}
use Rattle.chain_links.specs.Links.{StayAtRest}
use Rattle.chain_compaction.specs.DetachedLinks.{IsWork}
use Rattle.chain_compaction.specs.Layouts.{ReportsMoves}
use Rattle.chain_compaction.specs.WorkCounts.{CountsWork}
use Rattle.chain_compaction.proofs.OrderedLinkLemmas.{AreRenewed}
use Rattle.chain_compaction.proofs.in_order.regenerate_all.Given as goal

abbrev pub invariant-loop-k : goal.invariant-loop-k
invariant-loop-k g l = record {
  ready : g.V.Visitor.is_ready l.visitor;
  renewed : AreRenewed l.fn.generation l.fn.compactor.detached l.compactor.detached l.k;
  reports : ReportsMoves g.V.Visitor.sees g.P.PtrKey.key (ptr_at (slot_at l.fn.compactor.detached.slots)) l.fn.generation 1 l.fn.visitor (range_with_len 1 l.k) l.visitor;
  at_rest : StayAtRest g.P.Inx.InxKey.packed_number l.fn.compactor.detached.slots l.compactor.detached.slots;
  work : IsWork l.fn.compactor.arena.now l.compactor.arena.now l.k l.k;
  counts : CountsWork l.fn.compactor l.compactor;
}
