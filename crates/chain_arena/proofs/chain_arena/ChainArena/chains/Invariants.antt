-- The heads of the chains that are left complete the list.
use Rattle.chain_links.specs.Links.{entry_views}
use Rattle.chain_arena.proofs.ChainHeadLemmas.{IsFindingHeads}
use Rattle.chain_arena.proofs.chain_arena.ChainArena.chains.Given as goal

abbrev pub invariant-loop-p : goal.invariant-loop-p
invariant-loop-p g l = IsFindingHeads g.P.PtrKey.key l.fn.self (entry_views g.P.Inx.InxKey.packed_number l.p-iterator) l.marks.items l.heads.items
