use Rattle.chain_compaction.proofs.VisitorLemmas.{reported_to}
use Rattle.chain_arena.proofs.chain_arena.ChainArena.compress_canonical_with.Goals as goal

pub returns-clause-reports : goal.returns-clause-reports
returns-clause-reports g c = reported_to g.P.PtrKey.key _ _ _ _ _ g.F.FnMut (λ v. v.map) c.compress_canonical_by-overflow.ensures.reports
