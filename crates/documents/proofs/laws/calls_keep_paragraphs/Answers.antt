use Rattle.arena_core.proofs.PointerKindLemmas.{kind_by}
use Rattle.documents.proofs.HistoryLemmas.{calls_keep}
use Rattle.documents.proofs.laws.calls_keep_paragraphs.Goals as goal

pub returns : goal.returns
returns g c = calls_keep g.A.ArenaTrait.state g.A.ChainArenaTrait.interlinks (kind_by g.P.PtrKey g.P.Inx.InxKey g.P.Gen.GenKey)
