use Rattle.std.proofs.Common.{◌∙◌, ap}
use Rattle.chain_renumbering.specs.MoveTables.{with_move}
use Rattle.chain_renumbering.proofs.MoveTableLemmas.{note_more}
use Rattle.chain_renumbering.proofs.renumbering.fill_table.Goals as goal

pub loop-from-preserved : goal.loop-from-preserved
loop-from-preserved g c =
    c.note_move.ensures
    ∙ (ap (λ t. with_move g.P.PtrKey.key t c.loop-from-item.result) c.loop-from.invariant
    ∙ note_more g.P.PtrKey.key c.args.table.now c.args.moves.now c.loop-from.from-index c.loop-from-item.result c.loop-from-test.true c.loop-from-item.is)
