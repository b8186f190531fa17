use Rattle.std.proofs.Common.{option_map, sym, ap, ◌∙◌}
use Rattle.equate_commands.proofs.TableLemmas.{pointer_read}
use Rattle.equate_commands.proofs.equations.Equations.pointer.Goals as goal

pub returns : goal.returns
returns g c =
    let key = g.P.PtrKey.key in
    rw (← c.self.view_is, c.copied.ensures) (ap (option_map key) c.get.ensures.value ∙ sym (pointer_read key c.self.inside.table c.args.word.now))
