use Rattle.std.proofs.Common.{is_some, sym, ap, ◌∙◌}
use Rattle.equate_commands.proofs.TableLemmas.{is_some_mapped}
use Rattle.equate_commands.proofs.equations.Equations.contains.Goals as goal

pub returns : goal.returns
returns g c =
    let same = c.is_some.ensures ∙ (sym (is_some_mapped g.P.PtrKey.key c.pointer.result) ∙ ap is_some c.pointer.ensures) in
    (λ yes. sym same ∙ yes, λ known. same ∙ known)
