use Rattle.std.proofs.Common.{sym, ap, ◌∙◌}
use Rattle.linked_lists.proofs.rings.are_same.Goals as goal

pub returns : goal.returns
returns g c =
    let equal = g.met.P.PtrKey.same_is_equal c.args.p c.args.q in (
      (λ yes. ap g.P.PtrKey.key (equal.0 (sym c.is_same.ensures ∙ yes))),
      (λ same. c.is_same.ensures ∙ equal.1 (g.met.P.PtrKey.same_key c.args.p c.args.q same)),
    )
