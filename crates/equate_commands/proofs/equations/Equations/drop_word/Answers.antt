use Rattle.std.proofs.Common.{is_some, option_map, refl, sym, ap, ◌∙◌}
use Rattle.equate_commands.proofs.TableLemmas.{pointer_read}
use Rattle.equate_commands.proofs.CallLemmas.{removal_agrees, removal_drops, absence_drops}
use Rattle.equate_commands.proofs.equations.Equations.drop_word.Goals as goal

pub invariant_of-self : goal.invariant_of-self
invariant_of-self g c =
    removal_agrees g.P.PtrKey.key g.P.Gen.GenKey.following g.P.Gen.GenKey.wraps c.self.inside.table c.remove.new.self c.self.inside.words c.remove_key.new.self c.self.invariant c.keys_ascend.ensures c.args.word.now c.remove.ensures.updates c.in-Some.p (sym c.remove.ensures.value ∙ c.in-Some.is) c.remove_key.result
    c.remove_key.ensures.outcome

pub returns-in-Some-clause-known : goal.returns-in-Some-clause-known
returns-in-Some-clause-known g c =
    let key = g.P.PtrKey.key in
    let found = pointer_read key c.self.inside.table c.args.word.now ∙ ap (option_map key) (sym c.remove.ensures.value ∙ c.in-Some.is) in
    rw (← c.self.view_is) (λ yes. ap is_some found, λ known. refl)

pub returns-in-Some-clause-dropped : goal.returns-in-Some-clause-dropped
returns-in-Some-clause-dropped g c =
    rw (← c.self.view_is) (removal_drops g.P.PtrKey.key g.P.Gen.GenKey.following g.P.Gen.GenKey.wraps c.self.inside.table c.remove.new.self c.self.inside.words c.remove_key.new.self c.self.invariant c.keys_ascend.ensures c.args.word.now c.remove.ensures.updates c.in-Some.p (sym c.remove.ensures.value ∙ c.in-Some.is)
    c.remove_key.result c.remove_key.ensures.outcome)

pub returns-in-None-clause-known : goal.returns-in-None-clause-known
returns-in-None-clause-known g c =
    let key = g.P.PtrKey.key in
    let found = pointer_read key c.self.inside.table c.args.word.now ∙ ap (option_map key) (sym c.remove.ensures.value ∙ c.in-None.is) in
    rw (← c.self.view_is) (λ yes. absurd (cc), λ known. sym (ap is_some found) ∙ known)

pub returns-in-None-clause-dropped : goal.returns-in-None-clause-dropped
returns-in-None-clause-dropped g c =
    rw (← c.self.view_is) (absence_drops g.P.PtrKey.key c.self.inside.table c.remove.new.self c.self.inside.words c.args.word.now c.in-None.ensures.unchanged (sym c.remove.ensures.value ∙ c.in-None.is))
