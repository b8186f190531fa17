use Rattle.std.proofs.Common.{◌≡◌, None, refl, sym, ap, subst}
use Rattle.equate_commands.specs.WordClasses.{pointer_of}
use Rattle.equate_commands.proofs.CallLemmas.{on_err, reordered_agree, reordered_kept, insertion_agrees, insertion_interns}
use Rattle.equate_commands.proofs.equations.Equations.insert_word.Goals as goal

pub returns-in_err-reserve-clause-err : goal.returns-in_err-reserve-clause-err
returns-in_err-reserve-clause-err g c =
    let words = c.self.inside.words in
    on_err c.from_residual-in_err-reserve.result (rw (← c.self.view_is) (reordered_kept g.P.PtrKey.key c.self.inside.table c.reserve.new.self words words c.self.invariant c.reserve.ensures.entries.2 refl))

pub invariant_of-self-in-Ok : goal.invariant_of-self-in-Ok
invariant_of-self-in-Ok g c =
    let unknown = subst (λ v. pointer_of v c.args.word.now ≡ None) (sym c.self.view_is) c.requires in
    insertion_agrees g.P.PtrKey.key c.self.inside.table c.reserve.new.self c.self.inside.words c.insert.new.self c.self.invariant c.reserve.ensures.entries.2 c.insert-in-Ok.new.self c.invariants.ensures c.in_ok-entry.entry c.in_ok-key.key c.args.word.now
    c.in_ok-entry.ensures.ok c.in_ok-key.ensures.ok unknown c.in-Ok.p c.in-Ok.ensures.outcome.0 c.in-Ok-insert.ensures.updates

pub invariant_of-self-in-Err-insert : goal.invariant_of-self-in-Err-insert
invariant_of-self-in-Err-insert g c =
    reordered_agree g.P.PtrKey.key c.self.inside.table c.reserve.new.self c.self.inside.words c.insert.new.self c.self.invariant c.reserve.ensures.entries.2 (ap (λ s. s.keys.entries) c.in-Err.ensures.err.0)

pub returns-in-Ok-insert-clause-ok : goal.returns-in-Ok-insert-clause-ok
returns-in-Ok-insert-clause-ok g c =
    let unknown = subst (λ v. pointer_of v c.args.word.now ≡ None) (sym c.self.view_is) c.requires in
    rw (← c.self.view_is) (insertion_interns g.P.PtrKey.key c.self.inside.table c.reserve.new.self c.self.inside.words c.insert.new.self c.self.invariant c.reserve.ensures.entries.2 c.insert-in-Ok.new.self c.invariants.ensures c.in_ok-entry.entry c.in_ok-key.key c.args.word.now
    c.in_ok-entry.ensures.ok c.in_ok-key.ensures.ok unknown c.in-Ok.p c.in-Ok.ensures.outcome.0 c.in-Ok-insert.ensures.updates)

pub returns-in-Err-clause-err : goal.returns-in-Err-clause-err
returns-in-Err-clause-err g c =
    rw (← c.self.view_is) (reordered_kept g.P.PtrKey.key c.self.inside.table c.reserve.new.self c.self.inside.words c.insert.new.self c.self.invariant c.reserve.ensures.entries.2 (ap (λ s. s.keys.entries) c.in-Err.ensures.err.0))
