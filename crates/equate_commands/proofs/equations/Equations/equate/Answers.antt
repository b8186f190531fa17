use Rattle.std.proofs.Common.{◌∙◌}
use Rattle.equate_commands.proofs.CallLemmas.{on_err}
use Rattle.equate_commands.proofs.EquationLemmas.{kept_after_first, first_here, equate_joins, equate_two}
use Rattle.equate_commands.proofs.equations.Equations.equate.Goals as goal

pub returns-in_err-p-clause-err : goal.returns-in_err-p-clause-err
returns-in_err-p-clause-err g c = on_err c.from_residual.result (λ x y known_x known_y. c.in_err-p.ensures.err.classes x y, λ x known. c.in_err-p.ensures.err.pointers x)

pub returns-in_err-q-clause-err : goal.returns-in_err-q-clause-err
returns-in_err-q-clause-err g c =
    let key = g.P.PtrKey.key in
    on_err c.from_residual-in_err-q.result (kept_after_first c.args.self.now c.intern.new.self c.intern-2.new.self c.args.a.now c.args.b.now (key c.in_ok-p.p) (key c.in_ok-p.p) c.in_ok-p.ensures.ok c.in_err-q.ensures.err)

pub returns-clause-joined : goal.returns-clause-joined
returns-clause-joined g c =
    let p = g.P.PtrKey.key c.in_ok-p.p in
    let q = g.P.PtrKey.key c.in_ok-q.q in
    let a = c.args.a.now in
    let b = c.args.b.now in
    let first = c.in_ok-p.ensures.ok in
    let second = c.in_ok-q.ensures.ok in
    let here = first_here c.args.self.now c.intern.new.self c.intern-2.new.self a b p q first second ∙ first.here in
    equate_joins c.args.self.now c.intern.new.self c.intern-2.new.self a b p q first second c.unite.new.self c.unite.result (c.unite.ensures a b here second.here)

pub returns-clause-two : goal.returns-clause-two
returns-clause-two g c =
    let p = g.P.PtrKey.key c.in_ok-p.p in
    let q = g.P.PtrKey.key c.in_ok-q.q in
    let a = c.args.a.now in
    let b = c.args.b.now in
    let first = c.in_ok-p.ensures.ok in
    let second = c.in_ok-q.ensures.ok in
    let here = first_here c.args.self.now c.intern.new.self c.intern-2.new.self a b p q first second ∙ first.here in
    equate_two c.args.self.now c.intern.new.self c.intern-2.new.self a b p q first second c.unite.new.self c.unite.result (c.unite.ensures a b here second.here)
