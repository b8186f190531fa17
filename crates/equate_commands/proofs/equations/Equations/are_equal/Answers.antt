use Rattle.std.proofs.Common.{◌↔◌, IsTrue, is_some, refl, ap, subst}
use Rattle.surject_arena.specs.Surjections.{AreInOneSet}
use Rattle.equate_commands.proofs.CallLemmas.{found_here, not_found, unknown_by, equal_by}
use Rattle.equate_commands.proofs.equations.Equations.are_equal.Goals as goal

pub returns-in-Some-Some-clause-known : goal.returns-in-Some-Some-clause-known
returns-in-Some-Some-clause-known g c =
    let key = g.P.PtrKey.key in
    let v = c.args.self.now in
    let both = c.in-Some-Some in
    (λ yes. (ap is_some (found_here key v c.args.a.now c.pointer.result both.p c.pointer.ensures both.is-0), ap is_some (found_here key v c.args.b.now c.pointer-2.result both.q c.pointer-2.ensures both.is-1)), λ known. refl)

pub returns-in-Some-Some-clause-equal : goal.returns-in-Some-Some-clause-equal
returns-in-Some-Some-clause-equal g c =
    let key = g.P.PtrKey.key in
    let v = c.args.self.now in
    let both = c.in-Some-Some in
    let a = found_here key v c.args.a.now c.pointer.result both.p c.pointer.ensures both.is-0 in
    let b = found_here key v c.args.b.now c.pointer-2.result both.q c.pointer-2.ensures both.is-1 in
    let same = subst (λ v. IsTrue c.in_same_set.result ↔ AreInOneSet v.arena (key both.p) (key both.q)) c.self.view_is c.in_same_set.ensures in
    (λ yes. (key both.p, key both.q, a, b, same.0 yes), λ equal. same.1 (equal_by key v c.args.a.now c.args.b.now (key both.p) (key both.q) a b equal))

pub returns-in_default-clause-known : goal.returns-in_default-clause-known
returns-in_default-clause-known g c =
    let key = g.P.PtrKey.key in
    let v = c.args.self.now in
    (λ no. absurd (cc), λ known. absurd (unknown_by key v c.args.b.now (not_found key v c.args.b.now c.pointer-2.result c.pointer-2.ensures c.in_default.is-1) known.1))

pub returns-in_default-2-clause-known : goal.returns-in_default-2-clause-known
returns-in_default-2-clause-known g c =
    let key = g.P.PtrKey.key in
    let v = c.args.self.now in
    (λ no. absurd (cc), λ known. absurd (unknown_by key v c.args.a.now (not_found key v c.args.a.now c.pointer.result c.pointer.ensures c.in_default.is-0) known.0))
