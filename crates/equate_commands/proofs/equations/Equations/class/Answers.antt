use Rattle.std.proofs.Common.{◌≡◌, Some, is_some, sym, ap, subst}
use Rattle.std.proofs.lemmas.Option.{IfSome_then}
use Rattle.equate_commands.specs.WordClasses.{pointer_of}
use Rattle.equate_commands.proofs.CallLemmas.{seen, found_here, not_found, unknown_by, pointer_valid}
use Rattle.equate_commands.proofs.equations.Equations.class.Goals as goal

pub returns-in-Some-clause-known : goal.returns-in-Some-clause-known
returns-in-Some-clause-known g c =
    let key = g.P.PtrKey.key in
    let at = found_here key c.args.self.now c.args.a.now c.pointer.result c.in-Some.p c.pointer.ensures c.in-Some.is in
    let here = subst (λ v. pointer_of v c.args.a.now ≡ Some (key c.in-Some.p)) (sym c.self.view_is) at in
    let valid = pointer_valid (seen key c.self.inside.table c.self.inside.words) c.self.invariant c.args.a.now (key c.in-Some.p) here in
    (λ some. ap is_some at, λ known. c.key_set.ensures.some.1 valid)

pub returns-in-Some-clause-listed : goal.returns-in-Some-clause-listed
returns-in-Some-clause-listed g c =
    let key = g.P.PtrKey.key in
    let at = found_here key c.args.self.now c.args.a.now c.pointer.result c.in-Some.p c.pointer.ensures c.in-Some.is in
    let here = subst (λ v. pointer_of v c.args.a.now ≡ Some (key c.in-Some.p)) (sym c.self.view_is) at in
    rw (← c.self.view_is) (IfSome_then c.key_set.result c.key_set.ensures.pointers (λ pointers is. record { p = key c.in-Some.p; set = is.0; own = here; inside = is.1; all = is.2 }))

pub returns-in-None-clause-known : goal.returns-in-None-clause-known
returns-in-None-clause-known g c =
    let key = g.P.PtrKey.key in
    (λ no. absurd (cc), λ known. absurd (unknown_by key c.args.self.now c.args.a.now (not_found key c.args.self.now c.args.a.now c.pointer.result c.pointer.ensures c.in-None.is) known))
