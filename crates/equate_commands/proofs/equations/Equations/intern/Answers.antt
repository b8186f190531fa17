use Rattle.std.proofs.Common.{◌≡◌, Some, sym, subst}
use Rattle.equate_commands.specs.WordClasses.{pointer_of}
use Rattle.equate_commands.proofs.InsertionLemmas.{stays_interned}
use Rattle.equate_commands.proofs.CallLemmas.{seen, found_here, not_found}
use Rattle.equate_commands.proofs.equations.Equations.intern.Goals as goal

pub insert_word-requires : goal.insert_word-requires
insert_word-requires g c = not_found g.P.PtrKey.key c.args.self.now c.args.word.now c.pointer.result c.pointer.ensures c.in-None.is

pub returns-in-Some-clause-ok : goal.returns-in-Some-clause-ok
returns-in-Some-clause-ok g c =
    let key = g.P.PtrKey.key in
    let here = subst (λ v. pointer_of v c.args.word.now ≡ Some (key c.in-Some.p)) (sym c.self.view_is) (found_here key c.args.self.now c.args.word.now c.pointer.result c.in-Some.p c.pointer.ensures c.in-Some.is) in
    rw (← c.self.view_is) (stays_interned (seen key c.self.inside.table c.self.inside.words) c.self.invariant c.args.word.now (key c.in-Some.p) here)
