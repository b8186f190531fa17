use Rattle.std.proofs.lemmas.Option.{IfSome_then}
use Rattle.equate_commands.proofs.CallLemmas.{seen, word_read}
use Rattle.equate_commands.proofs.equations.Equations.word.Goals as goal

pub returns : goal.returns
returns g c =
    let key = g.P.PtrKey.key in
    rw (← c.self.view_is) (IfSome_then c.get_key.result c.get_key.ensures.key (λ k at. word_read (seen key c.self.inside.table c.self.inside.words) c.self.invariant (key c.args.p) k.now at))
