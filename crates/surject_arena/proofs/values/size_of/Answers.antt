use Rattle.surject_arena.specs.Partitions.{counted}
use Rattle.surject_arena.proofs.SetReadLemmas.{value_sized}
use Rattle.surject_arena.proofs.values.size_of.Goals as goal

pub returns-in-None : goal.returns-in-None
returns-in-None g c = λ n at.
    let v = value_sized (g.B.ArenaTrait.entry c.args.values.now) (g.P.PtrKey.key c.args.w) n at in
    absurd (let some = c.in-None.ensures.some.1 (record { value = counted v.0 n; stored = v.1 }) in cc)
