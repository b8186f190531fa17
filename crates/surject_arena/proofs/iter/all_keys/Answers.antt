use Rattle.std.proofs.Common.{ap, ◌∙◌}
use Rattle.arena_traits.specs.Advancers.{ahead}
use Rattle.surject_arena.proofs.IterLemmas.{pointers, all_ahead}
use Rattle.surject_arena.proofs.iter.all_keys.Goals as goal

pub returns : goal.returns
returns g c =
    let a = c.args.keys.now in
    let es = (g.A.ArenaTrait.view a).entries in
    ap (λ cursor. pointers (ahead cursor es)) c.advancer.ensures ∙ all_ahead es (g.A.ArenaTrait.state a).ascends
