use Rattle.std.proofs.Common.{rules}
use Rattle.surject_arena.proofs.RedirectLemmas.{redirection}
use Rattle.surject_arena.proofs.keys.redirect.Goals as goal

pub returns : goal.returns
returns g c = redirection g.A.ArenaTrait.state g.A.ChainArenaTrait.interlinks _ g.P.PtrKey.key c.args.w _ (λ v next is. (search (rules, is.lends, is.leaves, is.called), search (rules, is.called))) c.args.keys.now c.args.q
    c.for_each_in_chain.result c.for_each_in_chain.new.arena c.for_each_in_chain.ensures.outcome c.for_each_in_chain.ensures.none
