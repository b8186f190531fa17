use Rattle.std.proofs.Common.{rules}
use Rattle.chain_examples.proofs.OwnerLemmas.{gives_owners}
use Rattle.chain_examples.proofs.tutorial.set_owners.Goals as goal

pub returns : goal.returns
returns g c = gives_owners g.A.ArenaTrait.state g.A.ChainArenaTrait.interlinks _ g.P.PtrKey.key c.args.owner _ (λ v next is. (search (rules, is.lends, is.leaves, is.called), search (rules, is.called))) c.args.arena.now c.args.p
    c.for_each_in_chain.result c.for_each_in_chain.new.arena c.for_each_in_chain.ensures.outcome c.for_each_in_chain.ensures.none
