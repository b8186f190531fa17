use Rattle.arena_traits.specs.Growth.{RefusesOneMore}
use Rattle.chain_traits.proofs.OutcomeLemmas.{insertion_to}
use Rattle.forwarding_arena.proofs.InsertionLemmas.{forwarded}
use Rattle.forwarding_arena.proofs.forwarding.ForwardingArenaChainArenaTrait.insert_reallocating.Goals as goal

pub returns-clause-outcome : goal.returns-clause-outcome
returns-clause-outcome g c = insertion_to _ (RefusesOneMore (g.A.ArenaTrait.view c.args.self.now.inner)) _ _ c.insert_reallocating.result c.insert_reallocating.ensures.outcome
    (λ p gained. (forwarded g.A.ArenaTrait.state g.A.ChainArenaTrait.interlinks (λ w. w.inner) c.args.self.now (record { inner = c.insert_reallocating.new.self }) _ _ c.args.t (g.P.PtrKey.key p) gained.0, gained.1))
