use Rattle.chain_traits.proofs.OutcomeLemmas.{growth_to}
use Rattle.forwarding_arena.proofs.InsertionLemmas.{forwarded}
use Rattle.forwarding_arena.proofs.forwarding.ForwardingArenaChainArenaTrait.insert.Goals as goal

pub returns-clause-outcome : goal.returns-clause-outcome
returns-clause-outcome g c = growth_to _ _ _ c.insert.result c.insert.ensures.outcome
    (λ p gained. (forwarded g.A.ArenaTrait.state g.A.ChainArenaTrait.interlinks (λ w. w.inner) c.args.self.now (record { inner = c.insert.new.self }) _ _ c.args.t (g.P.PtrKey.key p) gained.0, gained.1))
