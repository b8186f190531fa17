use Rattle.forwarding_arena.proofs.InsertionLemmas.{forwarded, within_to}
use Rattle.forwarding_arena.proofs.forwarding.ForwardingArenaChainArenaTrait.insert_within_capacity.Goals as goal

pub returns-clause-outcome : goal.returns-clause-outcome
returns-clause-outcome g c = within_to _ _ _ _ _ c.insert_within_capacity.result c.insert_within_capacity.ensures.outcome
    (λ p gained. (forwarded g.A.ArenaTrait.state g.A.ChainArenaTrait.interlinks (λ w. w.inner) c.args.self.now (record { inner = c.insert_within_capacity.new.self }) _ _ c.args.t (g.P.PtrKey.key p) gained.0, gained.1))
