use Rattle.forwarding_arena.proofs.InsertionLemmas.{within_forwarded}
use Rattle.forwarding_arena.proofs.forwarding.ForwardingArenaPlainArenaTrait.insert_within_capacity.Goals as goal

pub returns-clause-outcome : goal.returns-clause-outcome
returns-clause-outcome g c = within_forwarded g.A.ArenaTrait.state (λ w. w.inner) g.P.PtrKey.key c.args.self.now (record { inner = c.insert_within_capacity.new.self }) c.args.t c.insert_within_capacity.result c.insert_within_capacity.ensures.outcome
