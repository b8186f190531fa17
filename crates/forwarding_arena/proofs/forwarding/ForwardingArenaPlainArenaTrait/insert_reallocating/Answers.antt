use Rattle.forwarding_arena.proofs.InsertionLemmas.{growing_forwarded}
use Rattle.forwarding_arena.proofs.forwarding.ForwardingArenaPlainArenaTrait.insert_reallocating.Goals as goal

pub returns-clause-outcome : goal.returns-clause-outcome
returns-clause-outcome g c = growing_forwarded g.A.ArenaTrait.state (λ w. w.inner) g.P.PtrKey.key c.args.self.now (record { inner = c.insert_reallocating.new.self }) c.args.t g.P.Inx.InxKey.greatest c.insert_reallocating.result c.insert_reallocating.ensures.outcome
