use Rattle.chain_linking.proofs.agreement.agrees_at.Goals as goal

pub returns-then-next_agrees : goal.returns-then-next_agrees
returns-then-next_agrees g c = (
  λ known. record { forward = c.next_agrees.ensures.0 c.if-next_agrees.true; back = c.prev_agrees.ensures.0 known },
  λ at. c.prev_agrees.ensures.1 at.back,
)
