use Rattle.chain_laws.proofs.OrderLemmas.{order_agrees}
use Rattle.chain_laws.proofs.order.order_agrees.Goals as goal

pub returns : goal.returns
returns c = order_agrees
