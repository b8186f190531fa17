use Rattle.chain_laws.proofs.OrderLemmas.{order_puts_in_order}
use Rattle.chain_laws.proofs.order.order_puts_in_order.Goals as goal

pub returns : goal.returns
returns c = order_puts_in_order
