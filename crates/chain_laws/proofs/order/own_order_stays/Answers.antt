use Rattle.chain_laws.proofs.OrderLemmas.{own_order_stays}
use Rattle.chain_laws.proofs.order.own_order_stays.Goals as goal

pub returns : goal.returns
returns c = own_order_stays
