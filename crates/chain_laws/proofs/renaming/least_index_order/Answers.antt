use Rattle.chain_laws.proofs.RenamingLemmas.LeastIndexOrder.{has_least_index_order, least_index_order_is_ordered, least_index_order_is_canonical, least_index_order_rests, layout_is_idempotent, places_rest}
use Rattle.chain_laws.proofs.renaming.least_index_order.Goals as goal

pub returns : goal.returns
returns c = record {
  there_is_one = has_least_index_order;
  one = least_index_order_is_ordered;
  canonical = least_index_order_is_canonical;
  rests = least_index_order_rests;
  layout_is_idempotent = layout_is_idempotent;
  places_rest = places_rest;
}
