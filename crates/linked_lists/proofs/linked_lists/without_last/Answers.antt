use Rattle.linked_lists.proofs.WalkedLemmas.{left_without_last}
use Rattle.linked_lists.proofs.linked_lists.without_last.Goals as goal

pub returns : goal.returns
returns g c = left_without_last c.args.pointers.items c.pop.new.self.items c.pop.result c.args.pointers.len c.args.pointers.ok.0 c.pop.ensures.items c.pop.ensures.variant
