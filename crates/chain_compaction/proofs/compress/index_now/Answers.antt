use Rattle.chain_compaction.proofs.MovedNeighborLemmas.{differ, found_same, named_moved, named_stays, none_moved}
use Rattle.chain_compaction.proofs.compress.index_now.Goals as goal

pub returns-then-is_same : goal.returns-then-is_same
returns-then-is_same g c =
    let is = g.met.I.InxKey.same_is_equal c.in-Some.k c.args.from in
    named_moved g.I.InxKey.number g.met.I.InxKey.same_number c.in-Some.k c.args.named c.in-Some.is c.args.from c.args.to (is.0 (found_same c.is_same.result (g.I.InxKey.same c.in-Some.k c.args.from) c.is_same.ensures c.if-is_same.true))

pub returns-else-is_same : goal.returns-else-is_same
returns-else-is_same g c =
    let is = g.met.I.InxKey.same_is_equal c.in-Some.k c.args.from in
    named_stays g.I.InxKey.number g.met.I.InxKey.same_number c.in-Some.k c.args.named c.in-Some.is c.args.from c.args.to
    (λ e. differ c.is_same.result (g.I.InxKey.same c.in-Some.k c.args.from) c.is_same.ensures c.if-is_same.false (is.1 e))

pub returns-in-None : goal.returns-in-None
returns-in-None g c = none_moved g.I.InxKey.number c.args.named c.in-None.is c.args.from c.args.to
