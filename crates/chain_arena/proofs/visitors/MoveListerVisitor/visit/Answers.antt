use Rattle.std.proofs.Common.{is_ok}
use Rattle.chain_compaction.proofs.VisitorLemmas.{listed_by_push}
use Rattle.chain_arena.proofs.visitors.MoveListerVisitor.visit.Goals as goal

pub returns-clause-view_after : goal.returns-clause-view_after
returns-clause-view_after g c =
    let pushed = c.push.ensures in
    listed_by_push c.args.self.now.moves c.push.new.self c.args.from c.args.to (is_ok c.push.result) pushed.succeeds pushed.items pushed.len pushed.capacity
