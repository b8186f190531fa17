use Rattle.std.proofs.Common.{rules, ◌∙◌}
use Rattle.chain_arena.proofs.CallStepLemmas.{drained_is}
use Rattle.chain_arena.proofs.calls.drain.Goals as goal

pub returns-in-Some : goal.returns-in-Some
returns-in-Some g c =
    let links = c.in-Some.ensures in
    drained_is g.P.Gen.GenKey.following c.args.arena.now c.in-Some.links.arena.now _ (g.P.PtrKey.key c.args.p) c.in-Some.links.at c.args.take _ links.drain.2 links.drain.3 links.drain.0 links.drain.4 c.take_links-count.ensures.count
    (search rules ∙ c.drop.ensures.0 ∙ c.take_links-count.ensures.state)
