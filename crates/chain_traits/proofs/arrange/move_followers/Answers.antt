use Rattle.std.proofs.Common.{refl, subst}
use Rattle.std.proofs.lemmas.List.{at_drop_all}
use Rattle.chain_traits.proofs.LinkOrderLemmas.{at_item, IsPutting, puts_next, put}
use Rattle.chain_traits.proofs.arrange.move_followers.Goals as goal

pub loop-q-init : goal.loop-q-init
loop-q-init g c = record { same_view = refl; can = c.requires; links = refl; moved = λ end later. later }

pub loop-q-preserved : goal.loop-q-preserved
loop-q-preserved g c =
    puts_next g.A.ArenaTrait.state g.A.ChainArenaTrait.interlinks g.P.PtrKey.key g.A.ChainArenaTrait.moves c.args.arena.now c.loop-q.arena c.move_after.new.self c.args.first c.loop-q.before c.q-item.result
    c.args.followers.now _ c.move_after.result
    (subst (IsPutting g.A.ArenaTrait.state g.A.ChainArenaTrait.interlinks g.P.PtrKey.key g.A.ChainArenaTrait.moves c.args.arena.now c.loop-q.arena c.args.first c.loop-q.before c.args.followers.now)
    (at_item c.args.followers.now c.loop-q.q-index c.q-item.result c.loop-q-test.true c.q-item.is) c.loop-q.invariant)
    c.move_after.ensures.outcome c.move_after.ensures.implementation

pub returns : goal.returns
returns g c =
    let done =
    put g.A.ArenaTrait.state g.A.ChainArenaTrait.interlinks g.P.PtrKey.key g.A.ChainArenaTrait.moves c.args.arena.now c.loop-q.arena c.args.first c.loop-q.before c.args.followers.now
    (subst (IsPutting g.A.ArenaTrait.state g.A.ChainArenaTrait.interlinks g.P.PtrKey.key g.A.ChainArenaTrait.moves c.args.arena.now c.loop-q.arena c.args.first c.loop-q.before c.args.followers.now)
    (at_drop_all (λ l. l) c.args.followers.now c.loop-q.q-index c.loop-q-test.false) c.loop-q.invariant) in
    record { links = done.0; view = done.1; moves = done.2 }
