use Rattle.std.proofs.Common.{◌≡◌, rules, refl, ◌∙◌}
use Rattle.chain_arena.specs.Drains.{walk_left, without_each}
use Rattle.chain_arena.proofs.ChainDrainLemmas.{without_each-step, walk_left-step, without_each-takes, without_each-counts}
use Rattle.chain_arena.proofs.chain_arena.ChainArena.drain_from.Goals as goal

pub loop-next-init : goal.loop-next-init
loop-next-init g c = refl

pub loop-next-smaller-in-Some : goal.loop-next-smaller-in-Some
loop-next-smaller-in-Some g c = walk_left-step g.P.PtrKey.key g.P.Inx.InxKey.packed_number g.P.Gen.GenKey.following g.P.Gen.GenKey.wraps _ _ _ _ _ c.in-Some.ensures

pub loop-next-preserved-in-Some : goal.loop-next-preserved-in-Some
loop-next-preserved-in-Some g c = without_each-step g.P.PtrKey.key g.P.Inx.InxKey.packed_number g.P.Gen.GenKey.following g.P.Gen.GenKey.wraps _ _ _ _ _ c.in-Some.ensures ∙ c.loop-next.invariant

pub loop-next-smaller-in-Some-2 : goal.loop-next-smaller-in-Some-2
loop-next-smaller-in-Some-2 g c = walk_left-step g.P.PtrKey.key g.P.Inx.InxKey.packed_number g.P.Gen.GenKey.following g.P.Gen.GenKey.wraps _ _ _ _ _ c.in-Some.ensures

pub loop-next-preserved-in-Some-2 : goal.loop-next-preserved-in-Some-2
loop-next-preserved-in-Some-2 g c = without_each-step g.P.PtrKey.key g.P.Inx.InxKey.packed_number g.P.Gen.GenKey.following g.P.Gen.GenKey.wraps _ _ _ _ _ c.in-Some.ensures ∙ c.loop-next.invariant

pub returns : goal.returns
returns g c =
    let following = g.P.Gen.GenKey.following in
    let old = c.args.self.now in
    let new = c.drain_at.new.self in
    let walk = walk_left old c.args.from in
    let state : new ≡ without_each following old walk = search rules in
    (state, without_each-takes following old new c.args.from c.invariants.ensures.agree state, without_each-counts following old new walk state)
