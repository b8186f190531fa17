use Rattle.std.proofs.Common.{arith}
use Rattle.arena_core.proofs.PointerKindLemmas.{kind_by}
use Rattle.polygons.proofs.RingRemovalLemmas.{all_left, removal_goes_on, all_removed}
use Rattle.polygons.proofs.polygons.Polygons.remove_polygon.Goals as goal

pub loop-next-init : goal.loop-next-init
loop-next-init g c = all_left g.A.ArenaTrait.state g.A.ChainArenaTrait.interlinks g.P.Gen.GenKey.following c.args.self.now (g.P.PtrKey.key c.args.corner) c.all_in_polygons.ensures (rw (← c.self.view_is) (c.contains.ensures.0 (let valid = c.if-not-contains.false in cc)))

pub loop-next-preserved : goal.loop-next-preserved
loop-next-preserved g c =
    removal_goes_on g.A.ArenaTrait.state g.A.ChainArenaTrait.interlinks (kind_by g.P.PtrKey g.P.Inx.InxKey g.P.Gen.GenKey) c.args.self.now c.loop-next.self c.remove.new.self (g.P.PtrKey.key c.args.corner) c.loop-next.at
    c.loop-next.invariant c.in-Some.next c.remove.result c.in-Some.ensures c.remove.ensures

pub returns : goal.returns
returns g c =
    all_removed g.A.ArenaTrait.state g.A.ChainArenaTrait.interlinks g.P.PtrKey.key g.P.Gen.GenKey.following c.args.self.now c.loop-next.self (g.P.PtrKey.key c.args.corner) c.loop-next.at _ c.loop-next.invariant c.in_default.ensures
    (omega (arith, c.loop-next.invariant.size, c.len-corners.ensures.count, c.len.ensures.count))
