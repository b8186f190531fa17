use Rattle.std.proofs.Common.{arith, ap, refl}
use Rattle.arena_core.proofs.PointerKindLemmas.{kind_by}
use Rattle.linked_lists.proofs.ListRemovalLemmas.{all_left, removal_goes_on, fewer_left, all_removed}
use Rattle.linked_lists.proofs.linked_lists.LinkedLists.remove_items.Goals as goal

pub loop-p-init : goal.loop-p-init
loop-p-init g c = all_left g.A.ArenaTrait.state g.A.ChainArenaTrait.interlinks g.P.Gen.GenKey.wraps g.P.Gen.GenKey.following c.args.self.now (g.P.PtrKey.key c.args.h.head) c.all_in_lists.ensures (c.if-not-is_list.ensures.0 refl)

pub loop-p-preserved : goal.loop-p-preserved
loop-p-preserved g c =
    rw (ap (λ x. x.1) c.overflowing-overflow.ensures)
    (removal_goes_on g.A.ArenaTrait.state g.A.ChainArenaTrait.interlinks (kind_by g.P.PtrKey g.P.Inx.InxKey g.P.Gen.GenKey) c.args.self.now c.loop-p.self c.remove.new.self c.args.h.head c.in-Some.p c.loop-p.wrapped c.loop-p.invariant c.in-Some.ensures c.remove.result c.remove.ensures)

pub loop-p-smaller : goal.loop-p-smaller
loop-p-smaller g c = fewer_left g.A.ArenaTrait.state g.A.ChainArenaTrait.interlinks (kind_by g.P.PtrKey g.P.Inx.InxKey g.P.Gen.GenKey) c.args.self.now c.loop-p.self c.remove.new.self c.args.h.head c.in-Some.p c.loop-p.wrapped c.loop-p.invariant c.in-Some.ensures c.remove.result c.remove.ensures

pub returns : goal.returns
returns g c = (c.if-not-is_list.ensures.0 refl, all_removed g.A.ArenaTrait.state g.A.ChainArenaTrait.interlinks g.P.PtrKey.key g.P.Gen.GenKey.wraps g.P.Gen.GenKey.following c.args.self.now c.loop-p.self c.args.h.head _ c.loop-p.wrapped c.loop-p.invariant c.in_default.ensures (omega (arith, c.loop-p.invariant.size, c.len-links.ensures.count, c.len.ensures.count)))
