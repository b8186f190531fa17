use Rattle.std.proofs.Common.{ap, ◌∙◌}
use Rattle.surject_arena.proofs.SetReductionLemmas.{none_removed, key_beside_removed}
use Rattle.surject_arena.proofs.surject.SurjectArena.remove_others.Goals as goal

pub loop-q-init : goal.loop-q-init
loop-q-init g c = none_removed g.P.Gen.GenKey.wraps g.P.Gen.GenKey.following c.args.self.now (g.P.PtrKey.key c.args.p) (c.contains.ensures.0 c.if-not-contains.false) c.invariants.ensures

pub loop-q-smaller : goal.loop-q-smaller
loop-q-smaller g c =
    (key_beside_removed g.P.Gen.GenKey.wraps g.P.Gen.GenKey.following c.args.self.now (g.P.PtrKey.key c.args.p) c.loop-q.self c.remove_key.new.self c.loop-q.wrapped c.loop-q.invariant c.keys_ascend.ensures (g.P.PtrKey.key c.in-Some.q)
    c.in-Some.ensures.some c.remove_key.result c.remove_key.ensures.outcome).0

pub loop-q-preserved : goal.loop-q-preserved
loop-q-preserved g c =
    rw (ap (λ x. x.1) c.overflowing-overflow.ensures) (
    (key_beside_removed g.P.Gen.GenKey.wraps g.P.Gen.GenKey.following c.args.self.now (g.P.PtrKey.key c.args.p) c.loop-q.self c.remove_key.new.self c.loop-q.wrapped c.loop-q.invariant c.keys_ascend.ensures (g.P.PtrKey.key c.in-Some.q)
    c.in-Some.ensures.some c.remove_key.result c.remove_key.ensures.outcome).1)

pub returns : goal.returns
returns g c =
    let is = c.loop-q.invariant in
    (is, c.in_default.ensures.none (record { value = (is.key.0, is.set); stored = is.rest (g.P.PtrKey.key c.args.p).0 is.not_first ∙ is.key.1 }))
