use Rattle.surject_arena.specs.Partitions.{member_view}
use Rattle.surject_arena.proofs.ViewLemmas.{each-valid}
use Rattle.surject_arena.proofs.CallLemmas.{partition_without, key_taken}
use Rattle.surject_arena.proofs.surject.SurjectArena.remove_key.Goals as goal

pub invariant_of-self : goal.invariant_of-self
invariant_of-self g c =
    let a = c.self.inside.keys in
    let e = c.remove.new.self in
    let p = g.P.PtrKey.key c.args.p in
    partition_without g.P.PtrKey.key g.P.Gen.GenKey.following g.A.ArenaTrait.state g.A.ChainArenaTrait.interlinks g.B.ArenaTrait.state a e c.self.inside.values c.release.new.values c.self.inside.redirected c.self.invariant p c.in-Success.m
    c.in-Success.ensures.outcome.1.0 c.in-Success.ensures.outcome.1.1 (g.met.A.ChainArenaTrait.removal_removes a e p.0 c.in-Success.ensures.implementation) c.agrees.ensures c.release.result c.release.ensures.many c.release.ensures.last

pub invariant_of-self-in-GenerationOverflow : goal.invariant_of-self-in-GenerationOverflow
invariant_of-self-in-GenerationOverflow g c =
    let a = c.self.inside.keys in
    let e = c.remove.new.self in
    let p = g.P.PtrKey.key c.args.p in
    let release = c.release-in-GenerationOverflow in
    partition_without g.P.PtrKey.key g.P.Gen.GenKey.following g.A.ArenaTrait.state g.A.ChainArenaTrait.interlinks g.B.ArenaTrait.state a e c.self.inside.values release.new.values c.self.inside.redirected c.self.invariant p c.in-GenerationOverflow.m
    c.in-GenerationOverflow.ensures.outcome.1.0 c.in-GenerationOverflow.ensures.outcome.1.1 (g.met.A.ChainArenaTrait.removal_removes a e p.0 c.in-GenerationOverflow.ensures.implementation) c.agrees.ensures release.result release.ensures.many release.ensures.last

pub returns-in-Success-clause-outcome : goal.returns-in-Success-clause-outcome
returns-in-Success-clause-outcome g c =
    let a = c.self.inside.keys in
    let e = c.remove.new.self in
    let p = g.P.PtrKey.key c.args.p in
    rw (← c.self.view_is) (
      c.in-Success.ensures.outcome.0,
      key_taken g.P.PtrKey.key g.P.Gen.GenKey.following g.A.ArenaTrait.state g.A.ChainArenaTrait.interlinks g.B.ArenaTrait.state a e c.self.inside.values c.release.new.values c.self.inside.redirected c.self.invariant p c.in-Success.m
          c.in-Success.ensures.outcome.1.0 c.in-Success.ensures.outcome.1.1 (g.met.A.ChainArenaTrait.removal_removes a e p.0 c.in-Success.ensures.implementation) c.agrees.ensures c.release.result c.release.ensures.many c.release.ensures.last,
    )

pub returns-in-GenerationOverflow-clause-outcome : goal.returns-in-GenerationOverflow-clause-outcome
returns-in-GenerationOverflow-clause-outcome g c =
    let a = c.self.inside.keys in
    let e = c.remove.new.self in
    let p = g.P.PtrKey.key c.args.p in
    let release = c.release-in-GenerationOverflow in
    rw (← c.self.view_is) (
      c.in-GenerationOverflow.ensures.outcome.0,
      key_taken g.P.PtrKey.key g.P.Gen.GenKey.following g.A.ArenaTrait.state g.A.ChainArenaTrait.interlinks g.B.ArenaTrait.state a e c.self.inside.values release.new.values c.self.inside.redirected c.self.invariant p c.in-GenerationOverflow.m
          c.in-GenerationOverflow.ensures.outcome.1.0 c.in-GenerationOverflow.ensures.outcome.1.1 (g.met.A.ChainArenaTrait.removal_removes a e p.0 c.in-GenerationOverflow.ensures.implementation) c.agrees.ensures release.result release.ensures.many release.ensures.last,
    )

pub returns-in-InvalidPtr-clause-outcome : goal.returns-in-InvalidPtr-clause-outcome
returns-in-InvalidPtr-clause-outcome g c = rw (← c.self.view_is) (λ valid. c.in-InvalidPtr.ensures.outcome (each-valid (member_view g.P.PtrKey.key) g.A.ArenaTrait.state c.self.inside.keys (g.P.PtrKey.key c.args.p) valid))
