use Rattle.arena_traits.proofs.ArenaViewLemmas.{renewed_key}
use Rattle.arena_traits.proofs.CallOutcomeLemmas.{reports_made}
use Rattle.arena_base.proofs.arena_trait.ArenaArenaTrait.invalidate.Goals as goal

pub returns-clause-outcome : goal.returns-clause-outcome
returns-clause-outcome g c =
    let following = g.P.Gen.GenKey.following in
    let wraps = g.P.Gen.GenKey.wraps in
    let counter = c.args.self.now.counter in
    let valid = c.contains.ensures.0 c.if-not-contains.false in
    let renewed = renewed_key following c.args.self.now c.renew_at-generation.new.self (g.P.PtrKey.key c._from_raw.result) (g.P.Inx.InxKey.number c.inx.result) (g.P.Inx.InxKey.number c.inx-2.result) (g.P.PtrKey.key c.args.p).0
    c.renew_at-generation.result.0 c._from_raw.ensures c.inx-2.ensures c.inx.ensures c.renew_at-generation.ensures.next c.renew_at-generation.ensures.after in
    reports_made wraps _ _ counter c.renew_at-generation.result.1 c._from_raw.result c.from_overflow.result c.from_overflow.ensures c.renew_at-generation.ensures.overflow (valid, renewed.0, renewed.1, renewed.2)

pub contains-requires : goal.contains-requires
contains-requires g c κs = λ outlives. outlives
