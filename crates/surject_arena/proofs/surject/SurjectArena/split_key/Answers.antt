use Rattle.std.proofs.Common.{◌≡◌, Some, refl, sym, ap, ◌∙◌, subst, arith}
use Rattle.std.specs.Prelude.{Ok}
use Rattle.arena_traits.specs.Growth.{RefusesOneMore}
use Rattle.chain_links.specs.Insertions.{IsInsertionRefusal}
use Rattle.surject_arena.specs.Partitions.{counted, member_view}
use Rattle.surject_arena.specs.Surjections.{IsKey, SharesSet}
use Rattle.surject_arena.specs.SetCalls.{SplitsKey}
use Rattle.surject_arena.proofs.ViewLemmas.{valid-each, each-valid}
use Rattle.surject_arena.proofs.SetReadLemmas.{seen, key_of, has_value, of_value, valued, size_read, size_stored}
use Rattle.surject_arena.proofs.CallLemmas.{at_least_one, refusal_of}
use Rattle.surject_arena.proofs.WriteLemmas.{same_sizes, value_replaced}
use Rattle.surject_arena.proofs.surject.SurjectArena.split_key.Goals as goal

pub returns-in-None-clause-outcome : goal.returns-in-None-clause-outcome
returns-in-None-clause-outcome g c = rw (← c.self.view_is) (λ valid. absurd (let some = c.in-None.ensures.some.1 (each-valid (member_view g.P.PtrKey.key) g.A.ArenaTrait.state c.self.inside.keys (g.P.PtrKey.key c.args.p) valid) in cc))

pub set_apart-requires-clause-key : goal.set_apart-requires-clause-key
set_apart-requires-clause-key g c =
    rw (← c.self.view_is) (key_of g.P.PtrKey.key g.A.ArenaTrait.state g.B.ArenaTrait.state c.self.inside.keys c.self.inside.values c.self.inside.redirected (g.P.PtrKey.key c.args.p) (g.P.PtrKey.key c.in-Some.w) (c.in-Some.ensures.some.0 refl) c.in-Some.ensures.set)

pub set_apart-requires-clause-shared : goal.set_apart-requires-clause-shared
set_apart-requires-clause-shared g c =
    let b = c.self.inside.values in
    let w = g.P.PtrKey.key c.in-Some.w in
    rw (← c.self.view_is) (λ t n has.
    let same = c.size_of.ensures n (size_stored (g.B.ArenaTrait.entry b) w.0 w.1 t n (of_value g.P.PtrKey.key g.A.ArenaTrait.state g.B.ArenaTrait.state c.self.inside.keys b c.self.inside.redirected w t n has)) in
    omega (arith, same, c.if-size_of-gt1.true))

pub returns-in-Err-clause-outcome : goal.returns-in-Err-clause-outcome
returns-in-Err-clause-outcome g c =
    let key = g.P.PtrKey.key in
    let a = c.self.inside.keys in
    let b = c.self.inside.values in
    let r = c.self.inside.redirected in
    let p = key c.args.p in
    let w = key c.in-Some.w in
    let s = seen key g.A.ArenaTrait.state g.B.ArenaTrait.state a b r in
    let valid = c.in-Some.ensures.some.0 refl in
    let known = size_read key g.A.ArenaTrait.state g.B.ArenaTrait.state a b r (g.A.ChainArenaTrait.interlinks a) c.self.invariant p.0 w c.size_of.result c.in-Some.ensures.set c.size_of.ensures in
    let has = has_value key g.A.ArenaTrait.state g.B.ArenaTrait.state a b r w known.0 c.size_of.result known.1 in
    rw (← c.self.view_is) (subst (IsInsertionRefusal (IsKey s p) (λ why. SharesSet s p × RefusesOneMore s.values why)) (sym c.from.ensures) (refusal_of (IsKey s p) (λ why. SharesSet s p × RefusesOneMore s.values why)
    (valid-each (member_view key) g.A.ArenaTrait.state a p valid) c.in-Err.e
    ((w, known.0, c.size_of.result, key_of key g.A.ArenaTrait.state g.B.ArenaTrait.state a b r p w valid c.in-Some.ensures.set, has, c.if-size_of-gt1.true), rw (← c.self.view_is) at c.in-Err.ensures.outcome)))

pub invariant_of-self : goal.invariant_of-self
invariant_of-self g c =
    let key = g.P.PtrKey.key in
    let a = c.self.inside.keys in
    let b = c.self.inside.values in
    let w = key c.in-Some.w in
    let known = valued key g.A.ArenaTrait.state g.B.ArenaTrait.state a b 0 (g.A.ChainArenaTrait.interlinks a) c.self.invariant (key c.args.p).0 w c.in-Some.ensures.set in
    let replaced = c.replace_value.ensures known.0 known.1 known.2 in
    same_sizes key g.A.ArenaTrait.state g.A.ChainArenaTrait.interlinks g.B.ArenaTrait.state a b 0 c.self.invariant (key c.args.p) c.replace_value.new.values w known.0 c.args.v known.1 known.2 replaced.1 g.P.Gen.GenKey.following

pub returns-clause-outcome : goal.returns-clause-outcome
returns-clause-outcome g c =
    let key = g.P.PtrKey.key in
    let a = c.self.inside.keys in
    let b = c.self.inside.values in
    let r = c.self.inside.redirected in
    let p = key c.args.p in
    let w = key c.in-Some.w in
    let n = c.size_of.result in
    let valid = c.in-Some.ensures.some.0 refl in
    let known = size_read key g.A.ArenaTrait.state g.B.ArenaTrait.state a b r (g.A.ChainArenaTrait.interlinks a) c.self.invariant p.0 w n c.in-Some.ensures.set c.size_of.ensures in
    let replaced = c.replace_value.ensures known.0 n known.1 in
    let s = c.self.invariant.sets w n (size_stored (g.B.ArenaTrait.entry b) w.0 w.1 known.0 n known.1) in
    let one = at_least_one s.items s.chain.0 in
    let single : n ≡ 1 = omega (arith, one, s.size, c.if-size_of-gt1.false) in
    rw (← c.self.view_is) (subst (λ o. SplitsKey key g.P.Inx.InxKey.greatest (seen key g.A.ArenaTrait.state g.B.ArenaTrait.state a b r) c.args.p c.args.v (Ok o) (seen key g.A.ArenaTrait.state g.B.ArenaTrait.state a c.replace_value.new.values r)) (sym replaced.0) (
      valid-each (member_view key) g.A.ArenaTrait.state a p valid,
      (
        (w, known.0, key_of key g.A.ArenaTrait.state g.B.ArenaTrait.state a b r p w valid c.in-Some.ensures.set, has_value key g.A.ArenaTrait.state g.B.ArenaTrait.state a b r w known.0 1 (known.1 ∙ ap (λ m. Some (w.1, counted known.0 m)) single)),
        value_replaced key g.A.ArenaTrait.state g.A.ChainArenaTrait.interlinks g.B.ArenaTrait.state a b r c.self.invariant p c.replace_value.new.values w known.0 c.args.v n known.1 replaced.1 valid c.in-Some.ensures.set,
      ),
    ))
