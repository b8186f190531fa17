use Rattle.std.proofs.Common.{sym, subst}
use Rattle.surject_arena.specs.KeySets.{ArePointersOf}
use Rattle.surject_arena.specs.Partitions.{member_view}
use Rattle.surject_arena.proofs.OptionLemmas.{if_some_to}
use Rattle.surject_arena.proofs.ViewLemmas.{valid-each, each-valid}
use Rattle.surject_arena.proofs.SetReadLemmas.{seen, set_stored, key_of}
use Rattle.surject_arena.proofs.KeySetLemmas.{pointers_of}
use Rattle.surject_arena.proofs.surject.SurjectArena.key_set.Goals as goal

pub returns : goal.returns
returns g c =
    let key = g.P.PtrKey.key in
    let a = c.self.inside.keys in
    let b = c.self.inside.values in
    let r = c.self.inside.redirected in
    let p = key c.args.p in
    rw (← c.self.view_is) (record {
      some = (λ some. valid-each (member_view key) g.A.ArenaTrait.state a p (c.keys_from.ensures.some.0 some), λ valid. c.keys_from.ensures.some.1 (each-valid (member_view key) g.A.ArenaTrait.state a p valid));
      pointers = if_some_to c.keys_from.result c.keys_from.ensures.some.0 c.keys_from.ensures.keys (λ valid pointers is.
          let w = key valid.value.set in
          let own = set_stored key (g.A.ArenaTrait.entry a) p.0 p.1 valid.value valid.stored in (
            w,
            key_of key g.A.ArenaTrait.state g.B.ArenaTrait.state a b r p w valid own,
            subst (ArePointersOf (seen key g.A.ArenaTrait.state g.B.ArenaTrait.state a b r) w) (sym is.2) (pointers_of key g.A.ArenaTrait.state g.A.ChainArenaTrait.interlinks g.B.ArenaTrait.state a b r c.self.invariant p w own is.0 is.1),
          ));
    })
