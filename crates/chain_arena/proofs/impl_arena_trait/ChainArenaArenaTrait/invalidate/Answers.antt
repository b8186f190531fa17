use Rattle.arena_core.specs.Invalidation.{value_within}
use Rattle.arena_core.proofs.PointerKindLemmas.{kind_by}
use Rattle.chain_arena.proofs.EntryWriteLemmas.{renews, renewed_after, renewed_none, renewed_holds}
use Rattle.chain_arena.proofs.impl_arena_trait.ChainArenaArenaTrait.invalidate.Goals as goal

pub invariant_of-self : goal.invariant_of-self
invariant_of-self g c =
    renewed_holds (kind_by g.P.PtrKey g.P.Inx.InxKey g.P.Gen.GenKey) c.self.inside.arena c.invalidate.new.self c.args.p (value_within c.invalidate.result) c.invalidate.ensures.implementation c.invalidate.ensures.invalid c.self.invariant

pub returns : goal.returns
returns g c =
    let pointers = kind_by g.P.PtrKey g.P.Inx.InxKey g.P.Gen.GenKey in
    let a = c.self.inside.arena in
    let b = c.invalidate.new.self in
    let r = c.invalidate.result in
    let made = c.invalidate.ensures in
    rw (← c.self.view_is) (record {
      outcome = renews pointers a b c.args.p r made.outcome made.implementation;
      invalid = renewed_none pointers a b c.args.p (value_within r) made.invalid;
      implementation = renewed_after pointers a b c.args.p (value_within r) made.implementation;
    })
