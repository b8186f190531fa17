use Rattle.std.proofs.Common.{◌≡◌, subst}
use Rattle.std.specs.Prelude.{OnSome}
use Rattle.arena_core.specs.Invalidation.{value_within}
use Rattle.arena_core.proofs.PointerKindLemmas.{kind_by}
use Rattle.chain_arena.specs.Effects.{IsRemoval}
use Rattle.chain_arena.proofs.LinkRemovalLemmas.{value_removed, none_with_value, some_with_value}
use Rattle.chain_arena.proofs.impl_arena_trait.ChainArenaArenaTrait.remove.Goals as goal

pub returns-then-contains : goal.returns-then-contains
returns-then-contains g c =
    let a = c.args.self.now in
    let b = c.unlink.new.self in
    let r = c.unlink.result in
    let made = c.unlink.ensures in
    rw c.value_alone.ensures (record {
      outcome = value_removed (kind_by g.P.PtrKey g.P.Inx.InxKey g.P.Gen.GenKey) a b c.args.p (c.contains.ensures.0 c.if-contains.true) c.inx.result r c.inx.ensures made.0;
      invalid = none_with_value (λ e. e.1.t) (b ≡ a) r made.1;
      implementation = some_with_value (λ e. e.1.t) (IsRemoval g.P.Gen.GenKey.following a (g.P.PtrKey.key c.args.p).0 b) r (subst (λ i. OnSome (value_within r) (IsRemoval g.P.Gen.GenKey.following a i b)) c.inx.ensures made.2);
    })
