use Rattle.std.proofs.Common.{◌≡◌}
use Rattle.arena_core.proofs.PointerKindLemmas.{kind_by}
use Rattle.chain_arena.specs.Effects.{IsRemoval}
use Rattle.chain_arena.proofs.LinkRemovalLemmas.{value_removed_at, none_with_value, some_with_value}
use Rattle.chain_arena.proofs.impl_arena_trait.ChainArenaArenaTrait.remove_inx.Goals as goal

pub returns : goal.returns
returns g c =
    let r = c.unlink.result in
    let made = c.unlink.ensures in
    rw c.value_with_generation.ensures (record {
      outcome = value_removed_at (kind_by g.P.PtrKey g.P.Inx.InxKey g.P.Gen.GenKey) c.args.self.now c.unlink.new.self c.args.i r made.0;
      invalid = none_with_value (λ e. (e.0, e.1.t)) (c.unlink.new.self ≡ c.args.self.now) r made.1;
      implementation = some_with_value (λ e. (e.0, e.1.t)) (IsRemoval g.P.Gen.GenKey.following c.args.self.now (g.P.Inx.InxKey.number c.args.i) c.unlink.new.self) r made.2;
    })
