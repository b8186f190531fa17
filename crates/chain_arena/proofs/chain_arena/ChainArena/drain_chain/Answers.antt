use Rattle.std.proofs.Common.{refl, ◌∙◌}
use Rattle.chain_arena.proofs.ChainDrainLemmas.{nonzero_index-is, walk_left-valid}
use Rattle.chain_arena.proofs.chain_arena.ChainArena.drain_chain.Goals as goal

pub returns : goal.returns
returns g c =
    let valid = c.contains.ensures.0 c.if-not-contains.false in (
      (refl, λ w. refl, tt),
      record {
        unchanged_at_none = tt;
        drain = (
          valid,
          refl,
          refl,
          nonzero_index-is c.number_or_zero-at.result _ c.number_or_zero-at.ensures.index ∙ c.inx.ensures,
          walk_left-valid c.args.self.now (g.P.PtrKey.key c.args.p) c.invariants.ensures.agree valid,
        );
      },
    )
