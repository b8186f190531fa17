use Rattle.std.proofs.Common.{refl}
use Rattle.arena_traits.specs.Arena.{entry_at}
use Rattle.chain_links.specs.ChainArena.{values_of}
use Rattle.chain_arena.proofs.ValueLoanLemmas.{lent_some, lent_value}
use Rattle.chain_arena.proofs.impl_arena_trait.ChainArenaArenaTrait.get_mut.Goals as goal

pub returns-then-contains : goal.returns-then-contains
returns-then-contains g c =
    let entry = entry_at (values_of c.args.self.now) in
    let valid = c.contains.ensures.0 c.if-contains.true in (
      (refl, (λ w. rw (← c.inx.ensures) (c.get_inx_mut.follows.holds w)), c.get_inx_mut.follows.holds-at-none),
      record {
        writes_back = tt;
        some = (λ _. valid, λ _. lent_some entry _ _ c.get_inx_mut.result c.inx.ensures valid c.get_inx_mut.ensures.value);
        value = lent_value entry _ _ c.get_inx_mut.result c.inx.ensures valid c.get_inx_mut.ensures.value;
      },
    )
