use Rattle.chain_linking.proofs.ConnectionLemmas.{same_valid}
use Rattle.chain_arena.proofs.impl_arena_trait.ChainArenaArenaTrait.contains.Goals as goal

pub returns : goal.returns
returns g c =
    let same = same_valid g.P.Inx.InxKey.packed_number c.self.inside.arena (g.P.PtrKey.key c.args.p) in
    rw (← c.self.view_is) (λ h. same.0 (c.contains.ensures.0 h), λ valid. c.contains.ensures.1 (same.1 valid))
