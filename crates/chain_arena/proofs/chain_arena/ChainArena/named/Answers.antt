use Rattle.chain_arena.proofs.NewLinkLemmas.{found_ptr}
use Rattle.chain_arena.proofs.chain_arena.ChainArena.named.Goals as goal

pub returns : goal.returns
returns g c =
    let found = found_ptr g.P.Inx.InxKey.packed_number c.self.inside.arena (g.P.PtrKey.key c.args.p) c.get.result c.get.ensures.some c.get.ensures.value in
    rw (← c.self.view_is) (record { some = found.0; link = found.1; index = c.inx.ensures })
