use Rattle.std.proofs.Common.{refl}
use Rattle.chain_arena.proofs.NewLinkLemmas.{found_inx}
use Rattle.chain_arena.proofs.chain_arena.ChainArena.named_inx.Goals as goal

pub returns : goal.returns
returns g c =
    let found = found_inx g.P.Inx.InxKey.packed_number c.self.inside.arena (g.P.Inx.InxKey.number c.args.i) c.link_at.result c.link_at.ensures in
    rw (← c.self.view_is) (record { some = found.0; link = found.1; index = refl })
