use Rattle.chain_traits.proofs.GenericArenaLemmas.{entry_valid}
use Rattle.chain_traits.proofs.AdvancerWalkLemmas.{passes_walk}
use Rattle.chain_traits.proofs.walks.advancer_passes_the_walk.Goals as goal

pub returns : goal.returns
returns g c valid =
    let a = c.args.arena.now in
    let links = g.A.ChainArenaTrait.interlinks a in
    let entry = g.A.ArenaTrait.entry a in
    let es = (g.A.ArenaTrait.view a).entries in
    let stored = g.met.A.ChainArenaTrait.links_are_entries a in
    let was_read = (g.A.ArenaTrait.state a).finds in
    let i = (g.P.PtrKey.key c.args.p).0 in
    passes_walk links entry es stored was_read g.P.Inx.InxKey.greatest i c.invariants.ensures.agree c.invariants.ensures.sound.indexes (entry_valid links entry es stored was_read i _ valid.stored)
