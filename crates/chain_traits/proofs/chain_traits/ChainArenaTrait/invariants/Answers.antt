use Rattle.chain_laws.proofs.ChainLemmas.Partitions.{one_set}
use Rattle.chain_traits.proofs.GenericArenaLemmas.{links_within}
use Rattle.chain_traits.proofs.chain_traits.ChainArenaTrait.invariants.Goals as goal

pub returns-clause-one : goal.returns-clause-one
returns-clause-one g c =
    let a = c.args.self.now in
    one_set (g.Self.ChainArenaTrait.interlinks a) g.P.Inx.InxKey.greatest c.agrees.ensures
    (links_within (g.Self.ChainArenaTrait.interlinks a) (g.Self.ArenaTrait.entry a) (g.Self.ArenaTrait.view a).entries (g.met.Self.ChainArenaTrait.links_are_entries a) (g.Self.ArenaTrait.state a).finds g.P.Inx.InxKey.greatest c.len.ensures.sound.indexes)
