use Rattle.chain_links.proofs.OccupiedIndexLemmas.{occupied_fit}
use Rattle.chain_links.proofs.arena_laws.distinct_entries_fit.Goals as goal

pub returns : goal.returns
returns g c = occupied_fit g.A.ArenaTrait.state
