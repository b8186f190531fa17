use Rattle.arena_traits.proofs.EntryChangeLemmas.{value_there, values_elsewhere}
use Rattle.arena_traits.proofs.entry_laws.writes_change_one_value.Goals as goal

pub returns-clause-there : goal.returns-clause-there
returns-clause-there g c a b i t written = value_there g.A.ArenaTrait.state a b i t written

pub returns-clause-elsewhere : goal.returns-clause-elsewhere
returns-clause-elsewhere g c a b i j t written = values_elsewhere g.A.ArenaTrait.state a b i t written j
