use Rattle.std.proofs.Common.{ap, sym, ◌∙◌}
use Rattle.arena_traits.specs.Entries.{found}
use Rattle.arena_traits.proofs.EntryChangeLemmas.{entry_gone, entry_kept}
use Rattle.arena_traits.proofs.entry_laws.entries_determine_occupancy.Goals as goal

pub returns-clause-same : goal.returns-clause-same
returns-clause-same g c a b i is =
    sym ((g.A.ArenaTrait.state b).finds i) ∙ (ap (found i) is ∙ (g.A.ArenaTrait.state a).finds i)

pub returns-clause-gone : goal.returns-clause-gone
returns-clause-gone g c a b i removed = entry_gone g.A.ArenaTrait.state a b i removed

pub returns-clause-kept : goal.returns-clause-kept
returns-clause-kept g c a b i j removed other = entry_kept g.A.ArenaTrait.state a b i removed j other
