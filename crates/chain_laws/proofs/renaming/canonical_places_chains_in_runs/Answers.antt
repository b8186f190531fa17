use Rattle.chain_laws.proofs.RenamingLemmas.ChainRuns.{canonical_arranges, arranges_chains_in_runs, runs_are_renumbered}
use Rattle.chain_laws.proofs.renaming.canonical_places_chains_in_runs.Goals as goal

pub returns : goal.returns
returns c = (canonical_arranges, arranges_chains_in_runs, runs_are_renumbered)
