use Rattle.chain_laws.proofs.RenamingLemmas.Positions.{arrangement_numbers, places_are_apart}
use Rattle.chain_laws.proofs.renaming.arrangement_numbers.Goals as goal

pub returns : goal.returns
returns c = (arrangement_numbers, places_are_apart)
