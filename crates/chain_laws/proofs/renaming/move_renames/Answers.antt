use Rattle.chain_laws.proofs.RenamingLemmas.Chains.{renamings_compose}
use Rattle.chain_laws.proofs.RenamingLemmas.Moves.{move_renames, neighbors_determine_a_move}
use Rattle.chain_laws.proofs.renaming.move_renames.Goals as goal

pub returns : goal.returns
returns c = (move_renames, neighbors_determine_a_move, renamings_compose)
