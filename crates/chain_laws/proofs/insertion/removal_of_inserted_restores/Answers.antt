use Rattle.chain_laws.proofs.InsertionLemmas.Undo.{removed_of_inserted_restores}
use Rattle.chain_laws.proofs.insertion.removal_of_inserted_restores.Goals as goal

pub returns : goal.returns
returns c = removed_of_inserted_restores
