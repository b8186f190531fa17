use Rattle.chain_laws.proofs.RenamingLemmas.Chains.{renaming_agrees, renaming_carries_pairs, renaming_carries_chains, renaming_carries_all, renaming_is_determined}
use Rattle.chain_laws.proofs.renaming.renaming_carries.Goals as goal

pub returns : goal.returns
returns c = record {
  agrees = renaming_agrees;
  pairs = renaming_carries_pairs;
  chains = renaming_carries_chains;
  all = renaming_carries_all;
  determined = renaming_is_determined;
}
