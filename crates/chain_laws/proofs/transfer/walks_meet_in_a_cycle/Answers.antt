use Rattle.chain_laws.proofs.WalkLemmas.WalkBack.{on_begins, on_continues, walks_meet}
use Rattle.chain_laws.proofs.transfer.walks_meet_in_a_cycle.Goals as goal

pub returns : goal.returns
returns c = record { begins = on_begins; continues = on_continues; meet = walks_meet }
