use Rattle.chain_laws.proofs.WalkLemmas.WalkBack.{back_begins, back_continues, back_ends, back_wraps_around, back_is_short}
use Rattle.chain_laws.proofs.transfer.walk_back_finds_the_start.Goals as goal

pub returns : goal.returns
returns c = record { begins = back_begins; continues = back_continues; ends = back_ends; is_cyclic = back_wraps_around; is_short = back_is_short }
