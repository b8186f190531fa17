use Rattle.chain_laws.proofs.ChainLemmas.Frame.{insertion_keeps_others, insertion_makes_no_others, lone_keeps_each}
use Rattle.chain_laws.proofs.frame.insertion_keeps_others.Goals as goal

pub returns-clause-kept : goal.returns-clause-kept
returns-clause-kept g c = insertion_keeps_others g.row.P.Denot g.row.I.Denot

pub returns-clause-no_others : goal.returns-clause-no_others
returns-clause-no_others g c = insertion_makes_no_others

pub returns-clause-lone : goal.returns-clause-lone
returns-clause-lone g c = lone_keeps_each
