use Rattle.chain_laws.proofs.RenamingLemmas.HoleClosing.{gathering_begins, gathering_skips, gathering_continues, gathering_ends}
use Rattle.chain_laws.proofs.renaming.gathering_renumbers.Goals as goal

pub returns : goal.returns
returns c = record {
  begins = gathering_begins;
  skips = gathering_skips;
  continues = gathering_continues;
  ends = gathering_ends;
}
