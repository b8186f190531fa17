use Rattle.std.specs.Prelude.{None}
use Rattle.chain_compaction.proofs.DestinationWriteLemmas.{directs}
use Rattle.chain_compaction.proofs.LinkLoanLemmas.{lent}
use Rattle.chain_compaction.proofs.slot_access.remove_destination_at.Goals as goal

pub returns : goal.returns
returns g c =
    let i = g.P.Inx.InxKey.number c.args.i in
    let old = c.args.compactor.now in
    let link = c.in-Some.link.now in
    let left = c.set_destination.new.link in
    let new = c.value_mut.follows.lender left in
    let sets = c.set_destination.ensures in
    let wrote = lent old new i c.value_mut.result c.in-Some.link left c.in-Some.is c.value_mut.ensures.value (c.value_mut.follows.holds left) in
    record {
      directed = directs g.P.Inx.InxKey.packed_number i None old.detached new.detached link left wrote.stored wrote.detached sets.destination sets.rest;
      touched = record { arena = wrote.arena; counts = wrote.counts };
    }
