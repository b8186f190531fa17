use Rattle.std.proofs.Common.{Some}
use Rattle.std.specs.Option.{option_map}
use Rattle.chain_compaction.proofs.DestinationWriteLemmas.{links_both, links_none}
use Rattle.chain_compaction.proofs.LinkLoanLemmas.{lent, lent_none}
use Rattle.chain_compaction.proofs.slot_access.relink_at.Goals as goal

pub returns-in-Some : goal.returns-in-Some
returns-in-Some g c =
    let number = g.P.Inx.InxKey.number in
    let i = number c.args.i in
    let old = c.args.compactor.now in
    let link = c.in-Some.link.now in
    let before = c.set_prev.new.link in
    let after = c.set_next.new.link in
    let left = c.set_destination.new.link in
    let new = c.value_mut.follows.lender left in
    let wrote = lent old new i c.value_mut.result c.in-Some.link left c.in-Some.is c.value_mut.ensures.value (c.value_mut.follows.holds left) in
    record {
      relinked = links_both g.P.Inx.InxKey.packed_number i (option_map number c.args.prev) (option_map number c.args.next) (Some (number c.args.destination)) old.detached new.detached link before after left wrote.stored wrote.detached
          c.set_prev.ensures.prev c.set_prev.ensures.rest c.set_next.ensures.next c.set_next.ensures.rest c.set_destination.ensures.destination c.set_destination.ensures.rest;
      touched = record { arena = wrote.arena; counts = wrote.counts };
    }

pub returns-in-None : goal.returns-in-None
returns-in-None g c =
    let number = g.P.Inx.InxKey.number in
    let i = number c.args.i in
    let old = c.args.compactor.now in
    let new = c.value_mut.follows.lender-at-none in
    let kept = lent_none old new i c.value_mut.result c.in-None.is c.value_mut.ensures.value c.value_mut.follows.holds-at-none in
    record {
      relinked = links_none g.P.Inx.InxKey.packed_number i (option_map number c.args.prev) (option_map number c.args.next) (Some (number c.args.destination)) old.detached new.detached kept.detached kept.none;
      touched = record { arena = kept.arena; counts = kept.counts };
    }
