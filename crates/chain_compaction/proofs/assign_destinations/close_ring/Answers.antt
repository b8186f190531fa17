use Rattle.std.proofs.Common.{ap}
use Rattle.std.specs.Option.{option_map}
use Rattle.chain_compaction.proofs.DestinationWriteLemmas.{closes}
use Rattle.chain_compaction.proofs.DetachedLinkLemmas.{work-touched}
use Rattle.chain_compaction.proofs.LinkLoanLemmas.{lent, lent_none}
use Rattle.chain_compaction.proofs.assign_destinations.close_ring.Goals as goal

pub returns-in-Some-value_mut : goal.returns-in-Some-value_mut
returns-in-Some-value_mut g c =
    let number = g.P.Inx.InxKey.number in
    let i = number c.args.start in
    let old = c.args.compactor.now in
    let link = c.in-Some-value_mut.link.now in
    let left = c.set_prev.new.link in
    let new = c.value_mut.follows.lender left in
    let wrote = lent old new i c.value_mut.result c.in-Some-value_mut.link left c.in-Some-value_mut.is c.value_mut.ensures.value (c.value_mut.follows.holds left) in
    record {
      closed = closes g.P.Inx.InxKey.packed_number i (option_map number c.args.named) (option_map number c.args.last) old.detached new.detached (number c.in-Some.field-0) (ap (option_map number) c.in-Some.is)
          link left wrote.stored wrote.detached c.set_prev.ensures.prev c.set_prev.ensures.rest;
      work = work-touched old.arena.now new.arena.now wrote.arena;
      counts = wrote.counts;
    }

pub returns-in-None-value_mut-clause-counts : goal.returns-in-None-value_mut-clause-counts
returns-in-None-value_mut-clause-counts g c =
    let old = c.args.compactor.now in
    let new = c.value_mut.follows.lender-at-none in
    (lent_none old new (g.P.Inx.InxKey.number c.args.start) c.value_mut.result c.in-None-value_mut.is c.value_mut.ensures.value c.value_mut.follows.holds-at-none).counts
