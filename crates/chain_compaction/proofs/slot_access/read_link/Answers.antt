use Rattle.std.proofs.Common.{◌∙◌}
use Rattle.arena_traits.specs.Arena.{slot_at}
use Rattle.chain_compaction.proofs.SlotReadLemmas.{has_read, entry_reported, nothing_reported}
use Rattle.chain_compaction.proofs.slot_access.read_link.Goals as goal

pub returns-in-Some : goal.returns-in-Some
returns-in-Some g c =
    let reported = entry_reported g.P.Inx.InxKey.packed_number (c.in-Some.was.now, c.in-Some.link.now) (slot_at c.args.compactor.now.detached.slots (g.P.Inx.InxKey.number c.args.i)) c.in-Some.ensures.value in
    record {
      was_read = has_read c.args.compactor.now c.peek.follows.lender-at-none c.peek.follows.holds-at-none;
      generation = reported.0;
      prev = c.prev.ensures ∙ reported.1;
      next = c.next.ensures ∙ reported.2;
      destination = c.destination_of.ensures ∙ reported.3;
    }

pub returns-in-None : goal.returns-in-None
returns-in-None g c =
    let reported = nothing_reported g.P.Inx.InxKey.packed_number (slot_at c.args.compactor.now.detached.slots (g.P.Inx.InxKey.number c.args.i)) c.in-None.ensures.value in
    record { was_read = has_read c.args.compactor.now c.peek.follows.lender-at-none c.peek.follows.holds-at-none; generation = reported.0; prev = reported.1; next = reported.2; destination = reported.3 }
