use Rattle.std.proofs.Common.{sym, ◌∙◌, subst}
use Rattle.std.specs.Option.{option_map}
use Rattle.chain_links.specs.Links.{AreAtRest}
use Rattle.chain_links.proofs.RestLemmas.{placed_at_rest}
use Rattle.chain_compaction.proofs.DetachedLinkLemmas.{entry-view_after, move-values, move-links, work-moved}
use Rattle.chain_compaction.proofs.WorkCountLemmas.{counts_place, counts_on}
use Rattle.chain_compaction.proofs.compress.move_link.Goals as goal

pub move_to_free_slot-requires-clause-entry : goal.move_to_free_slot-requires-clause-entry
move_to_free_slot-requires-clause-entry g c =
    let lookup = c.read_link-link.ensures in
    entry-view_after c.args.compactor.now.detached c.read_link-link.new.compactor.detached (g.P.Inx.InxKey.number c.args.from) c.read_link-link.result.generation c.in-Some.was lookup.was_read.detached c.in-Some.is lookup.generation

pub returns : goal.returns
returns g c =
    let number = g.P.Inx.InxKey.number in
    let packed_number = g.P.Inx.InxKey.packed_number in
    let from = number c.args.from in
    let to = number c.args.to in
    let first = c.args.compactor.now in
    let was_read = c.read_link-link.new.compactor in
    let brought = c.move_to_free_slot.new.self in
    let known = c.set_neighbor.new.compactor in
    let last = c.set_neighbor-2.new.compactor in
    let lookup = c.read_link-link.ensures in
    let places = c.move_to_free_slot.ensures in
    let next = c.set_neighbor.ensures in
    let prev = c.set_neighbor-2.ensures in
    record {
      counts = counts_on first known last (counts_on first brought known (counts_on first was_read brought lookup.was_read.counts
          (counts_place was_read brought places.same_reference places.arena places.placed places.touched)) next.counts) prev.counts;
      returned = sym c.in-Some.is ∙ lookup.generation;
      values = move-values packed_number first.detached was_read.detached brought.detached known.detached last.detached from to c.args.generation lookup.was_read.detached places.detached next.values prev.values;
      moves = move-links packed_number first.detached was_read.detached brought.detached known.detached last.detached from to c.args.generation lookup.was_read.detached places.detached
          (option_map number c.index_now.result) (option_map number c.index_now-2.result) (option_map number c.read_link-link.result.prev) (option_map number c.read_link-link.result.next)
          (g.met.P.Inx.InxKey.at_least_one c.args.from) c.requires.from_within (g.met.P.Inx.InxKey.at_least_one c.args.to) c.requires.to_within
          lookup.prev lookup.next c.index_now.ensures c.index_now-2.ensures next.links prev.links;
      at_rest = λ rest. prev.at_rest (next.at_rest (subst (λ detached. AreAtRest packed_number detached.slots) (sym places.detached)
          (placed_at_rest packed_number was_read.detached.slots from to c.args.generation (subst (λ detached. AreAtRest packed_number detached.slots) (sym lookup.was_read.detached) rest))));
      work = work-moved lookup.was_read.arena places.arena next.work prev.work;
      none = tt;
    }

pub returns-in-None : goal.returns-in-None
returns-in-None g c =
    let lookup = c.read_link-link.ensures in
    record {
      counts = lookup.was_read.counts;
      returned = sym c.in-None.is ∙ lookup.generation;
      values = tt;
      moves = tt;
      at_rest = λ rest. subst (λ detached. AreAtRest g.P.Inx.InxKey.packed_number detached.slots) (sym lookup.was_read.detached) rest;
      work = tt;
      none = (lookup.was_read.detached, lookup.was_read.arena);
    }
