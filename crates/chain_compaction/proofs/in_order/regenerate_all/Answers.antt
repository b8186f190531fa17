use Rattle.std.proofs.Common.{◌≡◌, ◌+◌, length, refl, sym, subst, arith}
use Rattle.arena_traits.specs.Arena.{slot_at}
use Rattle.chain_links.specs.ChainArena.{ptr_at}
use Rattle.chain_links.specs.Links.{AreAtRest}
use Rattle.chain_links.proofs.RestLemmas.{placed_at_rest}
use Rattle.chain_compaction.proofs.ChainDestinationLemmas.{reports_none}
use Rattle.chain_compaction.proofs.DetachedLinkLemmas.{work-none, work-touched, work-with_placed_entry, work-more}
use Rattle.chain_compaction.proofs.OrderedLinkLemmas.{renewed_begins, renewed_continues, renewed_read, stored_in_order, reports_more, all_renewed}
use Rattle.chain_compaction.proofs.WorkCountLemmas.{counts_none, counts_place, counts_on}
use Rattle.chain_compaction.proofs.in_order.regenerate_all.Goals as goal

pub loop-k-init : goal.loop-k-init
loop-k-init g c =
    let now = c.args.compactor.now in
    record {
      ready = c.requires.ready;
      renewed = renewed_begins c.args.generation now.detached;
      reports = reports_none g.V.Visitor.sees g.P.PtrKey.key (ptr_at (slot_at now.detached.slots)) c.args.generation 1 c.args.visitor;
      at_rest = λ rest. rest;
      work = work-none now.arena.now 0;
      counts = counts_none now;
    }

pub proved_unreachable-assume_proved-requires : goal.proved_unreachable-assume_proved-requires
proved_unreachable-assume_proved-requires g c = absurd (
    stored_in_order g.P.Inx.InxKey.packed_number c.args.generation c.args.compactor.now.detached c.loop-k.compactor.detached c.loop-k.k (g.P.Inx.InxKey.number c.inx_at-i.result) c.read_link.result.generation c.inx_at-i.ensures (omega arith)
    c.requires.can.canonical c.loop-k.invariant.renewed c.in-None.is c.read_link.ensures.generation)

pub loop-k-preserved : goal.loop-k-preserved
loop-k-preserved g c =
    let inv = c.loop-k.invariant in
    let lookup = c.read_link.ensures in
    let old = c.args.compactor.now in
    let now = c.loop-k.compactor in
    let read = c.read_link.new.compactor in
    let new = c.place.new.self in
    let number = g.P.Inx.InxKey.packed_number in
    let i = g.P.Inx.InxKey.number c.inx_at-i.result in
    record {
      ready = c.visit.ensures.ready;
      renewed = renewed_continues c.args.generation old.detached now.detached read.detached new.detached c.loop-k.k i c.inx_at-i.ensures (omega arith) inv.renewed lookup.was_read.detached c.place.ensures.detached;
      reports = reports_more g.V.Visitor.sees g.P.PtrKey.key (ptr_at (slot_at old.detached.slots)) c.args.generation c.args.visitor c.loop-k.visitor c.visit.new.self c.loop-k.k i c.in-Some.was c._from_raw.result c._from_raw-in-Some.result c.inx_at-i.ensures
          inv.reports c._from_raw.ensures (renewed_read c.args.generation old.detached now.detached c.loop-k.k i c.read_link.result.generation c.in-Some.was c.inx_at-i.ensures inv.renewed c.in-Some.is lookup.generation) c._from_raw-in-Some.ensures c.visit.ensures.view_after;
      at_rest = λ rest. subst (λ detached. AreAtRest number detached.slots) (sym c.place.ensures.detached)
          (placed_at_rest number read.detached.slots i i c.args.generation (subst (λ detached. AreAtRest number detached.slots) (sym lookup.was_read.detached) (inv.at_rest rest)));
      work = work-more inv.work (work-more (work-touched now.arena.now read.arena.now lookup.was_read.arena) (work-with_placed_entry read.arena.now new.arena.now c.place.ensures.arena) 1 1 refl (omega arith))
          (c.loop-k.k + 1) (c.loop-k.k + 1) refl (omega arith);
      counts = counts_on old now new inv.counts (counts_on now read new lookup.was_read.counts
          (counts_place read new c.place.ensures.same_reference c.place.ensures.arena c.place.ensures.placed c.place.ensures.touched));
    }

pub returns-clause-links : goal.returns-clause-links
returns-clause-links g c =
    let inv = c.loop-k.invariant in
    let old = c.args.compactor.now in
    let now = c.loop-k.compactor in
    let slots = length old.detached.slots in
    let all : c.loop-k.k ≡ slots = omega arith in
    record {
      placed =
          all_renewed g.P.Inx.InxKey.packed_number g.V.Visitor.sees g.P.PtrKey.key c.args.generation c.args.visitor c.loop-k.visitor old.detached now.detached old.arena.now now.arena.now c.requires.can.agree c.requires.can.canonical
          c.loop-k.k c.slots-slots.result all c.slots-slots.ensures inv.renewed inv.reports inv.work;
      at_rest = inv.at_rest;
      counts = inv.counts;
    }
