use Rattle.std.proofs.Common.{◌≡◌, ◌⊎◌, inl, inr, ◌+◌, ◌-◌, ◌∙◌, length, refl, sym, ap, arith}
use Rattle.arena_traits.specs.Arena.{slot_at}
use Rattle.chain_compaction.specs.DetachedLinks.{link_map_in}
use Rattle.chain_compaction.specs.FoundStarts.{AreStarts, AreStartsOfFresh}
use Rattle.chain_compaction.proofs.SlotCountLemmas.{at_end}
use Rattle.chain_compaction.proofs.DetachedLinkLemmas.{work-touched, work-more}
use Rattle.chain_compaction.proofs.SlotReadLemmas.{fresh_read}
use Rattle.chain_compaction.proofs.ChainOrderLemmas.{order_begins, order_ends, order_full, order_skips, order_found, order_starts, order_known, order_can, order_continues}
use Rattle.chain_compaction.proofs.WorkCountLemmas.{counts_none, counts_on}
use Rattle.chain_compaction.proofs.assign_destinations.number_all.Given.{Over}
use Rattle.chain_compaction.proofs.assign_destinations.number_all.Goals.{After-read_ahead}
use Rattle.chain_compaction.proofs.assign_destinations.number_all.Goals as goal

pub loop-k-init : goal.loop-k-init
loop-k-init g c =
    let now = c.args.compactor.now in
    record {
      ready = c.requires.ready;
      order = order_begins g.P.Inx.InxKey.packed_number g.V.Visitor.sees g.P.PtrKey.key c.args.generation c.args.visitor now.detached now.arena.now c.requires.can.agree c.requires.can.at_rest.none c.new-ahead.result.credit (omega (arith, c.new-ahead.ensures.credit, c.slots.ensures));
      known = λ d some. absurd (some (c.new-ahead.ensures.starts d));
      counts = counts_none now;
    }

pub start_from-start-requires-clause-chain : goal.start_from-start-requires-clause-chain
start_from-start-requires-clause-chain g c =
    let old = c.args.compactor.now in
    let now = c.loop-k.compactor in
    let lookup = c.read_link-link.ensures in
    order_found g.P.Inx.InxKey.packed_number g.V.Visitor.sees g.P.PtrKey.key c.args.generation c.args.visitor old.detached old.arena.now c.loop-k.visitor now.detached now.arena.now c.loop-k.count c.loop-k.k c.loop-k.ahead.credit
    c.loop-k.invariant.order (g.P.Inx.InxKey.number c.inx_at-i.result) c.inx_at-i.ensures (sym (fresh_read g.P.Inx.InxKey.packed_number g.P.Inx.InxKey.number (slot_at now.detached.slots (g.P.Inx.InxKey.number c.inx_at-i.result)) c.read_link-link.result.generation c.read_link-link.result.destination lookup.generation lookup.destination) ∙ sym c.is_fresh.ensures ∙ c.if-not-is_fresh.false)
    c.read_ahead.new.compactor.detached (c.read_ahead.ensures.read.detached ∙ lookup.was_read.detached)

known_now : (g : Over) (c : After-read_ahead g) → AreStarts (link_map_in g.P.Inx.InxKey.packed_number c.args.compactor.now.detached.slots) c.read_ahead.new.ahead.first c.read_ahead.new.ahead.starts
known_now g c =
    let now = c.loop-k.compactor in
    let mid = c.read_link-link.new.compactor in
    order_starts g.P.Inx.InxKey.packed_number g.V.Visitor.sees g.P.PtrKey.key c.args.generation c.args.visitor c.args.compactor.now.detached c.args.compactor.now.arena.now c.loop-k.visitor now.detached now.arena.now c.loop-k.count c.loop-k.k c.loop-k.ahead.credit
    c.loop-k.invariant.order mid.detached c.read_link-link.ensures.was_read.detached c.loop-k.ahead.first c.read_ahead.new.ahead.first c.loop-k.ahead.starts c.read_ahead.new.ahead.starts c.loop-k.invariant.known
    (kept_or_found c.read_ahead.ensures.starts)
  where
    kept_or_found : (c.read_ahead.new.ahead ≡ c.loop-k.ahead) ⊎ AreStartsOfFresh g.P.Inx.InxKey.packed_number c.read_link-link.new.compactor.detached.slots c.read_ahead.new.ahead.first c.read_ahead.new.ahead.starts
        → ((c.read_ahead.new.ahead.first ≡ c.loop-k.ahead.first) × (c.read_ahead.new.ahead.starts ≡ c.loop-k.ahead.starts)) ⊎ AreStartsOfFresh g.P.Inx.InxKey.packed_number c.read_link-link.new.compactor.detached.slots c.read_ahead.new.ahead.first c.read_ahead.new.ahead.starts
    kept_or_found (inl same) = inl (ap (λ a. a.first) same, ap (λ a. a.starts) same)
    kept_or_found (inr found) = inr found

pub start_from-start-requires-clause-known : goal.start_from-start-requires-clause-known
start_from-start-requires-clause-known g c =
    let old = c.args.compactor.now in
    let now = c.loop-k.compactor in
    let lookup = c.read_link-link.ensures in
    order_known g.P.Inx.InxKey.packed_number g.V.Visitor.sees g.P.PtrKey.key c.args.generation c.args.visitor old.detached old.arena.now c.loop-k.visitor now.detached now.arena.now c.loop-k.count c.loop-k.k c.loop-k.ahead.credit
    c.loop-k.invariant.order (g.P.Inx.InxKey.number c.inx_at-i.result) c.inx_at-i.ensures (sym (fresh_read g.P.Inx.InxKey.packed_number g.P.Inx.InxKey.number (slot_at now.detached.slots (g.P.Inx.InxKey.number c.inx_at-i.result)) c.read_link-link.result.generation c.read_link-link.result.destination lookup.generation lookup.destination) ∙ sym c.is_fresh.ensures ∙ c.if-not-is_fresh.false)
    c.read_ahead.new.compactor.detached (c.read_ahead.ensures.read.detached ∙ lookup.was_read.detached)
    g.P.Inx.InxKey.number g.met.P.Inx.InxKey.at_least_one c.read_ahead.new.ahead.first c.read_ahead.new.ahead.starts c.start_of-known.result (known_now g (goal.at.start_from-start-requires-clause-known g c).After-read_ahead)
    c.start_of-known.ensures.first c.start_of-known.ensures.start

pub number_chain-visited-requires-clause-ready : goal.number_chain-visited-requires-clause-ready
number_chain-visited-requires-clause-ready g c = c.loop-k.invariant.ready

pub number_chain-visited-requires-clause-chain : goal.number_chain-visited-requires-clause-chain
number_chain-visited-requires-clause-chain g c =
    let old = c.args.compactor.now in
    let now = c.loop-k.compactor in
    let lookup = c.read_link-link.ensures in
    let start = c.start_from-start.ensures in
    record {
      fits =
          omega (
            arith,
            c.loop-k.invariant.order.relinked.long,
            ap (λ h. length h.slots) lookup.was_read.detached,
            ap (λ h. length h.slots) c.read_ahead.ensures.read.detached,
            ap (λ h. length h.slots) start.detached,
            c.requires.can.fits,
          );
      can =
          order_can g.P.Inx.InxKey.packed_number g.V.Visitor.sees g.P.PtrKey.key c.args.generation c.args.visitor old.detached old.arena.now c.loop-k.visitor now.detached now.arena.now c.loop-k.count c.loop-k.k c.loop-k.ahead.credit
          c.loop-k.invariant.order (g.P.Inx.InxKey.number c.inx_at-i.result) c.inx_at-i.ensures (sym (fresh_read g.P.Inx.InxKey.packed_number g.P.Inx.InxKey.number (slot_at now.detached.slots (g.P.Inx.InxKey.number c.inx_at-i.result)) c.read_link-link.result.generation c.read_link-link.result.destination lookup.generation lookup.destination) ∙ sym c.is_fresh.ensures ∙ c.if-not-is_fresh.false)
          c.read_ahead.new.compactor.detached (c.read_ahead.ensures.read.detached ∙ lookup.was_read.detached) c.start_from-start.new.compactor.detached start.detached (g.P.Inx.InxKey.number c.start_from-start.result.0) start.start;
    }

pub loop-k-preserved-then-not-is_fresh : goal.loop-k-preserved-then-not-is_fresh
loop-k-preserved-then-not-is_fresh g c =
    let at = c.loop-k.invariant in
    let lookup = c.read_link-link.ensures in
    let old = c.args.compactor.now in
    let now = c.loop-k.compactor in
    let mid = c.read_link-link.new.compactor in
    record {
      ready = at.ready;
      order = order_skips g.P.Inx.InxKey.packed_number g.V.Visitor.sees g.P.PtrKey.key c.args.generation c.args.visitor old.detached old.arena.now c.loop-k.visitor now.detached now.arena.now c.loop-k.count c.loop-k.k c.loop-k.ahead.credit
          at.order (g.P.Inx.InxKey.number c.inx_at-i.result) c.inx_at-i.ensures mid.detached mid.arena.now lookup.was_read.detached
          (sym (fresh_read g.P.Inx.InxKey.packed_number g.P.Inx.InxKey.number (slot_at now.detached.slots (g.P.Inx.InxKey.number c.inx_at-i.result)) c.read_link-link.result.generation c.read_link-link.result.destination lookup.generation lookup.destination) ∙ sym c.is_fresh.ensures ∙ c.if-not-is_fresh.true) (work-touched now.arena.now mid.arena.now lookup.was_read.arena);
      known = at.known;
      counts = counts_on old now mid at.counts lookup.was_read.counts;
    }

pub loop-k-preserved : goal.loop-k-preserved
loop-k-preserved g c =
    let at = c.loop-k.invariant in
    let lookup = c.read_link-link.ensures in
    let start = c.start_from-start.ensures in
    let chain = c.number_chain-visited.ensures in
    let old = c.args.compactor.now in
    let now = c.loop-k.compactor in
    let mid = c.read_link-link.new.compactor in
    let ahead = c.read_ahead.ensures in
    let behind = c.read_ahead.new.compactor in
    let reads = c.loop-k.ahead.credit - c.read_ahead.new.ahead.credit in
    let was_stored = c.start_from-start.new.compactor in
    let new = c.number_chain-visited.new.compactor in
    record {
      ready = chain.ready;
      order = order_continues g.P.Inx.InxKey.packed_number g.V.Visitor.sees g.P.PtrKey.key c.args.generation c.args.visitor old.detached old.arena.now c.loop-k.visitor now.detached now.arena.now c.loop-k.count c.loop-k.k c.loop-k.ahead.credit
          at.order (g.P.Inx.InxKey.number c.inx_at-i.result) c.inx_at-i.ensures
          (sym (fresh_read g.P.Inx.InxKey.packed_number g.P.Inx.InxKey.number (slot_at now.detached.slots (g.P.Inx.InxKey.number c.inx_at-i.result)) c.read_link-link.result.generation c.read_link-link.result.destination lookup.generation lookup.destination) ∙ sym c.is_fresh.ensures ∙ c.if-not-is_fresh.false)
          behind.detached (ahead.read.detached ∙ lookup.was_read.detached) was_stored.detached start.detached (g.P.Inx.InxKey.number c.start_from-start.result.0) start.start behind.arena.now was_stored.arena.now new.arena.now
          c.number_chain-visited.result.0 new.detached c.number_chain-visited.result.1 reads c.start_from-start.result.1 c.saturating_add.result
          (work-more (work-touched now.arena.now mid.arena.now lookup.was_read.arena) ahead.read.work 0 (1 + reads) refl (omega arith))
          (omega (arith, ahead.fewer, start.ahead, c.saturating_add.ensures, c.saturating_sub.ensures)) start.linear start.cyclic chain.chain.numbered;
      known = known_now g (goal.at.loop-k-preserved g c).After-read_ahead;
      counts = counts_on old now new at.counts (counts_on now mid new lookup.was_read.counts (counts_on mid behind new ahead.read.counts (counts_on behind was_stored new start.counts chain.chain.counts)));
    }

pub returns-then-count-links : goal.returns-then-count-links
returns-then-count-links g c =
    let at = c.loop-k.invariant in
    let old = c.args.compactor.now in
    let now = c.loop-k.compactor in
    record {
      ready = at.ready;
      links = record {
        numbered = order_full g.P.Inx.InxKey.packed_number g.V.Visitor.sees g.P.PtrKey.key c.args.generation c.args.visitor old.detached old.arena.now c.loop-k.visitor now.detached now.arena.now c.loop-k.count c.loop-k.k c.loop-k.ahead.credit
            at.order (c.if-count-links.true ∙ c.requires.can.links) (omega (arith, c.slots-k-end.ensures, c.loop-k.auto.k-end));
        counts = at.counts;
      };
    }

pub returns : goal.returns
returns g c =
    let at = c.loop-k.invariant in
    let old = c.args.compactor.now in
    let now = c.loop-k.compactor in
    record {
      ready = at.ready;
      links = record {
        numbered = order_ends g.P.Inx.InxKey.packed_number g.V.Visitor.sees g.P.PtrKey.key c.args.generation c.args.visitor old.detached old.arena.now c.loop-k.visitor now.detached now.arena.now c.loop-k.count c.loop-k.k c.loop-k.ahead.credit
            at.order (at_end c.loop-k.k c.slots-k-end.result (length old.detached.slots) c.slots-k-end.ensures c.loop-k.auto.k-end c.loop-k-test.false);
        counts = at.counts;
      };
    }
