use Rattle.std.proofs.Common.{refl, of_calls}
use Rattle.arena_base.proofs.HoleClosingLemmas.{closing_begins}
use Rattle.chain_links.proofs.ArenaInsertionLemmas.{slots-within}
use Rattle.chain_compaction.specs.DetachedLinks.{slot_values, body_interlinks}
use Rattle.chain_compaction.proofs.DetachedLinkLemmas.{work-none}
use Rattle.chain_compaction.proofs.LinkCompressionLemmas.{gathered_begins}
use Rattle.chain_compaction.proofs.LinkLoanLemmas.{lent, lent_none, overwritten_rests}
use Rattle.chain_compaction.proofs.CompressionStepLemmas.{from_within, to_within, free_to, passes, skips, capacity_kept, maximum_kept, stored_there, moves_next, arrives, capacity_on, maximum_on, ends_closed, ends_packed, ends_visits, ends_renamed, ends_work, work_skips, work_moves_next}
use Rattle.chain_compaction.proofs.WorkCountLemmas.{counts_none, counts_on}
use Rattle.chain_compaction.proofs.compress.compact_links.Goals as goal

pub loop-k-init : goal.loop-k-init
loop-k-init g c =
    let number = g.P.Inx.InxKey.packed_number in
    let old = c.args.compactor.now in
    record {
      callable = c.requires.callable;
      counts = counts_none old;
      capacity = refl;
      maximum = refl;
      closing = closing_begins g.F.FnMut g.P.PtrKey.key c.args.generation c.args.map (slot_values old.detached.slots);
      gathered = gathered_begins number old.detached.slots c.requires.sound.agree (slots-within (body_interlinks number) old.detached.slots);
      at_rest = λ rest. rest;
      work = work-none old.arena.now 0;
    }

pub move_link-requires : goal.move_link-requires
move_link-requires g c =
    let key = g.P.PtrKey.key in
    let number = g.P.Inx.InxKey.packed_number in
    let at = c.loop-k.invariant in
    let old = c.args.compactor.now.detached in
    let now = c.loop-k.compactor.detached in
    let from = g.P.Inx.InxKey.number c.inx_at-from.result in
    let to = g.P.Inx.InxKey.number c.inx_at-to.result in
    record {
      from_within = from_within g.F.FnMut key c.args.generation number c.args.map c.loop-k.map old now c.requires.sound.agree c.loop-k.k c.loop-k.count at.closing at.gathered c.slots-k-end.result c.slots-k-end.ensures c.loop-k-test.true from c.inx_at-from.ensures;
      to_within = to_within g.F.FnMut key c.args.generation number c.args.map c.loop-k.map old now c.requires.sound.agree c.loop-k.k c.loop-k.count at.closing at.gathered c.slots-k-end.result c.slots-k-end.ensures c.loop-k-test.true from c.inx_at-from.ensures
          to c.inx_at-to.ensures;
      free = free_to g.F.FnMut key c.args.generation number c.args.map c.loop-k.map old now c.requires.sound.agree c.loop-k.k c.loop-k.count at.closing at.gathered c.slots-k-end.result c.slots-k-end.ensures c.loop-k-test.true from c.inx_at-from.ensures
          to c.inx_at-to.ensures;
    }

pub proved_unreachable-assume_proved-requires : goal.proved_unreachable-assume_proved-requires
proved_unreachable-assume_proved-requires g c = absurd (
    let mid = c.move_link.new.compactor.detached in
    stored_there g.F.FnMut g.P.PtrKey.key c.args.generation g.P.Inx.InxKey.packed_number c.args.map c.loop-k.map c.args.compactor.now.detached c.loop-k.compactor.detached c.requires.sound.agree c.loop-k.k c.loop-k.count
    c.loop-k.invariant.closing c.loop-k.invariant.gathered c.slots-k-end.result c.slots-k-end.ensures c.loop-k-test.true (g.P.Inx.InxKey.number c.inx_at-from.result) c.inx_at-from.ensures (g.P.Inx.InxKey.number c.inx_at-to.result) c.inx_at-to.ensures c.in-Some.was
    c.in-Some.ensures.returned mid c.in-Some.ensures.values
    (lent_none c.move_link.new.compactor c.value_mut.follows.lender-at-none (g.P.Inx.InxKey.number c.inx_at-to.result) c.value_mut.result c.in-None-value_mut.is c.value_mut.ensures.value c.value_mut.follows.holds-at-none).none)

pub loop-k-preserved-in-None : goal.loop-k-preserved-in-None
loop-k-preserved-in-None g c =
    let key = g.P.PtrKey.key in
    let number = g.P.Inx.InxKey.packed_number in
    let at = c.loop-k.invariant in
    let old = c.args.compactor.now in
    let now = c.loop-k.compactor in
    let mid = c.move_link.new.compactor in
    let made = c.move_link.ensures in
    let from = g.P.Inx.InxKey.number c.inx_at-from.result in
    record {
      callable = at.callable;
      counts = counts_on old now mid at.counts made.counts;
      capacity = capacity_kept g.F.FnMut key c.args.generation number c.args.map c.loop-k.map old.detached now.detached c.requires.sound.agree c.loop-k.k c.loop-k.count at.closing at.gathered c.slots-k-end.result c.slots-k-end.ensures c.loop-k-test.true from c.inx_at-from.ensures
          c.move_link.result c.in-None.is made.returned mid.detached c.in-None.ensures.none.0 at.capacity;
      maximum = maximum_kept g.F.FnMut key c.args.generation number c.args.map c.loop-k.map old.detached now.detached c.requires.sound.agree c.loop-k.k c.loop-k.count at.closing at.gathered c.slots-k-end.result c.slots-k-end.ensures c.loop-k-test.true from c.inx_at-from.ensures
          c.move_link.result c.in-None.is made.returned mid.detached c.in-None.ensures.none.0 at.maximum;
      closing = passes g.F.FnMut key c.args.generation number c.args.map c.loop-k.map old.detached now.detached c.requires.sound.agree c.loop-k.k c.loop-k.count at.closing at.gathered c.slots-k-end.result c.slots-k-end.ensures c.loop-k-test.true from c.inx_at-from.ensures
          c.move_link.result c.in-None.is made.returned mid.detached c.in-None.ensures.none.0;
      gathered = skips g.F.FnMut key c.args.generation number c.args.map c.loop-k.map old.detached now.detached c.requires.sound.agree c.loop-k.k c.loop-k.count at.closing at.gathered c.slots-k-end.result c.slots-k-end.ensures c.loop-k-test.true from c.inx_at-from.ensures
          c.move_link.result c.in-None.is made.returned mid.detached c.in-None.ensures.none.0;
      at_rest = λ rest. made.at_rest (at.at_rest rest);
      work = work_skips old.arena.now now.arena.now mid.arena.now c.loop-k.k c.loop-k.count at.work c.in-None.ensures.none.1;
    }

pub loop-k-preserved : goal.loop-k-preserved
loop-k-preserved g c =
    let key = g.P.PtrKey.key in
    let number = g.P.Inx.InxKey.packed_number in
    let at = c.loop-k.invariant in
    let old = c.args.compactor.now in
    let now = c.loop-k.compactor in
    let mid = c.move_link.new.compactor in
    let link = c.in-Some-value_mut.link.now in
    let value = c.map.new.arg3 in
    let left = record link { t = value } in
    let new = c.value_mut.follows.lender left in
    let from = g.P.Inx.InxKey.number c.inx_at-from.result in
    let to = g.P.Inx.InxKey.number c.inx_at-to.result in
    let moves = c.in-Some.ensures in
    let wrote = lent mid new to c.value_mut.result c.in-Some-value_mut.link left c.in-Some-value_mut.is c.value_mut.ensures.value (c.value_mut.follows.holds left) in
    record {
      callable = search of_calls;
      counts = counts_on old mid new (counts_on old now mid at.counts moves.counts) wrote.counts;
      capacity = capacity_on g.F.FnMut key c.args.generation number c.args.map c.loop-k.map old.detached now.detached c.requires.sound.agree c.loop-k.k c.loop-k.count at.closing at.gathered c.slots-k-end.result c.slots-k-end.ensures c.loop-k-test.true from c.inx_at-from.ensures
          to c.inx_at-to.ensures c.in-Some.was moves.returned mid.detached moves.values new.detached link value wrote.stored wrote.detached at.capacity;
      maximum = maximum_on g.F.FnMut key c.args.generation number c.args.map c.loop-k.map old.detached now.detached c.requires.sound.agree c.loop-k.k c.loop-k.count at.closing at.gathered c.slots-k-end.result c.slots-k-end.ensures c.loop-k-test.true from c.inx_at-from.ensures
          to c.inx_at-to.ensures c.in-Some.was moves.returned mid.detached moves.values new.detached link value wrote.stored wrote.detached at.maximum;
      closing = moves_next g.F.FnMut key c.args.generation number c.args.map c.loop-k.map old.detached now.detached c.requires.sound.agree c.loop-k.k c.loop-k.count at.closing at.gathered c.slots-k-end.result c.slots-k-end.ensures c.loop-k-test.true from c.inx_at-from.ensures
          to c.inx_at-to.ensures c.in-Some.was moves.returned mid.detached moves.values new.detached link value wrote.stored wrote.detached
          c._from_raw.result c._from_raw-in-Some-value_mut.result c.map.new.self c._from_raw.ensures c._from_raw-in-Some-value_mut.ensures
          (record { lent = _; lends = refl; back = _; called = c.map.ensures; leaves = refl });
      gathered = arrives g.F.FnMut key c.args.generation number c.args.map c.loop-k.map old.detached now.detached c.requires.sound.agree c.loop-k.k c.loop-k.count at.closing at.gathered c.slots-k-end.result c.slots-k-end.ensures c.loop-k-test.true from c.inx_at-from.ensures
          to c.inx_at-to.ensures c.in-Some.was moves.returned mid.detached moves.values new.detached link value wrote.stored wrote.detached moves.moves;
      at_rest = λ rest. overwritten_rests number mid new to link left wrote refl (moves.at_rest (at.at_rest rest));
      work = work_moves_next old.arena.now now.arena.now mid.arena.now c.loop-k.k c.loop-k.count at.work new.arena.now moves.work wrote.arena;
    }

pub returns : goal.returns
returns g c =
    let key = g.P.PtrKey.key in
    let number = g.P.Inx.InxKey.packed_number in
    let old = c.args.compactor.now in
    let now = c.loop-k.compactor in
    let inv = c.loop-k.invariant in
    record {
      counts = inv.counts;
      closed = ends_closed g.F.FnMut key c.args.generation number c.args.map c.loop-k.map old.detached now.detached c.requires.sound.agree c.loop-k.k c.loop-k.count inv.closing inv.gathered c.slots-k-end.result c.slots-k-end.ensures c.loop-k.auto.k-end c.loop-k-test.false inv.capacity inv.maximum;
      packed = ends_packed g.F.FnMut key c.args.generation number c.args.map c.loop-k.map old.detached now.detached c.requires.sound.agree c.loop-k.k c.loop-k.count inv.closing inv.gathered c.slots-k-end.result c.slots-k-end.ensures c.loop-k.auto.k-end c.loop-k-test.false;
      visits = ends_visits g.F.FnMut key c.args.generation number c.args.map c.loop-k.map old.detached now.detached c.requires.sound.agree c.loop-k.k c.loop-k.count inv.closing inv.gathered c.slots-k-end.result c.slots-k-end.ensures c.loop-k.auto.k-end c.loop-k-test.false;
      renamed = ends_renamed g.F.FnMut key c.args.generation number c.args.map c.loop-k.map old.detached now.detached c.requires.sound.agree c.loop-k.k c.loop-k.count inv.closing inv.gathered c.slots-k-end.result c.slots-k-end.ensures c.loop-k.auto.k-end c.loop-k-test.false;
      at_rest = inv.at_rest;
      work = ends_work g.F.FnMut key c.args.generation number c.args.map c.loop-k.map old.detached now.detached c.requires.sound.agree c.loop-k.k c.loop-k.count inv.closing inv.gathered c.slots-k-end.result c.slots-k-end.ensures c.loop-k.auto.k-end c.loop-k-test.false old.arena.now now.arena.now inv.work;
    }
