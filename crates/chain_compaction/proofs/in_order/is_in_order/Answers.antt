use Rattle.std.proofs.Common.{◌≡◌, ◌+◌, false, length, arith}
use Rattle.chain_compaction.specs.DetachedLinks.{link_map_in}
use Rattle.chain_compaction.proofs.ReadAheadLemmas.{reads_none, reads_few, reads_more}
use Rattle.chain_compaction.proofs.OrderedRunLemmas.{runs_begin, runs_read, runs_checked}
use Rattle.chain_compaction.proofs.in_order.is_in_order.Goals as goal

pub loop-k-init : goal.loop-k-init
loop-k-init g c =
    let now = c.args.compactor.now in
    record { read = reads_none now; runs = runs_begin (link_map_in g.P.Inx.InxKey.packed_number now.detached.slots) false }

pub returns-in-None-clause-read : goal.returns-in-None-clause-read
returns-in-None-clause-read g c =
    let old = c.args.compactor.now in
    reads_few old c.read_link-link.new.compactor (c.loop-k.k + 1) c.args.links (reads_more old c.loop-k.compactor c.read_link-link.new.compactor c.loop-k.k c.loop-k.invariant.read c.read_link-link.ensures.was_read) (omega arith)

pub returns-in-None-start_after-clause-read : goal.returns-in-None-start_after-clause-read
returns-in-None-start_after-clause-read g c =
    let old = c.args.compactor.now in
    reads_few old c.read_link-link.new.compactor (c.loop-k.k + 1) c.args.links (reads_more old c.loop-k.compactor c.read_link-link.new.compactor c.loop-k.k c.loop-k.invariant.read c.read_link-link.ensures.was_read) (omega arith)

pub loop-k-preserved : goal.loop-k-preserved
loop-k-preserved g c =
    let number = g.P.Inx.InxKey.number in
    let packed_number = g.P.Inx.InxKey.packed_number in
    let old = c.args.compactor.now in
    let now = c.loop-k.compactor in
    let inv = c.loop-k.invariant in
    let lookup = c.read_link-link.ensures in
    let ring = c.is_cyclic_at-is_cyclic in
    record {
      read = reads_more old now c.read_link-link.new.compactor c.loop-k.k inv.read lookup.was_read;
      runs =
          runs_read packed_number old.detached now.detached c.requires.agree c.loop-k.start c.loop-k.k c.loop-k.is_cyclic ring.result inv.runs inv.read.detached (number c.inx_at.result) c.inx_at.ensures
          c.read_link-link.result.generation c.in-Some.field-0 c.in-Some.is lookup.generation number c.read_link-link.result.prev c.read_link-link.result.next lookup.prev lookup.next ring.ensures.first ring.ensures.later
          c.in-Some-start_after.after c.in-Some-start_after.ensures;
    }

pub returns-clause-canonical : goal.returns-clause-canonical
returns-clause-canonical g c =
    let packed_number = g.P.Inx.InxKey.packed_number in
    let slots = c.args.compactor.now.detached.slots in
    let all : c.loop-k.k ≡ length slots = omega arith in
    runs_checked packed_number slots c.loop-k.start c.slots-slots.result c.loop-k.k c.loop-k.is_cyclic c.slots-slots.ensures all c.loop-k.invariant.runs
