use Rattle.std.proofs.Common.{◌≡◌, ◌+◌, ◌∙◌, length, true, ap, sym, subst, arith}
use Rattle.std.proofs.Math.ListN.{length-set}
use Rattle.std.proofs.lemmas.Bool.{OnTrue_at}
use Rattle.arena_traits.specs.Arena.{slot_at}
use Rattle.chain_compaction.specs.Destinations.{is_fresh}
use Rattle.chain_compaction.proofs.ReadAheadLemmas.{reads_more, below_added}
use Rattle.chain_compaction.proofs.FoundStartLemmas.{fresh_added}
use Rattle.chain_compaction.proofs.read_ahead.unnumbered_links.Goals as goal
use Rattle.chain_compaction.proofs.read_ahead.unnumbered_links.Goals.{then-is_listed, else-is_listed}

pub loop-j-preserved : goal.loop-j-preserved
loop-j-preserved g c =
    let inv = c.loop-j.invariant in
    let number = g.P.Inx.InxKey.packed_number in
    let greatest = g.P.Inx.InxKey.greatest in
    let slots = c.args.compactor.now.detached.slots in
    let candidate = c.prefetch_candidate-is_listed in
    let position = c.args.k + c.loop-j.j in
    record {
      links_length = elim c.if-is_listed.branch [
        | then-is_listed w ↦ ap length w.links-is ∙ (length-set c.loop-j.links c.loop-j.count position ∙ inv.links_length)
        | else-is_listed w ↦ ap length w.links-is ∙ inv.links_length
      ];
      count = elim c.if-is_listed.branch [
        | then-is_listed w ↦ omega (arith, w.count-is, inv.count, c.if-count-eq16.false)
        | else-is_listed w ↦ omega (arith, w.count-is, inv.count)
      ];
      within = elim c.if-is_listed.branch [
        | then-is_listed w ↦ rw (w.links-is, w.count-is) (below_added greatest c.loop-j.links c.loop-j.count position (omega (arith, inv.links_length, inv.count, c.if-count-eq16.false)) (omega (arith, c.inx_at.ensures, g.met.P.Inx.InxKey.at_most_greatest c.inx_at.result)) inv.within)
        | else-is_listed w ↦ rw (w.links-is, w.count-is) inv.within
      ];
      fresh = elim c.if-is_listed.branch [
        | then-is_listed w ↦ rw (w.links-is, w.count-is) (fresh_added number slots c.args.k c.loop-j.links c.loop-j.count position (omega (arith, inv.links_length, inv.count, c.if-count-eq16.false))
            (record {
              from = omega arith;
              near = omega (arith, c.loop-j-test.true, c.min-slots.ensures);
              fresh = subst (λ h. is_fresh number (slot_at h.slots (position + 1)) ≡ true) inv.read.detached (subst (λ n. is_fresh number (slot_at c.loop-j.compactor.detached.slots n) ≡ true) c.inx_at.ensures (OnTrue_at w.if-is_listed.true candidate.ensures.fresh));
            }) inv.fresh)
        | else-is_listed w ↦ rw (w.links-is, w.count-is) inv.fresh
      ];
      read = reads_more c.args.compactor.now c.loop-j.compactor candidate.new.compactor c.loop-j.j inv.read candidate.ensures.read;
    }
