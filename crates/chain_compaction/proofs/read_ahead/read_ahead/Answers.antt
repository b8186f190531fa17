use Rattle.std.proofs.Common.{◌+◌, ◌-◌, ◌∙◌, inr, sym, subst, arith}
use Rattle.chain_compaction.specs.FoundStarts.{AreFreshNear, AreStartsOfFresh}
use Rattle.chain_compaction.proofs.ReadAheadLemmas.{reads_then}
use Rattle.chain_compaction.proofs.read_ahead.read_ahead.Goals as goal

pub find_starts-back-requires-clause-fresh : goal.find_starts-back-requires-clause-fresh
find_starts-back-requires-clause-fresh g c =
    let found = c.unnumbered_links-count in
    subst (λ h. AreFreshNear g.P.Inx.InxKey.packed_number h.slots c.args.k found.result.0 found.result.1)
    (sym (c.read_along-forward.ensures.read.detached ∙ found.ensures.read.detached)) found.ensures.fresh

pub returns-clause-starts : goal.returns-clause-starts
returns-clause-starts g c =
    let back = c.find_starts-back in
    inr (subst (λ h. AreStartsOfFresh g.P.Inx.InxKey.packed_number h.slots c.args.k back.result.0)
    (c.read_along-forward.ensures.read.detached ∙ c.unnumbered_links-count.ensures.read.detached) back.ensures.starts)

pub returns-clause-read : goal.returns-clause-read
returns-clause-read g c =
    let old = c.args.compactor.now in
    let found = c.unnumbered_links-count in
    let forward = c.read_along-forward in
    let back = c.find_starts-back in
    let slots = found.result.2 in
    let credit = c.args.ahead.now.credit in
    reads_then old forward.new.compactor back.new.compactor (slots + forward.result) back.result.1 (credit - (credit - (slots + forward.result + back.result.1)))
    (reads_then old found.new.compactor forward.new.compactor slots forward.result (slots + forward.result) found.ensures.read forward.ensures.read (omega arith))
    back.ensures.read (omega (arith, found.ensures.few, forward.ensures.few, back.ensures.few, c.if-ahead-saturating_add.false, c.saturating_add.ensures))
