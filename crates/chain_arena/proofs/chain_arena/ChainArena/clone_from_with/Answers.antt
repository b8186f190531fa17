use Rattle.std.proofs.Common.{length}
use Rattle.chain_links.specs.Links.{link_view}
use Rattle.chain_arena.proofs.LinkCopyLemmas.{called_copies, copies_or_lacks}
use Rattle.chain_arena.proofs.chain_arena.ChainArena.clone_from_with.Goals as goal

pub returns-clause-copied : goal.returns-clause-copied
returns-clause-copied g c =
    let called = c.clone_from_by-done in
    let source = c.args.source.now in
    let old = c.args.self.now in
    copies_or_lacks _ (length source.slots) old.capacity old.maximum called.result.0 (λ never. never.refusable.2)
    (λ made. (made.0, (called.result.1.map, called_copies g.F.FnMut (λ m. m.map) (link_view g.P.Inx.InxKey.packed_number) g.P.PtrKey.key _ called.result.1 source old called.new.self made.1)))
    (λ same. same.0) called.ensures.copied
