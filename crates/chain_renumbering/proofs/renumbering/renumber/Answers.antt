use Rattle.std.proofs.Common.{◌≡◌, length, ◌∙◌}
use Rattle.chain_renumbering.proofs.MappedListLemmas.{length_twice}
use Rattle.chain_renumbering.proofs.RenumberingLemmas.{renumbered}
use Rattle.chain_renumbering.proofs.renumbering.renumber.Goals as goal

pub returns-in-Ok-clause-canonical : goal.returns-in-Ok-clause-canonical
returns-in-Ok-clause-canonical g c = c.in-Ok.ensures.compressed.0.canonical

pub returns-in-Ok-clause-renumbered : goal.returns-in-Ok-clause-renumbered
returns-in-Ok-clause-renumbered g c =
    let count : c.len.result ≡ length c.args.arena.now.slots = c.len.ensures ∙ length_twice _ _ _ _ c.backing.ensures.slots in
    rw (c.renumbering_of.ensures, c.in_ok-table.ensures, c.deref.ensures.value, count)
    (renumbered g.P.PtrKey.key c.args.arena.now c.compress_canonical_moves.new.self c.in-Ok.moves.items c.in-Ok.ensures.by_pointer g.P.Gen.GenKey.first g.P.Gen.GenKey.following c.in-Ok.ensures.compressed.0.canonical c.in-Ok.ensures.moves
    g.P.Gen.GenKey.same g.met.P.Gen.GenKey.same_is_equal)
