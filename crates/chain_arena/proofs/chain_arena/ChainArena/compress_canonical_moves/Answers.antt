use Rattle.std.proofs.Common.{arith}
use Rattle.chain_compaction.proofs.VisitorLemmas.{listed_all}
use Rattle.chain_arena.proofs.PointerTransferLemmas.{arena_moves_pointers}
use Rattle.chain_arena.proofs.chain_arena.ChainArena.compress_canonical_moves.Goals as goal

pub returns-clause-moves : goal.returns-clause-moves
returns-clause-moves g c =
    let made = c.compress_canonical_by-overflow.ensures in
    let new = c.in_ok-moves.ensures in
    listed_all g.P.PtrKey.key _ _ _ _ _ (λ v. v.moves) _ _ _ _ _ made.compressed.0.canonical made.reports new.items new.len (omega (arith, new.capacity, c.len.ensures.count))

pub returns-clause-by_pointer : goal.returns-clause-by_pointer
returns-clause-by_pointer g c =
    let made = c.compress_canonical_by-overflow in
    arena_moves_pointers g.P.PtrKey.key _ _ _ c.args.self.now made.new.self _ made.ensures.compressed.0.canonical (returns-clause-moves g c)
