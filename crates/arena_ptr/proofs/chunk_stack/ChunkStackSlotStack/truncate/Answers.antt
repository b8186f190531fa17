use Rattle.std.proofs.Common.{refl, sym, take_all, arith}
use Rattle.arena_ptr.specs.Blocks.{items_in}
use Rattle.arena_ptr.specs.BlockLaws.{length-items_in}
use Rattle.arena_ptr.proofs.chunk_stack.ChunkStackSlotStack.truncate.Goals as goal

pub loop-self-init : goal.loop-self-init
loop-self-init g c =
    let s = c.args.self.now in
    let long = length-items_in s.blocks.items s.len s.filled in
    (omega (arith, c.requires, long), (sym (take_all s.len (items_in s.blocks.items) (omega (arith, long))), refl))
