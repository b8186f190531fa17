use Rattle.std.proofs.Common.{sym}
use Rattle.arena_ptr.specs.BlockLaws.{length-items_in}
use Rattle.arena_ptr.proofs.chunk_stack.ChunkStackSlotStack.len.Goals as goal

pub returns : goal.returns
returns g c = let s = c.args.self.now in sym (length-items_in s.blocks.items s.len s.filled)
