use Rattle.std.proofs.Common.{◌≡◌, ◌-◌, ◌≤◌, length, take}
use Rattle.arena_ptr.specs.Blocks.{items_in}
use Rattle.arena_ptr.proofs.chunk_stack.ChunkStackSlotStack.truncate.Given as goal

abbrev pub invariant-loop-self : goal.invariant-loop-self
invariant-loop-self g l =
    (l.n ≤ l.self.len) × ((items_in l.self.blocks.items ≡ take l.self.len (items_in l.initial.self.blocks.items)) × (length l.self.blocks.items ≡ length l.initial.self.blocks.items))

abbrev pub decreases-loop-self : goal.decreases-loop-self
decreases-loop-self g l = l.self.len - l.n
