use Rattle.std.proofs.Common.{◌≡◌, ◌-◌, ◌≤◌, length}
use Rattle.arena_ptr.specs.Blocks.{items_in}
use Rattle.arena_ptr.proofs.chunk_stack.ChunkStack.add_blocks.Given as goal

abbrev pub invariant-loop-self : goal.invariant-loop-self
invariant-loop-self g l =
    (l.before ≡ length l.initial.self.blocks.items) × ((l.before ≤ length l.self.blocks.items) × ((length l.self.blocks.items ≤ l.count)
    × ((items_in l.self.blocks.items ≡ items_in l.initial.self.blocks.items) × (l.self.len ≡ l.initial.self.len))))

abbrev pub decreases-loop-self : goal.decreases-loop-self
decreases-loop-self g l = l.count - length l.self.blocks.items
