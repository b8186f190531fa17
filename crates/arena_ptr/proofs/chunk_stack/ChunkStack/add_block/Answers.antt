use Rattle.std.specs.Prelude.{is_ok, length}
use Rattle.std.proofs.Common.{◌∙◌, ap, arith}
use Rattle.arena_ptr.proofs.ChunkStackLemmas.{more_blocks}
use Rattle.arena_ptr.proofs.chunk_stack.ChunkStack.add_block.Goals as goal

pub invariant_of-self : goal.invariant_of-self
invariant_of-self g c =
    let block = c.reserve_exact.new.self in
    let made = c.in_ok-reserve_exact.ensures in
    let more = more_blocks c.args.self.now block (is_ok c.push.result) c.push.new.self.items c.push.ensures.items (made.items ∙ c.new-block.ensures.items) (omega (arith, made.ok, made.capacity, c.new-block.ensures.len, ap length c.new-block.ensures.items)) c.requires in
    record { filled = more.0; fits = more.1 }
