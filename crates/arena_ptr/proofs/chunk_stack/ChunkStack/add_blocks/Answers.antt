use Rattle.std.proofs.Common.{of_calls, ◌≡◌, ◌*◌, ◌≤◌, ap, sym, subst, ◌∙◌, length, length-take, arith}
use Rattle.arena_ptr.specs.Blocks.{items_in, AreFilled}
use Rattle.arena_ptr.specs.BlockLaws.{filled_capacity}
use Rattle.arena_ptr.proofs.BlockLemmas.{fewer_in}
use Rattle.arena_ptr.proofs.chunk_stack.ChunkStack.add_blocks.Goals as goal

pub invariant_of-self : goal.invariant_of-self
invariant_of-self g c =
    let old = c.args.self.now in
    let s = c.add_block.new.self in
    let k = c.len-before.result in
    let is = c.truncate.ensures.items in
    let long = ap length is ∙ length-take k s.blocks.items in
    let capacity_is = filled_capacity old.blocks.items old.len old.filled in
    let capacity : s.len ≤ 64 * k = omega (arith, capacity_is, c.add_block.ensures.len, c.loop-self.invariant.0, c.loop-self.invariant.1.1.1.1) in
    record {
      filled = subst (λ bs. AreFilled bs s.len) (sym is) (fewer_in s.blocks.items s.len k capacity s.filled).1;
      fits = omega (arith, long, s.fits);
    }

pub returns-then-is_err : goal.returns-then-is_err
returns-then-is_err g c =
    let old = c.args.self.now in
    let s = c.add_block.new.self in
    let k = c.len-before.result in
    let is = c.truncate.ensures.items in
    let long = ap length is ∙ length-take k s.blocks.items in
    let capacity_is = filled_capacity old.blocks.items old.len old.filled in
    let capacity : s.len ≤ 64 * k = omega (arith, capacity_is, c.add_block.ensures.len, c.loop-self.invariant.0, c.loop-self.invariant.1.1.1.1) in
    let as_before : length s.blocks.items ≡ length c.loop-self.self.blocks.items = search of_calls in
    record {
      items = ap items_in is ∙ ((fewer_in s.blocks.items s.len k capacity s.filled).0 ∙ (c.add_block.ensures.blocks.items ∙ c.loop-self.invariant.1.1.1.0));
      ok = tt;
      err = omega (arith, long, as_before, c.loop-self.invariant.0, c.loop-self.invariant.1.0);
    }
