use Rattle.std.proofs.Common.{◌-◌, arith, length-set}
use Rattle.arena_ptr.proofs.ChunkStackLemmas.{within, still_fits, popped}
use Rattle.arena_ptr.proofs.chunk_stack.ChunkStack.pop.Goals as goal

pub index_mut-requires : goal.index_mut-requires
index_mut-requires g c = within c.args.self.now (c.args.self.now.len - 1) (omega (arith, c.requires))

pub invariant_of-self : goal.invariant_of-self
invariant_of-self g c =
    let s = c.args.self.now in
    let block = c.index_mut.result.now in
    let located = within s (s.len - 1) (omega (arith, c.requires)) in
    record {
      filled = (popped s (s.len - 1) block located c.index_mut.ensures.value c.truncate.new.self (omega (arith, c.requires)) c.truncate.ensures.items c.truncate.ensures.capacity).1;
      fits = still_fits s (s.len - 1) block located c.index_mut.ensures.value c.truncate.new.self;
    }

pub returns-clause-blocks : goal.returns-clause-blocks
returns-clause-blocks g c =
    let s = c.args.self.now in
    let located = within s (s.len - 1) (omega (arith, c.requires)) in
    let items = (popped s (s.len - 1) c.index_mut.result.now located c.index_mut.ensures.value c.truncate.new.self (omega (arith, c.requires)) c.truncate.ensures.items c.truncate.ensures.capacity).0 in
    record { items = items; blocks = length-set s.blocks.items _ _ }
