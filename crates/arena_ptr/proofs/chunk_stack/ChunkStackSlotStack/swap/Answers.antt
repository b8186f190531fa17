use Rattle.std.proofs.Common.{◌*◌, slice_index_or, ap, ◌∙◌, refl, arith, length-set}
use Rattle.arena_ptr.proofs.ChunkStackLemmas.{below, within, found, inside_block, still_fits}
use Rattle.arena_ptr.proofs.BlockSwapLemmas.{exchanged_in}
use Rattle.arena_ptr.proofs.chunk_stack.ChunkStackSlotStack.swap.Goals as goal

pub index_mut-requires : goal.index_mut-requires
index_mut-requires g c = within c.args.self.now c.args.i (below c.args.self.now c.args.i c.requires.i_in_bounds)

pub swap-requires-clause-i_in_bounds : goal.swap-requires-clause-i_in_bounds
swap-requires-clause-i_in_bounds g c =
    let i_below = below c.args.self.now c.args.i c.requires.i_in_bounds in
    inside_block c.args.self.now c.args.i c.index_mut.result.now (within c.args.self.now c.args.i i_below) c.index_mut.ensures.value i_below

pub swap-requires-clause-j_in_bounds : goal.swap-requires-clause-j_in_bounds
swap-requires-clause-j_in_bounds g c =
    let s = c.args.self.now in
    let block = c.index_mut.result.now in
    let j_below = below s c.args.j c.requires.j_in_bounds in
    inside_block s c.args.j block (within s c.args.j j_below) (c.index_mut.ensures.value ∙ ap (λ k. slice_index_or s.blocks.items k block) c.if-i-j.true) j_below

pub exchange_between-requires-clause-i_in_bounds : goal.exchange_between-requires-clause-i_in_bounds
exchange_between-requires-clause-i_in_bounds g c = below c.args.self.now c.args.i c.requires.i_in_bounds

pub exchange_between-requires-clause-j_in_bounds : goal.exchange_between-requires-clause-j_in_bounds
exchange_between-requires-clause-j_in_bounds g c = below c.args.self.now c.args.j c.requires.j_in_bounds

pub invariant_of-self : goal.invariant_of-self
invariant_of-self g c =
    let s = c.args.self.now in
    let i = c.args.i in
    let j = c.args.j in
    let i_below = below s i c.requires.i_in_bounds in
    let j_below = below s j c.requires.j_in_bounds in
    let block = c.index_mut.result.now in
    let located = within s i i_below in
    let is = c.index_mut.ensures.value in
    let i_in = inside_block s i block located is i_below in
    let j_in = inside_block s j block (within s j j_below) (is ∙ ap (λ k. slice_index_or s.blocks.items k block) c.if-i-j.true) j_below in
    record {
      filled = (exchanged_in s.blocks.items s.len i j s.filled i_below j_below block c.swap.new.self c.if-i-j.true (found s i block located is)
          (omega (arith, located, s.blocks.ok.0)) (omega (arith, i_in, block.ok.0)) (omega (arith, j_in, block.ok.0)) c.swap.ensures.items c.swap.ensures.capacity).1;
      fits = still_fits s i block located is c.swap.new.self;
    }

pub returns-then-i-j : goal.returns-then-i-j
returns-then-i-j g c =
    let s = c.args.self.now in
    let i = c.args.i in
    let j = c.args.j in
    let i_below = below s i c.requires.i_in_bounds in
    let j_below = below s j c.requires.j_in_bounds in
    let block = c.index_mut.result.now in
    let located = within s i i_below in
    let is = c.index_mut.ensures.value in
    let i_in = inside_block s i block located is i_below in
    let j_in = inside_block s j block (within s j j_below) (is ∙ ap (λ k. slice_index_or s.blocks.items k block) c.if-i-j.true) j_below in
    let items = (exchanged_in s.blocks.items s.len i j s.filled i_below j_below block c.swap.new.self c.if-i-j.true (found s i block located is)
    (omega (arith, located, s.blocks.ok.0)) (omega (arith, i_in, block.ok.0)) (omega (arith, j_in, block.ok.0)) c.swap.ensures.items c.swap.ensures.capacity).0 in
    record { items = items; capacity = ap (λ n. 64 * n) (length-set s.blocks.items _ _); maximum = refl }
