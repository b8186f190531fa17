use Rattle.std.proofs.Common.{◌<◌, ◌*◌, ◌/◌, vec_len, refl, ap, arith, length-set}
use Rattle.arena_ptr.specs.BlockLaws.{length-items_in}
use Rattle.arena_ptr.proofs.ChunkStackLemmas.{has_capacity, still_fits, pushed}
use Rattle.arena_ptr.proofs.chunk_stack.ChunkStackSlotStack.push_within.Goals as goal

pub index_mut-requires : goal.index_mut-requires
index_mut-requires g c = let s = c.args.self.now in let long = length-items_in s.blocks.items s.len s.filled in omega (arith, c.requires, long, s.blocks.ok.0)

pub overflow_add-self : goal.overflow_add-self
overflow_add-self g c = let s = c.args.self.now in let long = length-items_in s.blocks.items s.len s.filled in omega (arith, c.requires, long, s.fits)

pub push_reserved-requires : goal.push_reserved-requires
push_reserved-requires g c =
    let s = c.args.self.now in
    let long = length-items_in s.blocks.items s.len s.filled in
    has_capacity s s.len c.index_mut.result.now (omega (arith, c.requires, long, s.blocks.ok.0)) c.index_mut.ensures.value refl

pub invariant_of-self : goal.invariant_of-self
invariant_of-self g c =
    let s = c.args.self.now in
    let block = c.index_mut.result.now in
    let long = length-items_in s.blocks.items s.len s.filled in
    let located : s.len / 64 < vec_len s.blocks = omega (arith, c.requires, long, s.blocks.ok.0) in
    record {
      filled = (pushed s s.len block located c.index_mut.ensures.value c.push_reserved.new.self c.args.item refl c.push_reserved.ensures.items c.push_reserved.ensures.capacity).1;
      fits = still_fits s s.len block located c.index_mut.ensures.value c.push_reserved.new.self;
    }

pub returns : goal.returns
returns g c =
    let s = c.args.self.now in
    let long = length-items_in s.blocks.items s.len s.filled in
    let items = (pushed s s.len c.index_mut.result.now (omega (arith, c.requires, long, s.blocks.ok.0)) c.index_mut.ensures.value c.push_reserved.new.self c.args.item refl c.push_reserved.ensures.items c.push_reserved.ensures.capacity).0 in
    record { items = items; capacity = ap (λ n. 64 * n) (length-set s.blocks.items _ _); maximum = refl }
