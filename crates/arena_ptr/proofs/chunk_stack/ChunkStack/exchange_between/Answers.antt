use Rattle.std.proofs.Common.{◌≡◌, ◌/◌, slice_index_or, sym, subst, length-set, ◌∙◌}
use Rattle.arena_ptr.proofs.ChunkStackLemmas.{within}
use Rattle.arena_ptr.proofs.BlockSwapLemmas.{left_inside, right_inside, put_across, put_fits}
use Rattle.arena_ptr.proofs.chunk_stack.ChunkStack.exchange_between.Goals as goal

pub index_mut-requires : goal.index_mut-requires
index_mut-requires g c = within c.args.self.now c.args.i c.requires.i_in_bounds

pub index_mut-requires-2 : goal.index_mut-requires-2
index_mut-requires-2 g c = within c.args.self.now c.args.j c.requires.j_in_bounds

pub exchange_items-requires-clause-i_in_bounds : goal.exchange_items-requires-clause-i_in_bounds
exchange_items-requires-clause-i_in_bounds g c =
    let s = c.args.self.now in
    let left_is = subst (λ b. b ≡ slice_index_or s.blocks.items (c.args.i / 64) b) (sym c.replace-one.ensures.value) c.index_mut.ensures.value in
    left_inside s c.args.i c.args.j c.requires.i_in_bounds c.requires.j_in_bounds c.requires.apart c.replace-one.result c.index_mut-2.result.now c.replace-one.new.dest left_is c.index_mut-2.ensures.value

pub exchange_items-requires-clause-j_in_bounds : goal.exchange_items-requires-clause-j_in_bounds
exchange_items-requires-clause-j_in_bounds g c =
    let s = c.args.self.now in
    let left_is = subst (λ b. b ≡ slice_index_or s.blocks.items (c.args.i / 64) b) (sym c.replace-one.ensures.value) c.index_mut.ensures.value in
    right_inside s c.args.i c.args.j c.requires.i_in_bounds c.requires.j_in_bounds c.requires.apart c.replace-one.result c.index_mut-2.result.now c.replace-one.new.dest left_is c.index_mut-2.ensures.value

pub index_mut-requires-3 : goal.index_mut-requires-3
index_mut-requires-3 g c = within c.args.self.now c.args.i c.requires.i_in_bounds

pub invariant_of-self : goal.invariant_of-self
invariant_of-self g c =
    let s = c.args.self.now in
    let left_is = subst (λ b. b ≡ slice_index_or s.blocks.items (c.args.i / 64) b) (sym c.replace-one.ensures.value) c.index_mut.ensures.value in
    let put = put_across s c.args.i c.args.j c.requires.i_in_bounds c.requires.j_in_bounds c.requires.apart c.replace-one.result c.index_mut-2.result.now c.replace-one.new.dest left_is c.index_mut-2.ensures.value
    c.exchange_items.new.one c.exchange_items.new.other c.exchange_items.ensures.one c.exchange_items.ensures.one_capacity c.exchange_items.ensures.other c.exchange_items.ensures.other_capacity in
    record {
      filled = put.1;
      fits = put_fits s c.args.i c.args.j c.requires.i_in_bounds c.requires.j_in_bounds c.requires.apart c.replace-one.result c.index_mut-2.result.now c.replace-one.new.dest left_is c.index_mut-2.ensures.value
          c.exchange_items.new.one c.exchange_items.new.other c.exchange_items.ensures.one c.exchange_items.ensures.one_capacity c.exchange_items.ensures.other c.exchange_items.ensures.other_capacity;
    }

pub returns : goal.returns
returns g c =
    let s = c.args.self.now in
    let left_is = subst (λ b. b ≡ slice_index_or s.blocks.items (c.args.i / 64) b) (sym c.replace-one.ensures.value) c.index_mut.ensures.value in
    let items = (put_across s c.args.i c.args.j c.requires.i_in_bounds c.requires.j_in_bounds c.requires.apart c.replace-one.result c.index_mut-2.result.now c.replace-one.new.dest left_is c.index_mut-2.ensures.value
    c.exchange_items.new.one c.exchange_items.new.other c.exchange_items.ensures.one c.exchange_items.ensures.one_capacity c.exchange_items.ensures.other c.exchange_items.ensures.other_capacity).0 in
    record { items = items; blocks = length-set _ _ _ ∙ (length-set _ _ _ ∙ length-set s.blocks.items _ _) }
