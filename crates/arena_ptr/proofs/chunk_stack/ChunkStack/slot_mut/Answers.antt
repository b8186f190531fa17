use Rattle.std.proofs.Common.{◌%◌, refl, sym}
use Rattle.arena_ptr.proofs.ChunkStackLemmas.{within, past, inside_block, item_at, still_fits, written_filled, same_written}
use Rattle.std.specs.Vec.{with_item}
use Rattle.arena_ptr.proofs.chunk_stack.ChunkStack.slot_mut.Goals as goal

pub returns-then-self-i : goal.returns-then-self-i
returns-then-self-i g c = ((refl, (λ _. tt), refl), record { lends = tt; value = sym (past c.args.self.now c.args.i c.if-self-i.true) })

pub index_mut-requires : goal.index_mut-requires
index_mut-requires g c = within c.args.self.now c.args.i c.if-self-i.false

pub index_mut-requires-2 : goal.index_mut-requires-2
index_mut-requires-2 g c = inside_block c.args.self.now c.args.i c.index_mut.result.now (within c.args.self.now c.args.i c.if-self-i.false) c.index_mut.ensures.value c.if-self-i.false

pub invariant_of-self-lent : goal.invariant_of-self-lent
invariant_of-self-lent g c = λ w.
    let s = c.args.self.now in
    let i = c.args.i in
    let block = c.index_mut.result.now in
    let located = within s i c.if-self-i.false in
    let other = with_item block (i % 64) w in
    (written_filled s i block located c.index_mut.ensures.value other w refl refl, (still_fits s i block located c.index_mut.ensures.value other, tt))

pub returns : goal.returns
returns g c =
    let s = c.args.self.now in
    let i = c.args.i in
    let block = c.index_mut.result.now in
    let located = within s i c.if-self-i.false in (
      (refl, (λ w. same_written s i block located c.index_mut.ensures.value w _ _), refl),
      record { lends = tt; value = item_at s i block located c.index_mut.ensures.value c.index_mut-2.result.now (inside_block s i block located c.index_mut.ensures.value c.if-self-i.false) c.index_mut-2.ensures.value },
    )
