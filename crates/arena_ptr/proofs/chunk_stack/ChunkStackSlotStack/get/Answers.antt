use Rattle.std.proofs.Common.{sym}
use Rattle.arena_ptr.proofs.ChunkStackLemmas.{within, past, inside_block, item_at}
use Rattle.arena_ptr.proofs.chunk_stack.ChunkStackSlotStack.get.Goals as goal

pub returns-then-self-i : goal.returns-then-self-i
returns-then-self-i g c = sym (past c.args.self.now c.args.i c.if-self-i.true)

pub index-requires : goal.index-requires
index-requires g c = within c.args.self.now c.args.i c.if-self-i.false

pub index-requires-2 : goal.index-requires-2
index-requires-2 g c = inside_block c.args.self.now c.args.i c.index.result.now (within c.args.self.now c.args.i c.if-self-i.false) c.index.ensures c.if-self-i.false

pub returns : goal.returns
returns g c =
    let s = c.args.self.now in
    let located = within s c.args.i c.if-self-i.false in
    item_at s c.args.i c.index.result.now located c.index.ensures c.index-2.result.now (inside_block s c.args.i c.index.result.now located c.index.ensures c.if-self-i.false) c.index-2.ensures
