use Rattle.std.proofs.Common.{arith}
use Rattle.chain_arena.proofs.TransferGrowthLemmas.{suffices, above_greatest, grows_within}
use Rattle.chain_arena.proofs.chain_arena.ChainArena.grow_to_hold.Goals as goal

pub returns-then-n-capacity-clause-grown : goal.returns-then-n-capacity-clause-grown
returns-then-n-capacity-clause-grown g c =
    suffices g.S.SlotStack.may_reach g.P.Inx.InxKey.greatest c.args.n c.args.self.now (omega (arith, c.if-n-capacity.true, c.capacity.ensures.value)) c.invariants.ensures.capacity

pub returns-then-n-greatest-clause-grown : goal.returns-then-n-greatest-clause-grown
returns-then-n-greatest-clause-grown g c = above_greatest g.S.SlotStack.may_reach g.P.Inx.InxKey.greatest c.args.n c.args.self.now (omega (arith, c.if-n-greatest.true, c.greatest.ensures.value))

pub returns-clause-grown : goal.returns-clause-grown
returns-clause-grown g c =
    let made = c.reallocate_min_capacity-grown.ensures in
    grows_within g.S.SlotStack.may_reach g.P.Inx.InxKey.greatest c.args.n c.args.self.now c.reallocate_min_capacity-grown.new.self c.reallocate_min_capacity-grown.result (omega (arith, c.if-n-greatest.false, c.greatest.ensures.value))
    made.outcome made.err made.implementation.2 c.invariants-2.ensures.capacity
