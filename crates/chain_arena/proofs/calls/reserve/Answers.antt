use Rattle.arena_core.proofs.PointerKindLemmas.{kind_by}
use Rattle.chain_arena.proofs.CallStepLemmas.{reserves}
use Rattle.chain_arena.proofs.calls.reserve.Goals as goal

pub returns : goal.returns
returns g c =
    let made = c.reallocate_min_capacity-grown.ensures in
    reserves (kind_by g.P.PtrKey g.P.Inx.InxKey g.P.Gen.GenKey) c.args.n c.args.arena.now c.reallocate_min_capacity-grown.new.self c.reallocate_min_capacity-grown.result made.outcome made.enough made.err made.implementation.0 c.invariants.ensures.capacity
