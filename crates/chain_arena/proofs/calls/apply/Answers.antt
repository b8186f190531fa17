use Rattle.std.proofs.Common.{refl, ap, subst}
use Rattle.arena_core.proofs.PointerKindLemmas.{kind_by}
use Rattle.chain_arena.specs.Steps.{ArrangeChainStep}
use Rattle.chain_arena.specs.declared.calls.Reply.TheVariants as reply
use Rattle.chain_arena.proofs.CallStepLemmas.{inserted_anyhow}
use Rattle.chain_arena.proofs.calls.apply.Goals as goal

pub returns-in-Insert : goal.returns-in-Insert
returns-in-Insert g c =
    let made = c.insert_reallocating.ensures in
    let anyhow = inserted_anyhow (kind_by g.P.PtrKey g.P.Inx.InxKey g.P.Gen.GenKey) g.S.SlotStack.may_reach c.args.arena.now c.insert_reallocating.new.self c.in-Insert.kind c.in-Insert.t c.insert_reallocating.result made.implementation in
    rw c.in-Insert.is (record { step = (c.insert_reallocating.result, refl, (made.outcome, made.err, anyhow)) })

pub returns-in-InsertWithin : goal.returns-in-InsertWithin
returns-in-InsertWithin g c =
    let made = c.insert_within_capacity.ensures in
    let anyhow = inserted_anyhow (kind_by g.P.PtrKey g.P.Inx.InxKey g.P.Gen.GenKey) g.S.SlotStack.may_reach c.args.arena.now c.insert_within_capacity.new.self c.in-InsertWithin.kind c.in-InsertWithin.t c.insert_within_capacity.result made.implementation in
    rw c.in-InsertWithin.is (record { step = (c.insert_within_capacity.result, refl, (made.outcome, made.err, anyhow)) })

pub returns-in-Connect : goal.returns-in-Connect
returns-in-Connect g c =
    let made = c.connect.ensures in
    rw c.in-Connect.is (record { step = (c.connect.result, ap (λ b. reply.Done b) c.is_some.ensures, (made.outcome, made.none, made.implementation)) })

pub returns-in-BreakPrev : goal.returns-in-BreakPrev
returns-in-BreakPrev g c =
    let made = c.break_prev.ensures in
    rw c.in-BreakPrev.is (record { step = (c.break_prev.result, ap (λ b. reply.Done b) c.is_some-in-BreakPrev.ensures, (made.outcome, made.none, made.implementation)) })

pub returns-in-BreakNext : goal.returns-in-BreakNext
returns-in-BreakNext g c =
    let made = c.break_next.ensures in
    rw c.in-BreakNext.is (record { step = (c.break_next.result, ap (λ b. reply.Done b) c.is_some-in-BreakNext.ensures, (made.outcome, made.none, made.implementation)) })

pub returns-in-ExchangeNext : goal.returns-in-ExchangeNext
returns-in-ExchangeNext g c =
    let made = c.exchange_next.ensures in
    rw c.in-ExchangeNext.is (record { step = (c.exchange_next.result, ap (λ b. reply.Done b) c.is_some-in-ExchangeNext.ensures, (made.outcome, made.none, made.implementation)) })

pub returns-in-ReverseChain : goal.returns-in-ReverseChain
returns-in-ReverseChain g c =
    let made = c.reverse_chain.ensures in
    rw c.in-ReverseChain.is (record { step = (c.reverse_chain.result, ap (λ b. reply.Done b) c.is_some-in-ReverseChain.ensures, (made.outcome, made.none, made.implementation)) })

pub returns-in-MoveAfter : goal.returns-in-MoveAfter
returns-in-MoveAfter g c =
    let made = c.move_after.ensures in
    rw c.in-MoveAfter.is (record { step = (c.move_after.result, ap (λ b. reply.Done b) c.is_some-in-MoveAfter.ensures, (made.outcome, made.none, made.implementation)) })

pub returns-in-SpliceAfter : goal.returns-in-SpliceAfter
returns-in-SpliceAfter g c =
    let made = c.splice_after.ensures in
    rw c.in-SpliceAfter.is (record { step = (c.splice_after.result, ap (λ b. reply.Done b) c.is_some-in-SpliceAfter.ensures, (made.outcome, made.none, made.implementation)) })

pub returns-in-ArrangeChain : goal.returns-in-ArrangeChain
returns-in-ArrangeChain g c =
    let made = c.arrange_chain.ensures in
    let step = subst (λ order. ArrangeChainStep (kind_by g.P.PtrKey g.P.Inx.InxKey g.P.Gen.GenKey) c.args.arena.now order c.arrange_chain.result c.arrange_chain.new.self) c.deref.ensures.value
    (made.outcome, made.none, made.implementation) in
    rw c.in-ArrangeChain.is (record { step = (c.arrange_chain.result, ap (λ b. reply.Done b) c.is_some-in-ArrangeChain.ensures, step) })

pub returns-in-Remove : goal.returns-in-Remove
returns-in-Remove g c =
    let made = c.remove_link_no_gen.ensures in
    rw c.in-Remove.is (record { step = (c.remove_link_no_gen.result, refl, (made.outcome, made.invalid, made.implementation)) })

pub returns-in-RemoveInx : goal.returns-in-RemoveInx
returns-in-RemoveInx g c =
    let made = c.remove_inx_link_no_gen.ensures in
    rw c.in-RemoveInx.is (record { step = (c.remove_inx_link_no_gen.result, refl, (made.outcome, made.invalid, made.implementation)) })

pub returns-in-Invalidate : goal.returns-in-Invalidate
returns-in-Invalidate g c =
    let made = c.invalidate.ensures in
    rw c.in-Invalidate.is (record { step = (c.invalidate.result, refl, (made.outcome, made.invalid, made.implementation)) })

pub returns-in-DrainChain : goal.returns-in-DrainChain
returns-in-DrainChain g c = rw c.in-DrainChain.is (record { step = (c.drain.result, refl, c.drain.ensures) })

pub returns-in-Clear : goal.returns-in-Clear
returns-in-Clear g c =
    let made = c.clear.ensures in
    rw c.in-Clear.is (record { step = (c.clear.result, refl, (made.outcome, made.implementation)) })

pub returns-in-Compress : goal.returns-in-Compress
returns-in-Compress g c =
    let made = c.compress.ensures in
    rw c.in-Compress.is (record { step = (c.compress.result, refl, (made.outcome, made.values, made.implementation)) })

pub returns-in-CompressCanonical : goal.returns-in-CompressCanonical
returns-in-CompressCanonical g c =
    let made = c.compress_canonical.ensures in
    rw c.in-CompressCanonical.is (record { step = (c.compress_canonical.result, refl, (made.outcome, made.implementation)) })

pub returns-in-Reserve : goal.returns-in-Reserve
returns-in-Reserve g c = rw c.in-Reserve.is (record { step = (c.reserve.result, refl, c.reserve.ensures) })
