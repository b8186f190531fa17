use Rattle.std.proofs.Common.{rules}
use Rattle.arena_core.proofs.PointerKindLemmas.{kind_by}
use Rattle.arena_pairs.proofs.KeptValueLemmas.{transfer_steps}
use Rattle.arena_pairs.proofs.steps.transfer.Goals as goal

pub returns : goal.returns
returns g c =
    let made = c.transfer_chain.ensures in
    transfer_steps (kind_by g.P.PtrKey g.P.Inx.InxKey g.P.Gen.GenKey) g.S.SlotStack.may_reach _ _ (λ f p value q t next called. search (rules, called)) c.args.source.now c.args.target.now c.args.p c.transfer_chain.new.self c.transfer_chain.new.target
    c.transfer_chain.result made.transferred made.within
