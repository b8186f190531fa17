use Rattle.std.proofs.Common.{◌∙◌, sym, inl, inr}
use Rattle.chain_laws.specs.declared.insert_kind.InsertKind.TheVariants as kinds
use Rattle.chain_commands.proofs.KindLemmas.{by_either-mapped, not_read}
use Rattle.chain_commands.proofs.command.kind_beside.Goals as goal
use Rattle.chain_commands.proofs.command.kind_beside.Goals.{then-is_some, else-is_some}

pub returns-then-is : goal.returns-then-is
returns-then-is c =
    rw (sym c.is.ensures ∙ c.if-is.true)
    (c.or.ensures ∙ by_either-mapped kinds.ChainEnd kinds.ChainEndInx _ _ c.pointer-p.ensures (not_read c.is_some.ensures (elim c.if-is_some.branch [ then-is_some w ↦ inl w.if-is_some.true | else-is_some w ↦ inr (w.i-is ∙ w.index-i.ensures) ])) c.map.ensures.cases c.map-then-is.ensures.cases)

pub returns-then-is-2 : goal.returns-then-is-2
returns-then-is-2 c =
    rw (sym c.is.ensures ∙ c.if-is.false, sym c.is-else-is.ensures ∙ c.if-is-2.true)
    (c.or-then-is-2.ensures ∙ by_either-mapped kinds.ChainStart kinds.ChainStartInx _ _ c.pointer-p.ensures (not_read c.is_some.ensures (elim c.if-is_some.branch [ then-is_some w ↦ inl w.if-is_some.true | else-is_some w ↦ inr (w.i-is ∙ w.index-i.ensures) ])) c.map-then-is-2.ensures.cases c.map-then-is-2-2.ensures.cases)

pub returns-then-is-3 : goal.returns-then-is-3
returns-then-is-3 c =
    rw (sym c.is.ensures ∙ c.if-is.false, sym c.is-else-is.ensures ∙ c.if-is-2.false, sym c.is-else-is-2.ensures ∙ c.if-is-3.true)
    (c.or-then-is-3.ensures ∙ by_either-mapped kinds.NextTo kinds.NextToInx _ _ c.pointer-p.ensures (not_read c.is_some.ensures (elim c.if-is_some.branch [ then-is_some w ↦ inl w.if-is_some.true | else-is_some w ↦ inr (w.i-is ∙ w.index-i.ensures) ])) c.map-then-is-3.ensures.cases c.map-then-is-3-2.ensures.cases)

pub returns-then-is-4 : goal.returns-then-is-4
returns-then-is-4 c =
    rw (sym c.is.ensures ∙ c.if-is.false, sym c.is-else-is.ensures ∙ c.if-is-2.false, sym c.is-else-is-2.ensures ∙ c.if-is-3.false, sym c.is-else-is-3.ensures ∙ c.if-is-4.true)
    (c.or-then-is-4.ensures ∙ by_either-mapped kinds.PrevTo kinds.PrevToInx _ _ c.pointer-p.ensures (not_read c.is_some.ensures (elim c.if-is_some.branch [ then-is_some w ↦ inl w.if-is_some.true | else-is_some w ↦ inr (w.i-is ∙ w.index-i.ensures) ])) c.map-then-is-4.ensures.cases c.map-then-is-4-2.ensures.cases)
