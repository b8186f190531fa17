use Rattle.std.proofs.Common.{◌∙◌, sym}
use Rattle.std.specs.Option.{option_zip}
use Rattle.chain_laws.specs.declared.insert_kind.InsertKind.TheVariants.{Bridge, BridgeInx}
use Rattle.chain_commands.specs.Commands.{by_either}
use Rattle.chain_commands.proofs.command.kind_between.Goals as goal

pub returns-then-is-2 : goal.returns-then-is-2
returns-then-is-2 c =
    let by_pointers = c.zip-p.ensures ∙ (λ t. option_zip (c.pointer.ensures t) (c.pointer-2.ensures t)) in
    let by_indexes = c.zip-i.ensures ∙ (λ t. option_zip (c.index.ensures t) (c.index-2.ensures t)) in
    rw (sym c.is.ensures ∙ c.if-is.false, sym c.is-else-is.ensures ∙ c.if-is-2.true)
    (c.bridge.ensures ∙ (λ t. by_either (λ x. Bridge x.0 x.1) (λ x. BridgeInx x.0 x.1) (by_pointers t) (by_indexes t)))
