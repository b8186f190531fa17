use Rattle.std.proofs.Common.{sym, arith}
use Rattle.chain_commands.proofs.PointerWordLemmas.{generation_of-chain}
use Rattle.chain_commands.proofs.command.one_generation.Goals as goal

pub returns : goal.returns
returns c = generation_of-chain _ c.in_ok-one_number.field-0 _ (sym c.in_ok-one_number.ensures) (omega arith) c.new.ensures.variant c.new.ensures.value
