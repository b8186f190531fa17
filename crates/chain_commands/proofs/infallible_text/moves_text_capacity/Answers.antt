use Rattle.chain_commands.proofs.MovesLengthLemmas.{moves_capacity}
use Rattle.chain_commands.proofs.infallible_text.moves_text_capacity.Goals as goal

pub returns : goal.returns
returns c = λ moves known as_many. moves_capacity c.args.links moves known c.requires as_many
