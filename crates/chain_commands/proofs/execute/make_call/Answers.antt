use Rattle.std.proofs.Common.{refl, rules}
use Rattle.arena_pairs.specs.declared.calls.PairReply.TheVariants.{Replied}
use Rattle.chain_commands.proofs.execute.make_call.Goals as goal

pub returns : goal.returns
returns g c = λ other. (Replied c.apply.result, (c.apply.result, refl, c.apply.ensures.step, refl), search (rules, c.push_reply.ensures, c.clear.ensures.bytes))
