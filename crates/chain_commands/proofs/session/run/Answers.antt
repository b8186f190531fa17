use Rattle.std.proofs.Common.{refl, subst}
use Rattle.chain_commands.specs.Responses.{ToolArenas}
use Rattle.chain_commands.specs.Transcripts.{Ends}
use Rattle.chain_commands.proofs.ResponseLemmas.{same_arenas}
use Rattle.chain_commands.proofs.session.run.Goals as goal

pub returns : goal.returns
returns g c =
    let new : ToolArenas = (c.run_on.new.arena, c.run_on.new.other) in (
      new,
      subst (λ (old : ToolArenas). Ends c.run_on.result old new (g.R.Read.remaining c.args.reader.now) (g.R.Read.remaining c.run_on.new.reader) (g.W.Write.contents c.args.writer.now) (g.W.Write.contents c.run_on.new.writer))
          (same_arenas (c.new-arena.ensures.implementation.none refl) (c.new-other.ensures.implementation.none refl)) c.run_on.ensures,
    )
