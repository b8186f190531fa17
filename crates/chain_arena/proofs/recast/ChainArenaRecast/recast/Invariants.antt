-- The values up to the position of the advancer are recast.
use Rattle.std.proofs.Common.{length}
use Rattle.arena_traits.specs.Advancers.{ahead}
use Rattle.chain_links.specs.ChainArena.{value_view}
use Rattle.chain_arena.proofs.RecastLemmas.{IsRecasting}
use Rattle.chain_arena.proofs.recast.ChainArenaRecast.recast.Given as goal

abbrev pub invariant-loop-p : goal.invariant-loop-p
invariant-loop-p g l = IsRecasting (g.T.Recast.recast_by (g.R.Recaster.recasts l.fn.recaster)) l.fn.self l.self l.all.cursor

abbrev pub decreases-loop-p : goal.decreases-loop-p
decreases-loop-p g l = length (ahead l.all.cursor (value_view l.self).entries)
