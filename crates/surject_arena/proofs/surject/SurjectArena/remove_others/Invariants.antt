-- Each key that is removed is one less.
use Rattle.arena_traits.specs.Entries.{count}
use Rattle.surject_arena.specs.SetRemovals.{IsSetReduced}
use Rattle.surject_arena.proofs.surject.SurjectArena.remove_others.Given as goal

abbrev pub invariant-loop-q : goal.invariant-loop-q
invariant-loop-q g l = IsSetReduced l.fn.self l.self g.P.Gen.GenKey.wraps g.P.Gen.GenKey.following (g.P.PtrKey.key l.p) l.wrapped

abbrev pub decreases-loop-q : goal.decreases-loop-q
decreases-loop-q g l = count l.self.keys
