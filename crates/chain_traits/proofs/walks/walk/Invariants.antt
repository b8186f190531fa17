-- The passed pointers and those ahead are together the walk.
use Rattle.std.proofs.Common.{◌≡◌, ◌++◌, map}
use Rattle.std.specs.Prelude.{All}
use Rattle.arena_traits.specs.Arena.{IsValid}
use Rattle.chain_laws.specs.Walks.{passes_ahead}
use Rattle.chain_traits.proofs.walks.walk.Given as goal

abbrev pub invariant-loop-q : goal.invariant-loop-q
invariant-loop-q g l = record {
  passed : map (λ q. (g.P.PtrKey.key q).0) l.ptrs.items ++ passes_ahead (g.A.ChainArenaTrait.interlinks l.arena) (g.A.ChainArenaTrait.walker l.along)
      ≡ passes_ahead (g.A.ChainArenaTrait.interlinks l.arena) (g.A.ChainArenaTrait.walker l.initial.along);
  valid : All (λ q. IsValid (g.A.ArenaTrait.entry l.arena) (g.P.PtrKey.key q)) l.ptrs.items;
}

abbrev pub decreases-loop-q : goal.decreases-loop-q
decreases-loop-q g l = (g.A.ChainArenaTrait.walker l.along).left
