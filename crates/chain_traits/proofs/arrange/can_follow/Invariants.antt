-- The pointers from the one before on may be put in order exactly if all may.
use Rattle.std.proofs.Common.{◌∷◌, map, drop}
use Rattle.std.specs.Prelude.{◌↔◌}
use Rattle.arena_traits.specs.Arena.{IsValid}
use Rattle.chain_links.specs.ChainArena.{CanPutInOrder}
use Rattle.chain_traits.proofs.arrange.can_follow.Given as goal

abbrev pub invariant-loop-q : goal.invariant-loop-q
invariant-loop-q g l = record {
  valid : IsValid (g.A.ArenaTrait.entry l.arena) (g.P.PtrKey.key l.before);
  same : CanPutInOrder (g.A.ArenaTrait.entry l.arena) (map g.P.PtrKey.key (l.before ∷ drop l.q-index l.followers))
      ↔ CanPutInOrder (g.A.ArenaTrait.entry l.arena) (map g.P.PtrKey.key (l.fn.first ∷ l.followers));
}
