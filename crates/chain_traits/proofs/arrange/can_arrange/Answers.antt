use Rattle.std.proofs.Common.{map, subst}
use Rattle.chain_links.specs.ChainArena.{CanPutInOrder}
use Rattle.chain_traits.proofs.LinkOrderLemmas.{arrange_first}
use Rattle.chain_traits.proofs.arrange.can_arrange.Goals as goal

pub returns-else-contains : goal.returns-else-contains
returns-else-contains g c = (
  (λ h. absurd (let no = c.if-contains.false in cc)),
  λ can. c.contains.ensures.1 (arrange_first (g.A.ArenaTrait.entry c.args.arena.now) (g.P.PtrKey.key c.in-Some.first.now) (map g.P.PtrKey.key c.in-Some.followers.now)
      (subst (λ order. CanPutInOrder (g.A.ArenaTrait.entry c.args.arena.now) (map g.P.PtrKey.key order)) c.in-Some.ensures.cases.0 can)),
)
