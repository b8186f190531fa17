use Rattle.std.proofs.Common.{refl}
use Rattle.linked_lists.proofs.ListLemmas.{item_valid, not_both}
use Rattle.linked_lists.proofs.linked_lists.LinkedLists.get.Goals as goal

pub returns-in-None : goal.returns-in-None
returns-in-None g c = rw (← c.self.view_is) (record {
  some = ((λ no. absurd (not_both no refl)), λ item. absurd (not_both (c.in-None.ensures.some.1 (item_valid (g.A.ArenaTrait.entry c.self.inside.arena) (g.P.PtrKey.key c.args.p) item.value item.stored)) refl));
  value = tt;
})
