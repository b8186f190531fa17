use Rattle.std.proofs.Common.{refl}
use Rattle.linked_lists.proofs.ListLemmas.{not_both}
use Rattle.linked_lists.proofs.RangeMoveLemmas.{range_starts}
use Rattle.linked_lists.proofs.linked_lists.LinkedLists.is_range_without.Goals as goal

pub returns : goal.returns
returns g c =
    let all = rw (← c.self.view_is) at c.all_in_lists.ensures in
    let item = rw (← c.self.view_is) at (c.if-not-is_item.ensures.0 refl) in
    rw (← c.self.view_is) (c.range_is_without.ensures all item)

pub returns-then-not-is_item : goal.returns-then-not-is_item
returns-then-not-is_item g c = (
  λ yes. absurd (not_both yes refl),
  λ range.
      let item = range_starts g.A.ArenaTrait.state g.A.ChainArenaTrait.interlinks c.args.self.now (g.P.PtrKey.key c.args.first) (g.P.PtrKey.key c.args.last) (g.P.PtrKey.key c.args.q) range in
      absurd (not_both (c.is_item.ensures.1 item) c.if-not-is_item.true),
)
