use Rattle.std.proofs.Common.{Option, Some, None, refl}
use Rattle.std.specs.Prelude.{OnSome}
use Rattle.arena_base.proofs.compactor.CompactorSlotAccess.value_mut.Goals as goal

on_both : {X Q : Type 0} (P : Type 0) (o : Option X) → OnSome o P → Q → OnSome o (P × Q)
on_both P None p q = tt
on_both P (Some x) p q = (p, q)

pub returns : goal.returns
returns g c = (
  (
    refl,
    (λ w. on_both _ c.value_mut.result (c.value_mut.follows.holds w) (refl, c.count_touch.ensures, refl, c.saturating_add-self.ensures)),
    (c.value_mut.follows.holds-at-none, (refl, c.count_touch.ensures, refl, c.saturating_add-self.ensures)),
  ),
  record { writes_back = tt; value = c.value_mut.ensures.value },
)
