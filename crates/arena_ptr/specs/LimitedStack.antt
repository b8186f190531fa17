use Rattle.std.specs.Prelude.{◌≡◌, ℕ, vec_capacity}
use Rattle.std.specs.Vec.{with_item}
use Rattle.std.proofs.Common.{ap}
use Rattle.arena_core.specs.SlotStack.{IsWithinMaximum, IsWithinMaximum-prop}
use Rattle.arena_ptr.specs.declared.limited_stack.LimitedStack.{LimitedStack}

abbrev pub with_item_at : {E : Type 0} → LimitedStack E → ℕ → E → LimitedStack E
with_item_at s i e = record { slots = with_item s.slots i e; most = s.most; within = s.within }

pub same_within : {E : Type 0} (s : LimitedStack E) (within : IsWithinMaximum s.most (vec_capacity s.slots)) → record s { within = within } ≡ s
same_within s within =
    ap (λ (w : IsWithinMaximum s.most (vec_capacity s.slots)). record s { within = w }) (IsWithinMaximum-prop s.most (vec_capacity s.slots) within s.within)
