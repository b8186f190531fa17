use Rattle.arena_core.proofs.OptionLemmas.{read_same}
use Rattle.arena_ptr.proofs.limited_stack.LimitedStackSlotStack.get_mut.Goals as goal

pub returns : goal.returns
returns g c = (
  read_same c.slot_mut.result _ _ _ _ c.slot_mut.follows.holds c.slot_mut.follows.holds-at-none,
  record { lends = tt; value = c.slot_mut.ensures.value },
)
