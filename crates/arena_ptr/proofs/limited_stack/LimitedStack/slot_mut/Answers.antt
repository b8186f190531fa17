use Rattle.std.proofs.Common.{◌≡◌, ℕ, List, Option, Some, None, refl, sym, MutBor}
use Rattle.std.proofs.lemmas.Option.{slice_get_past, slice_get_read}
use Rattle.std.specs.List.{slice_get, IsItemAtMut}
use Rattle.std.specs.Option.{option_copied_mut}
use Rattle.arena_ptr.specs.LimitedStack.{same_within}
use Rattle.arena_core.proofs.OptionLemmas.{on_some}
use Rattle.arena_ptr.proofs.limited_stack.LimitedStack.slot_mut.Goals as goal

reported_at : {X : Type 0} (o : Option (MutBor X)) (xs : List X) (i : ℕ) → IsItemAtMut xs i o → option_copied_mut o ≡ slice_get xs i
reported_at None xs i item = sym (slice_get_past xs i item.3)
reported_at (Some x) xs i item = sym (slice_get_read xs _ i x.now refl item.3.0 item.1)

pub returns : goal.returns
returns g c = (
  (refl, (λ w. on_some c.get_mut.result (same_within _ _)), same_within c.args.self.now _),
  record { lends = tt; value = reported_at c.get_mut.result _ _ c.get_mut.ensures.item },
)
