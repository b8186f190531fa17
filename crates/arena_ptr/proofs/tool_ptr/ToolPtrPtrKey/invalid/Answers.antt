use Rattle.std.proofs.Common.{◌≡◌, refl, subst}
use Rattle.std.specs.Prelude.{IfSome}
use Rattle.arena_ptr.specs.CountedGenerations.{one_is_never_counted}
use Rattle.arena_ptr.specs.Generations.{number_of_gen32, two32, after32}
use Rattle.arena_ptr.proofs.tool_ptr.ToolPtrPtrKey.invalid.Goals as goal

pub returns-clause-never : goal.returns-clause-never
returns-clause-never c =
    let one = subst (λ o. IfSome o (λ g. number_of_gen32 g ≡ 1)) c.unwrap-2.ensures c.new-2.ensures.value in
    one_is_never_counted number_of_gen32 0xffff_ffff two32 after32 refl (λ _. refl) _ one
