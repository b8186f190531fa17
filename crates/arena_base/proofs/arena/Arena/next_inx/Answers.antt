use Rattle.std.proofs.Common.{◌≡◌, ℕ, ◌+◌, ◌∙◌, Option, None, Some, ap, sym, arith}
use Rattle.std.specs.Prelude.{IsSome, IfSome}
use Rattle.std.specs.Option.{option_map}
use Rattle.std.proofs.lemmas.Bool.{false≢true}
use Rattle.std.proofs.lemmas.List.{length-map}
use Rattle.arena_base.specs.Slots.{entry_of}
use Rattle.arena_base.proofs.SoundnessLemmas.{none_freed, first_freed, first_new}
use Rattle.arena_base.proofs.arena.Arena.next_inx.Goals as goal

numbered : {I : Type 0} (number : I → ℕ) (n m : ℕ) (o : Option I) → IsSome o → IfSome o (λ i. number i ≡ n) → n ≡ m → option_map number o ≡ Some m
numbered number n m None some is same = absurd (false≢true some)
numbered number n m (Some i) some is same = ap Some (is ∙ same)

pub returns-in-Some : goal.returns-in-Some
returns-in-Some g c = rw (← c.self.view_is) (λ less. ap Some (first_freed g.P.Inx.InxKey.packed_number _ c.self.invariant (sym c.in-Some.ensures) _))

pub returns-in-None : goal.returns-in-None
returns-in-None g c =
    let packed_number = g.P.Inx.InxKey.packed_number in
    let sound = c.self.invariant in
    let none = sym c.in-None.ensures in
    rw (← c.self.view_is) (λ less. numbered g.P.Inx.InxKey.number _ _ c.try_from_usize.result
    (c.try_from_usize.ensures.variant.1 (let counted = sound.counted in (omega arith, omega (arith, less, counted))))
    c.try_from_usize.ensures.value (ap (λ n. n + 1) (none_freed packed_number sound none ∙ sym (length-map (g.S.SlotStack.items c.self.inside.slots) entry_of)) ∙ first_new packed_number sound none _))
