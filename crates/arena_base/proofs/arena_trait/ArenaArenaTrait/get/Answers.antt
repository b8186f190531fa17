use Rattle.std.proofs.Common.{◌≡◌, ◌+◌, ℕ, true, false, Option, Some, None, refl, sym, ap, ◌∙◌, arith}
use Rattle.std.specs.Prelude.{◌-◌}
use Rattle.std.proofs.lemmas.Option.{slice_get_past}
use Rattle.arena_traits.specs.Arena.{IsValid, entry_at}
use Rattle.arena_base.proofs.SlotLemmas.{entry_at-position}
use Rattle.arena_base.proofs.arena_trait.ArenaArenaTrait.get.Goals as goal

none_valid : {Gen T : Type 0} (entry : ℕ → Option (Gen × T)) (p : ℕ × Gen) → entry p.0 ≡ None → IsValid entry p → false ≡ true
none_valid entry p none valid = absurd (let e = sym none ∙ valid.stored in cc)

other_valid : {Gen T : Type 0} (entry : ℕ → Option (Gen × T)) (p : ℕ × Gen) (e : Gen × T) → entry p.0 ≡ Some e → (e.0 ≡ p.1 → ⊥) → IsValid entry p → false ≡ true
other_valid entry p e at other valid = absurd (other (let same = sym at ∙ valid.stored in cc))

pub returns-then-number_of-len : goal.returns-then-number_of-len
returns-then-number_of-len g c =
    let slots = g.S.SlotStack.items c.self.inside.slots in
    let n = (g.P.PtrKey.key c.args.p).0 in
    let last : n - 1 + 1 ≡ n = omega (arith, g.met.P.Inx.InxKey.at_least_one c.inx-i.result, c.inx-i.ensures) in
    let none : entry_at c.args.self.now n ≡ None =
    rw (← c.self.view_is, entry_at-position slots (n - 1) n last, slice_get_past slots (n - 1) (omega (arith, c.if-number_of-len.true, c.number_of.ensures, c.inx-i.ensures, c.len.ensures))) in
    record { some = (λ no. absurd (cc), none_valid (entry_at c.args.self.now) (g.P.PtrKey.key c.args.p) none); value = tt }

pub returns-then-is_same : goal.returns-then-is_same
returns-then-is_same g c =
    let slots = g.S.SlotStack.items c.self.inside.slots in
    let n = (g.P.PtrKey.key c.args.p).0 in
    let at : entry_at c.args.self.now n ≡ Some (c.in-Some-Allocated.generation, c.in-Some-Allocated.t) =
    rw (← c.self.view_is, entry_at-position slots c.position_of.result n (c.position_of.ensures ∙ c.inx-i.ensures), ← c.in-Some-Allocated.ensures, c.in-Some-Allocated.field-0-is) in
    let same = (g.met.P.Gen.GenKey.same_is_equal c.in-Some-Allocated.generation c.generation.result).0 (sym c.is_same.ensures ∙ c.if-is_same.true) ∙ c.generation.ensures in
    let stored : entry_at c.args.self.now n ≡ Some ((g.P.PtrKey.key c.args.p).1, c.in-Some-Allocated.t) = at ∙ ap (λ h. Some (h, c.in-Some-Allocated.t)) same in
    record { some = (λ _. record { value = c.in-Some-Allocated.t; stored = stored }, λ _. refl); value = stored }

pub returns-else-is_same : goal.returns-else-is_same
returns-else-is_same g c =
    let slots = g.S.SlotStack.items c.self.inside.slots in
    let n = (g.P.PtrKey.key c.args.p).0 in
    let at : entry_at c.args.self.now n ≡ Some (c.in-Some-Allocated.generation, c.in-Some-Allocated.t) =
    rw (← c.self.view_is, entry_at-position slots c.position_of.result n (c.position_of.ensures ∙ c.inx-i.ensures), ← c.in-Some-Allocated.ensures, c.in-Some-Allocated.field-0-is) in
    record {
      some = (
        λ no. absurd (cc),
        other_valid (entry_at c.args.self.now) (g.P.PtrKey.key c.args.p) (c.in-Some-Allocated.generation, c.in-Some-Allocated.t) at
            (λ is. let yes = (g.met.P.Gen.GenKey.same_is_equal c.in-Some-Allocated.generation c.generation.result).1 (is ∙ sym c.generation.ensures) in
            let both : true ≡ false = sym yes ∙ (sym c.is_same.ensures ∙ c.if-is_same.false) in cc),
      );
      value = tt;
    }

pub returns-in-Some-Free : goal.returns-in-Some-Free
returns-in-Some-Free g c =
    let slots = g.S.SlotStack.items c.self.inside.slots in
    let n = (g.P.PtrKey.key c.args.p).0 in
    let none : entry_at c.args.self.now n ≡ None =
    rw (← c.self.view_is, entry_at-position slots c.position_of.result n (c.position_of.ensures ∙ c.inx-i.ensures), ← c.in-Some-Free.ensures, c.in-Some-Free.field-0-is) in
    record { some = (λ no. absurd (cc), none_valid (entry_at c.args.self.now) (g.P.PtrKey.key c.args.p) none); value = tt }
