use Rattle.std.proofs.Common.{refl, sym, ap, ◌∙◌}
use Rattle.arena_traits.specs.Arena.{entry_at}
use Rattle.arena_base.proofs.ExchangeLemmas.{exchanged_arena, exchanged_itself}
use Rattle.arena_base.proofs.arena_trait.ArenaPlainArenaTrait.swap.Goals as goal

pub returns-then-number_of-clause-outcome : goal.returns-then-number_of-clause-outcome
returns-then-number_of-clause-outcome g c =
    let a = c.args.self.now in
    let first = c.if-not-contains.ensures.0 refl in
    let second = c.if-not-contains-2.ensures.0 refl in
    let at = c.inx-then-number_of.ensures in
    let also_at = c.inx-then-number_of-2.ensures in
    let exchanged = rw (at, also_at) at (c.exchange_at.ensures _ _ first.value second.value (ap (entry_at a) at ∙ first.stored) (ap (entry_at a) also_at ∙ second.stored)) in
    (first.value, second.value, first.stored, second.stored, exchanged_arena a c.exchange_at.new.self _ _ first.value second.value exchanged)

pub returns-else-number_of-clause-outcome : goal.returns-else-number_of-clause-outcome
returns-else-number_of-clause-outcome g c =
    let a = c.args.self.now in
    let key = g.P.PtrKey.key in
    let first = c.if-not-contains.ensures.0 refl in
    let second = c.if-not-contains-2.ensures.0 refl in
    let same = sym c.inx.ensures ∙ (sym c.number_of.ensures ∙ (c.if-number_of.false ∙ (c.number_of-2.ensures ∙ c.inx-2.ensures))) in
    (first.value, second.value, first.stored, second.stored, exchanged_arena a a _ _ first.value second.value (exchanged_itself a (key c.args.p) (key c.args.q) first.value second.value same first.stored second.stored))
