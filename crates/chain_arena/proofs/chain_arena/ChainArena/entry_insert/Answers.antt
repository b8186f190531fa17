use mathlib.Core.Option.{some}
use Rattle.std.proofs.Common.{refl, ap, sym}
use Rattle.arena_core.proofs.PointerKindLemmas.{kind_by}
use Rattle.chain_arena.proofs.NewLinkLemmas.{fits_grown, grown_capacity}
use Rattle.chain_arena.proofs.InsertEntryLemmas.{entry_for}
use Rattle.chain_arena.proofs.chain_arena.ChainArena.entry_insert.Goals as goal

pub entry_between-requires-clause-capacity : goal.entry_between-requires-clause-capacity
entry_between-requires-clause-capacity g c = grown_capacity g.S.SlotStack.may_reach g.P.Inx.InxKey.greatest c.args.self.now c.beside_with_growth.new.self (rw c.in-Ok-Some.field-0-is at c.in-Ok-Some.ensures.beside).2

pub entry_between-requires-clause-position : goal.entry_between-requires-clause-position
entry_between-requires-clause-position g c =
    let found = rw c.in-Ok-Some.field-0-is at c.in-Ok-Some.ensures.beside in
    fits_grown (kind_by g.P.PtrKey g.P.Inx.InxKey g.P.Gen.GenKey) c.args.self.now c.args.kind c.in-Ok-Some.beside c.beside_with_growth.ensures.agreed found.0 found.1 g.S.SlotStack.may_reach c.beside_with_growth.new.self found.2

pub returns-in-Ok-Some : goal.returns-in-Ok-Some
returns-in-Ok-Some g c =
    let made = c.entry_between.ensures in
    let found = rw c.in-Ok-Some.field-0-is at c.in-Ok-Some.ensures.beside in
    let entry = entry_for (kind_by g.P.PtrKey g.P.Inx.InxKey g.P.Gen.GenKey) g.S.SlotStack.may_reach c.args.self.now c.beside_with_growth.new.self c.entry_between.result.arena.now c.args.kind c.in-Ok-Some.beside c.entry_between.result.prev c.entry_between.result.next
    found.1 found.2 made.arena made.prev made.next in (
      (ap some (sym made.same_reference), (λ _. refl), tt),
      record { unchanged_at_err = tt; outcome = entry; same_reference = made.same_reference },
    )

pub proved_unreachable-assume_proved-requires : goal.proved_unreachable-assume_proved-requires
proved_unreachable-assume_proved-requires g c = absurd ((rw c.in-Ok-None.field-0-is at c.in-Ok-None.ensures.beside).0 c.requires)

pub returns-in-Err : goal.returns-in-Err
returns-in-Err g c =
    let refused = c.in-Err.ensures.beside in (
      (refl, (λ _. tt), refused.2),
      record { unchanged_at_err = tt; outcome = refused.1; same_reference = tt },
    )
