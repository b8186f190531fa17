use mathlib.Core.Option.{some}
use Rattle.std.proofs.Common.{refl, ap, sym}
use Rattle.arena_core.proofs.PointerKindLemmas.{kind_by}
use Rattle.chain_arena.proofs.NewLinkLemmas.{fits_beside, free_capacity}
use Rattle.chain_arena.proofs.InsertEntryLemmas.{entry_for}
use Rattle.chain_arena.proofs.chain_arena.ChainArena.entry_insert_within_capacity.Goals as goal

pub entry_between-requires-clause-capacity : goal.entry_between-requires-clause-capacity
entry_between-requires-clause-capacity g c = free_capacity c.args.self.now c.in-Ok.ensures.beside.1

pub entry_between-requires-clause-position : goal.entry_between-requires-clause-position
entry_between-requires-clause-position g c =
    fits_beside (kind_by g.P.PtrKey g.P.Inx.InxKey g.P.Gen.GenKey) c.args.self.now c.args.kind c.in-Ok.beside c.in-Ok.ensures.agree c.in-Ok.ensures.beside.0 c.in-Ok.ensures.beside.2.0

pub returns-in-Ok : goal.returns-in-Ok
returns-in-Ok g c =
    let old = c.args.self.now in
    let made = c.entry_between.ensures in
    let found = c.in-Ok.ensures.beside in (
      (ap some (sym made.same_reference), (λ _. refl), tt),
      record {
        unchanged_at_err = tt;
        outcome = (
          found.0,
          found.1,
          (
            made.arena,
            entry_for (kind_by g.P.PtrKey g.P.Inx.InxKey g.P.Gen.GenKey) g.S.SlotStack.may_reach old old c.entry_between.result.arena.now c.args.kind c.in-Ok.beside c.entry_between.result.prev c.entry_between.result.next
                found.2.0 found.2.1 made.arena made.prev made.next,
          ),
        );
        same_reference = made.same_reference;
      },
    )

pub returns-in-Err : goal.returns-in-Err
returns-in-Err g c = (
  (refl, (λ _. tt), refl),
  record { unchanged_at_err = tt; outcome = c.in-Err.ensures.beside; same_reference = tt },
)
