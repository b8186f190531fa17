use Rattle.std.proofs.Common.{◌+◌, ap, ◌∙◌, arith}
use Rattle.arena_traits.specs.Arena.{entry_count, next_index, insert_next}
use Rattle.arena_base.proofs.ArenaModelLemmas.{inserted_grown, capacity_grown}
use Rattle.arena_base.proofs.arena.Arena.insert_reallocating.Goals as goal

pub returns-in-Ok : goal.returns-in-Ok
returns-in-Ok g c =
    let old = c.args.self.now in
    let grown = c.in-Ok.ensures.outcome in
    let made = c.insert_next.ensures in
    record {
      outcome = record {
        key = made.ptr ∙ ap (λ a. (next_index a, a.counter)) grown.state;
        state = inserted_grown old _ _ c.args.t grown.state made.after;
        capacity = capacity_grown old _ _ c.args.t grown.state made.after g.S.SlotStack.may_reach g.P.Inx.InxKey.greatest (entry_count old + 1) grown.capacity;
        within = λ few. made.after ∙ ap (λ a. insert_next a c.args.t) (grown.within (omega (arith, few)));
      };
      err = tt;
    }

pub returns-in-Err : goal.returns-in-Err
returns-in-Err g c = c.in-Err.ensures
