use Rattle.std.proofs.Common.{rules, ap}
use Rattle.arena_base.proofs.CompactedArenaLemmas.{gathers}
use Rattle.arena_base.proofs.arena.Arena.gather.Goals as goal

pub returns : goal.returns
returns g c =
    gathers g.F.FnMut g.P.PtrKey.key c.args.map g.P.Inx.InxKey.greatest g.S.SlotStack.initial_maximum c.self.inside.counter c.args.self.now c.compactor-compactor.result.arena.now c.compact_entries-count.new.compactor.arena.now _ c.compactor-compactor.result.detached c.compact_entries-count.new.compactor.detached
    c.compactor-compactor.ensures.arena c.compactor-compactor.ensures.detached (rw (← c.self.view_is)) (ap (λ a. a.counter) c.self.view_is) c.compact_entries-count.ensures.closed c.compact_entries-count.ensures.visits c.compact_entries-count.ensures.totals (search rules)
