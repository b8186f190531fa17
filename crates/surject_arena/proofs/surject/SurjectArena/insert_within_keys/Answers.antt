use Rattle.std.proofs.Common.{refl}
use Rattle.surject_arena.specs.Partitions.{member, counted, member_view, counted_view}
use Rattle.surject_arena.proofs.ViewLemmas.{added-each, grows-each}
use Rattle.surject_arena.proofs.SetChangeLemmas.{with_set}
use Rattle.surject_arena.proofs.surject.SurjectArena.insert_within_keys.Goals as goal

pub invariant_of-self-2 : goal.invariant_of-self-2
invariant_of-self-2 g c =
    let a = c.self.inside.keys in
    let b = c.self.inside.values in
    let link = c.in-Ok-insert_within_capacity.ensures.outcome.2.0 in
    with_set g.P.PtrKey.key (g.A.ArenaTrait.entry a) (g.A.ArenaTrait.entry c.insert_within_capacity.new.self) (g.B.ArenaTrait.entry b) (g.B.ArenaTrait.entry c.insert_reallocating.new.self)
    (g.A.ChainArenaTrait.interlinks a) (g.A.ChainArenaTrait.interlinks c.insert_within_capacity.new.self) c.self.invariant (g.P.PtrKey.key c.in-Ok-insert_within_capacity.p) c.args.k c.args.v c.in-Ok.w
    link.entries link.chains c.in-Ok.ensures.outcome.0.entries

pub returns-clause-outcome : goal.returns-clause-outcome
returns-clause-outcome g c =
    let key = g.P.PtrKey.key in
    let a = c.self.inside.keys in
    let b = c.self.inside.values in
    let outcome = c.in-Ok-insert_within_capacity.ensures.outcome in
    let link = outcome.2.0 in
    let grown = c.in-Ok.ensures.outcome in
    let value = grown.0 in
    rw (← c.self.view_is) (
      record {
        set = key c.in-Ok.w;
        key = added-each (member_view key) g.A.ArenaTrait.state a c.insert_within_capacity.new.self (member c.args.k c.in-Ok.w) (key c.in-Ok-insert_within_capacity.p) link.entries link.more link.generation link.index link.slots link.counter link.maximum;
        value = added-each counted_view g.B.ArenaTrait.state b c.insert_reallocating.new.self (counted c.args.v 1) (key c.in-Ok.w) value.entries value.more value.generation value.index value.slots value.counter value.maximum;
        redirected = refl;
      },
      outcome.2.1,
      grows-each counted_view g.P.Inx.InxKey.greatest (g.B.ArenaTrait.view b) (g.B.ArenaTrait.view c.insert_reallocating.new.self) grown.1,
    )
