use Rattle.std.proofs.Common.{◌+◌, refl, ap, ◌∙◌, arith}
use Rattle.arena_traits.specs.Arena.{IsValid}
use Rattle.arena_traits.specs.Growth.{RefusesOneMore}
use Rattle.chain_links.proofs.OccupiedIndexLemmas.{unlinked}
use Rattle.surject_arena.specs.Partitions.{member, counted, member_view, counted_view}
use Rattle.surject_arena.specs.Surjections.{map_view}
use Rattle.surject_arena.proofs.ViewLemmas.{valid-each, each-valid, added-each, written-each, grows-each, refuses-each}
use Rattle.surject_arena.proofs.SetReadLemmas.{key_of, has_value, size_read, size_fits, size_stored}
use Rattle.surject_arena.proofs.SetChangeLemmas.{with_key, value_written, sizes_elsewhere}
use Rattle.surject_arena.proofs.CallLemmas.{refusal_to}
use Rattle.surject_arena.proofs.surject.SurjectArena.insert_key.Goals as goal

pub returns-in-None-clause-outcome : goal.returns-in-None-clause-outcome
returns-in-None-clause-outcome g c = rw (← c.self.view_is) (λ valid. absurd (let some = c.in-None.ensures.some.1 (each-valid (member_view g.P.PtrKey.key) g.A.ArenaTrait.state c.self.inside.keys (g.P.PtrKey.key c.args.p) valid) in cc))

pub overflow_add-n : goal.overflow_add-n
overflow_add-n g c =
    let key = g.P.PtrKey.key in
    let a = c.self.inside.keys in
    let b = c.self.inside.values in
    let w = key c.in-Some.w in
    let known = size_read key g.A.ArenaTrait.state g.B.ArenaTrait.state a b 0 (g.A.ChainArenaTrait.interlinks a) c.self.invariant (key c.args.p).0 w c.size_of-n.result c.in-Some.ensures.set c.size_of-n.ensures in
    let few = size_fits key g.A.ArenaTrait.state g.B.ArenaTrait.state a b 0 (g.A.ChainArenaTrait.interlinks a) c.self.invariant w known.0 c.size_of-n.result known.1 in
    omega (arith, few, c.invariants.ensures.sound.one_more)

pub invariant_of-self : goal.invariant_of-self
invariant_of-self g c =
    let key = g.P.PtrKey.key in
    let a = c.self.inside.keys in
    let b = c.self.inside.values in
    let d = c.set_size.new.values in
    let links = g.A.ChainArenaTrait.interlinks in
    let p = key c.args.p in
    let q = key c.in-Ok.q in
    let w = key c.in-Some.w in
    let n = c.size_of-n.result in
    let known = size_read key g.A.ArenaTrait.state g.B.ArenaTrait.state a b 0 (links a) c.self.invariant p.0 w n c.in-Some.ensures.set c.size_of-n.ensures in
    let written = c.set_size.ensures known.0 n known.1 in
    let link = c.in-Ok.ensures.outcome.1.0 in
    with_key key (g.A.ArenaTrait.entry a) (g.A.ArenaTrait.entry c.insert_reallocating.new.self) (g.B.ArenaTrait.entry b) (g.B.ArenaTrait.entry d) (links a) (links c.insert_reallocating.new.self) c.self.invariant
    p.0 q c.args.k c.in-Some.w n c.in-Some.ensures.set c.invariants.ensures.agree (unlinked (g.A.ArenaTrait.entry a) (links a) q.0 (g.met.A.ChainArenaTrait.links_are_entries a q.0) link.entries.free) link.entries link.chains
    (size_stored (g.B.ArenaTrait.entry b) w.0 w.1 known.0 n known.1)
    (size_stored (g.B.ArenaTrait.entry d) w.0 w.1 known.0 (n + 1) (value_written g.B.ArenaTrait.state b d w known.0 known.0 n (n + 1) written known.1))
    (sizes_elsewhere g.B.ArenaTrait.state b d w known.0 (n + 1) written)

pub returns-in-Ok-clause-outcome : goal.returns-in-Ok-clause-outcome
returns-in-Ok-clause-outcome g c =
    let key = g.P.PtrKey.key in
    let a = c.self.inside.keys in
    let b = c.self.inside.values in
    let r = c.self.inside.redirected in
    let links = g.A.ChainArenaTrait.interlinks in
    let p = key c.args.p in
    let w = key c.in-Some.w in
    let n = c.size_of-n.result in
    let valid = c.in-Some.ensures.some.0 refl in
    let known = size_read key g.A.ArenaTrait.state g.B.ArenaTrait.state a b r (links a) c.self.invariant p.0 w n c.in-Some.ensures.set c.size_of-n.ensures in
    let outcome = c.in-Ok.ensures.outcome in
    let link = outcome.1.0 in
    rw (← c.self.view_is) (
      valid-each (member_view key) g.A.ArenaTrait.state a p valid,
      (
        record {
          set = w;
          beside = key_of key g.A.ArenaTrait.state g.B.ArenaTrait.state a b r p w valid c.in-Some.ensures.set;
          key = added-each (member_view key) g.A.ArenaTrait.state a c.insert_reallocating.new.self (member c.args.k c.in-Some.w) (key c.in-Ok.q) link.entries link.more link.generation link.index link.slots link.counter link.maximum;
          value = known.0;
          size = n;
          valued = has_value key g.A.ArenaTrait.state g.B.ArenaTrait.state a b r w known.0 n known.1;
          values = ap (map_view counted_view) (c.set_size.ensures known.0 n known.1) ∙ written-each counted_view (g.B.ArenaTrait.view b) w.0 (counted known.0 (n + 1));
          redirected = refl;
        },
        grows-each (member_view key) g.P.Inx.InxKey.greatest (g.A.ArenaTrait.view a) (g.A.ArenaTrait.view c.insert_reallocating.new.self) outcome.1.1,
      ),
    )

pub returns-in-Err-clause-outcome : goal.returns-in-Err-clause-outcome
returns-in-Err-clause-outcome g c =
    let f = member_view g.P.PtrKey.key in
    let a = c.self.inside.keys in
    let p = g.P.PtrKey.key c.args.p in
    rw (← c.self.view_is) (refusal_to (IsValid (g.A.ArenaTrait.entry a) p) _ (RefusesOneMore (g.A.ArenaTrait.view a)) _ (valid-each f g.A.ArenaTrait.state a p) (each-valid f g.A.ArenaTrait.state a p) (refuses-each f (g.A.ArenaTrait.view a)) c.in-Err.e c.in-Err.ensures.outcome)
