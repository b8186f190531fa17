use Rattle.std.proofs.Common.{◌≡◌, ℕ, sym, subst, subst₂}
use Rattle.std.specs.Prelude.{IfSome}
use Rattle.arena_core.specs.Invalidation.{invalidation_option}
use Rattle.arena_traits.specs.Compressions.{VisitsAll, overflows_after_compression}
use Rattle.surject_arena.specs.Partitions.{member_view}
use Rattle.surject_arena.proofs.CompressionLemmas.{compressed_partition, sets_compressed, keys_seen}
use Rattle.surject_arena.proofs.ViewLemmas.{count-each}
use Rattle.surject_arena.proofs.surject.SurjectArena.compress_with.Goals as goal

pub invariant_of-self : goal.invariant_of-self
invariant_of-self g c =
    let a = c.self.inside.keys in
    let d = c.compress_values-first.new.values in
    compressed_partition g.P.PtrKey.key g.A.ArenaTrait.state g.B.ArenaTrait.state a c.compress_keys.new.keys c.self.inside.values d (g.A.ChainArenaTrait.interlinks a) (g.A.ChainArenaTrait.interlinks c.compress_keys.new.keys)
    g.P.Gen.GenKey.first g.P.Gen.GenKey.following c.args.reset g.P.Inx.InxKey.greatest c.in-Ok.places.items (g.P.PtrKey.key c.compress_values-first.result).1 c.self.invariant c.in-Ok.ensures.places
    c.compress_values-first.ensures.compressed c.compress_values-first.ensures.values c.compress_values-first.ensures.generations c.compress_values-first.ensures.indexes
    c.compress_keys.ensures.outcome.compressed c.compress_keys.ensures.links c.compress_keys.ensures.sets

pub returns-clause-outcome : goal.returns-clause-outcome
returns-clause-outcome g c =
    let a = c.self.inside.keys in
    let d = c.compress_values-first.new.values in
    record {
      compressed = rw (← c.self.view_is) (sets_compressed g.P.PtrKey.key g.A.ArenaTrait.state g.B.ArenaTrait.state a c.compress_keys.new.keys c.self.inside.values d (g.A.ChainArenaTrait.interlinks a) (g.A.ChainArenaTrait.interlinks c.compress_keys.new.keys)
          g.P.Gen.GenKey.first g.P.Gen.GenKey.following c.args.reset g.P.Inx.InxKey.greatest c.in-Ok.places.items (g.P.PtrKey.key c.compress_values-first.result).1 c.self.invariant c.in-Ok.ensures.places
          c.compress_values-first.ensures.compressed c.compress_values-first.ensures.values c.compress_values-first.ensures.generations c.compress_values-first.ensures.indexes
          c.compress_keys.ensures.outcome.compressed c.compress_keys.ensures.links c.compress_keys.ensures.sets c.self.inside.redirected);
      overflow = rw (← c.self.view_is) (subst (λ (n : ℕ). IfSome (g.A.ArenaTrait.view a).counter (λ h. c.compress_keys.result ≡ invalidation_option (overflows_after_compression g.P.Gen.GenKey.wraps c.args.reset n h) tt))
          (sym (count-each (member_view g.P.PtrKey.key) (g.A.ArenaTrait.view a))) c.compress_keys.ensures.outcome.overflow);
    }

pub returns-clause-visits : goal.returns-clause-visits
returns-clause-visits g c = rw (← c.self.view_is) (subst₂ (VisitsAll g.F.FnMut g.P.PtrKey.key c.args.map) (sym (keys_seen g.P.PtrKey.key (g.A.ArenaTrait.view c.self.inside.keys).entries)) (sym (keys_seen g.P.PtrKey.key (g.A.ArenaTrait.view c.compress_keys.new.keys).entries)) c.compress_keys.ensures.visits)
