use Rattle.std.proofs.Common.{◌≡◌}
use Rattle.surject_arena.proofs.MoveLemmas.{first_generation, no_generation}
use Rattle.surject_arena.proofs.compression.compress_values.Goals as goal

pub returns-in-Some-clause-generations : goal.returns-in-Some-clause-generations
returns-in-Some-clause-generations g c = first_generation _ (g.P.PtrKey.key c.in-Some.q) (g.B.ArenaTrait.view c.compress-overflow.new.self).entries c.compress-overflow.ensures.outcome.compressed.generations c.in-Some.ensures

pub returns-in-None-clause-generations : goal.returns-in-None-clause-generations
returns-in-None-clause-generations g c = no_generation (λ e. e.0.1 ≡ (g.P.PtrKey.key c.invalid.result).1) (g.B.ArenaTrait.view c.compress-overflow.new.self).entries c.in-None.ensures
