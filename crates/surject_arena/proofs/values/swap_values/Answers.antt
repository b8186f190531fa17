use Rattle.std.proofs.Common.{ap, ◌∙◌}
use Rattle.arena_traits.specs.Entries.{view_with_value}
use Rattle.surject_arena.specs.Partitions.{counted}
use Rattle.surject_arena.proofs.SetReadLemmas.{size_stored}
use Rattle.surject_arena.proofs.SwapLemmas.{second_kept, swapped_back}
use Rattle.surject_arena.proofs.values.swap_values.Goals as goal

pub returns : goal.returns
returns g c apart t u n m first second =
    let key = g.P.PtrKey.key in
    let v = key c.args.v in
    let w = key c.args.w in
    let state = g.B.ArenaTrait.state in
    let view = g.B.ArenaTrait.view in
    let b = c.args.values.now in
    let mid = c.set_size.new.values in
    let size_n = c.size_of-n.ensures n (size_stored (g.B.ArenaTrait.entry b) v.0 v.1 t n first) in
    let size_m = c.size_of-m.ensures m (size_stored (g.B.ArenaTrait.entry b) w.0 w.1 u m second) in
    let one = c.set_size.ensures t n first ∙ ap (λ k. view_with_value (view b) v.0 (counted t k)) size_m in
    let two = c.set_size-2.ensures u m (second_kept state key b mid c.set_size-2.new.values c.swap.new.self c.args.v c.args.w t u n m apart first second one)
    ∙ ap (λ k. view_with_value (view mid) w.0 (counted u k)) size_n in
    swapped_back state key b mid c.set_size-2.new.values c.swap.new.self c.args.v c.args.w t u n m apart first second one two c.swap.result c.swap.ensures.outcome
