use Rattle.std.proofs.Common.{sym, ◌∙◌}
use Rattle.surject_arena.specs.Partitions.{member_view}
use Rattle.surject_arena.proofs.ViewLemmas.{pointers-each}
use Rattle.surject_arena.proofs.surject.SurjectArena.iter.Goals as goal

pub returns : goal.returns
returns g c = rw (← c.self.view_is) (c.all_keys.ensures ∙ sym (pointers-each (member_view g.P.PtrKey.key) (g.A.ArenaTrait.view c.self.inside.keys).entries))
