use Rattle.std.proofs.Common.{◌≡◌, length, sym, ◌∙◌, ap, eq-eqb, rules}
use Rattle.arena_traits.specs.Arena.{entry_count}
use Rattle.arena_traits.proofs.ArenaViewLemmas.{length-entries, no_entries}
use Rattle.arena_base.proofs.arena_trait.ArenaArenaTrait.is_empty.Goals as goal

pub returns : goal.returns
returns g c =
    let count : c.self.inside.len ≡ entry_count c.args.self.now = rw (← c.self.view_is) c.self.invariant.counted in (
      λ zero. let is : c.self.inside.len ≡ 0 = search rules in no_entries c.args.self.now (sym count ∙ is),
      λ none. eq-eqb c.self.inside.len 0 (count ∙ (sym (length-entries c.args.self.now) ∙ ap length none)),
    )
