use Rattle.std.proofs.Common.{◌∙◌, Some, ap}
use Rattle.arena_traits.specs.Entries.{view_of}
use Rattle.arena_traits.proofs.ArenaViewLemmas.{viewed_removed}
use Rattle.arena_traits.proofs.CallOutcomeLemmas.{reports_more, reports_none, reports_some}
use Rattle.arena_base.proofs.arena_trait.ArenaArenaTrait.remove_inx.Goals as goal

pub returns : goal.returns
returns g c =
    let wraps = g.P.Gen.GenKey.wraps in
    let counter = Some c.args.self.now.counter in
    let r = c.take_at.result in
    let made = c.take_at.ensures in
    record {
      outcome = reports_more wraps _ _ _ _ counter r made (λ none. none.0) (λ e done. (done.0, ap view_of done.1 ∙ viewed_removed g.P.Gen.GenKey.following c.args.self.now (g.P.Inx.InxKey.number c.args.i)));
      invalid = reports_none wraps _ _ counter r made (λ none. none.1);
      implementation = reports_some wraps _ _ counter r made (λ e done. done.1);
    }
