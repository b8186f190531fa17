use Rattle.std.proofs.Common.{◌∙◌, ap}
use Rattle.arena_traits.specs.Entries.{first_key, last_key}
use Rattle.arena_base.proofs.EntryRangeLemmas.{ahead_up, ahead_down}
use Rattle.arena_base.proofs.arena.Arena.find.Goals as goal

pub returns-in-Up : goal.returns-in-Up
returns-in-Up g c = record {
  key = rw c.in-Up.is (c.first_from.ensures.key ∙ ap first_key (ahead_up c.args.self.now.slots c.in-Up.from c.saturating_sub.result c.saturating_sub.ensures));
  fits = c.first_from.ensures.fits;
}

pub returns-in-Down : goal.returns-in-Down
returns-in-Down g c = record {
  key = rw c.in-Down.is (c.last_to.ensures.key ∙ ap last_key (ahead_down c.args.self.now.slots c.in-Down.to));
  fits = c.last_to.ensures.fits;
}
