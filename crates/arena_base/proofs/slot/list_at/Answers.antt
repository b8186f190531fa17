use Rattle.std.proofs.Common.{Some, ◌∙◌, ap}
use Rattle.arena_base.proofs.slot.list_at.Goals as goal

pub returns : goal.returns
returns g c = record {
  index = c.pack.ensures ∙ ap (λ n. Some n) c.inx_at.ensures;
  items = c.write_at.ensures.items;
  bounds = c.write_at.ensures.bounds;
}
