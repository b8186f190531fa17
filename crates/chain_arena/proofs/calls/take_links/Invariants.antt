-- The links taken and those left are the walk.
use Rattle.std.proofs.Common.{◌≡◌, ◌+◌, ◌≤◌, length}
use Rattle.chain_arena.specs.Drains.{walk_left, without_each}
use Rattle.chain_arena.proofs.calls.take_links.Given as goal

abbrev pub invariant-loop-left : goal.invariant-loop-left
invariant-loop-left g l = record {
  within : l.left ≤ l.take;
  counted : l.take + length (walk_left l.links.arena.now l.links.at) ≡ l.left + length (walk_left l.fn.links.arena.now l.fn.links.at);
  state : without_each g.P.Gen.GenKey.following l.links.arena.now (walk_left l.links.arena.now l.links.at) ≡ without_each g.P.Gen.GenKey.following l.fn.links.arena.now (walk_left l.fn.links.arena.now l.fn.links.at);
  same_reference : l.links.arena.ghost_name ≡ l.fn.links.arena.ghost_name;
}
