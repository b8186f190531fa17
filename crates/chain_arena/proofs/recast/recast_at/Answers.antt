use Rattle.std.proofs.Common.{ap}
use Rattle.arena_traits.specs.Entries.{ArenaView}
use Rattle.chain_arena.proofs.recast.recast_at.Goals as goal

pub returns-in-Some : goal.returns-in-Some
returns-in-Some g c = λ valid.
    let held = rw c.in-Some.is at (c.get_mut.follows.holds c.recast.new.self) in
    record {
      was = c.in-Some.t.now;
      is = c.recast.new.self;
      was_stored = c.in-Some.ensures.value;
      state = held.1.0;
      links = held.1.1;
      entries = ap (λ (s : ArenaView _ _). s.entries) held.0;
      recast = c.recast.ensures;
    }
