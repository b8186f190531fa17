use Rattle.std.proofs.Common.{refl, ap, ◌∙◌, length}
use Rattle.arena_traits.specs.Entries.{entries}
use Rattle.arena_traits.specs.Compressions.{counter_after_compression}
use Rattle.arena_base.proofs.CompactedArenaLemmas.{compressing, compressing_visits}
use Rattle.arena_base.proofs.arena_trait.ArenaArenaTrait.compress_with.Goals as goal

pub returns : goal.returns
returns g c =
    let first = g.P.Gen.GenKey.first in
    let following = g.P.Gen.GenKey.following in
    let old = c.args.self.now in
    let mid = c.begin_generation-overflow.new.self in
    let begun = c.begin_generation-overflow.ensures in
    let generation = counter_after_compression first following c.args.reset (length (entries old)) old.counter in
    record {
      outcome = record {
        compressed = compressing g.F.FnMut g.P.PtrKey.key c.args.map generation old mid c.gather.new.self begun.after c.gather.ensures
            first following c.args.reset (length (entries old)) refl refl;
        overflow = begun.overflow;
      };
      visits = compressing_visits g.F.FnMut g.P.PtrKey.key c.args.map generation old mid c.gather.new.self begun.after c.gather.ensures;
      implementation = ap (λ a. a.stack_capacity) c.gather.ensures.arena ∙ ap (λ a. a.stack_capacity) begun.after;
    }
