use Rattle.std.proofs.Common.{◌≡◌, false, true, sym, ◌∙◌, arith}
use Rattle.arena_traits.specs.Arena.{entry_count}
use Rattle.arena_traits.proofs.ArenaViewLemmas.{length-entries}
use Rattle.arena_base.proofs.arena.Arena.insert_within_capacity.Goals as goal

pub returns-then-is_full-clause-outcome : goal.returns-then-is_full-clause-outcome
returns-then-is_full-clause-outcome g c = length-entries c.args.self.now ∙ c.is_full.ensures.full.0 c.if-is_full.true

pub returns-clause-outcome : goal.returns-clause-outcome
returns-clause-outcome g c =
    let old = c.args.self.now in
    let not_full : entry_count old ≡ old.capacity → ⊥ = λ is. let both : false ≡ true = sym c.if-is_full.false ∙ c.is_full.ensures.full.1 is in cc in
    record {
      free = omega (arith, not_full, c.is_full.ensures.capacity.0.fits, length-entries old);
      key = c.insert_next.ensures.ptr;
      state = c.insert_next.ensures.after;
    }
