use Rattle.std.proofs.Common.{◌≡◌, ◌+◌, ◌<◌, false, true, ap, sym, subst, ◌∙◌, refl, inl, arith}
use Rattle.arena_traits.specs.Arena.{entry_count}
use Rattle.arena_base.specs.Growths.{GrowsArenaFor}
use Rattle.arena_base.proofs.ArenaGrowthLemmas.{grows_for_one_more}
use Rattle.arena_base.proofs.arena.Arena.grow_if_full.Goals as goal

pub returns-else-is_full : goal.returns-else-is_full
returns-else-is_full g c =
    let within_capacity = c.is_full.ensures.capacity in
    let not_full : entry_count c.args.self.now ≡ c.args.self.now.capacity → ⊥ = λ is. let both : false ≡ true = sym c.if-is_full.false ∙ c.is_full.ensures.full.1 is in cc in
    let less : entry_count c.args.self.now < c.args.self.now.capacity = omega (arith, not_full, within_capacity.0.fits) in
    record {
      outcome = record {
        state = refl;
        capacity = record {
          capacity = (record { fits = omega (arith, less); at_most_greatest = within_capacity.0.at_most_greatest; within_maximum = within_capacity.0.within_maximum }, within_capacity.1, within_capacity.2);
          reached = inl refl;
        };
        within = λ _. refl;
      };
      err = tt;
    }

pub returns-then-is_full-clause-outcome : goal.returns-then-is_full-clause-outcome
returns-then-is_full-clause-outcome g c =
    let may_reach = g.S.SlotStack.may_reach in
    let greatest = g.P.Inx.InxKey.greatest in
    let old = c.args.self.now in
    let call = c.grow_to-then-is_full in
    let counted : c.grow_to.inside.len ≡ entry_count old = c.grow_to.invariant.counted ∙ ap (λ a. entry_count a) c.grow_to.view_is in
    let grown : GrowsArenaFor may_reach greatest (entry_count old + 1) old call.result call.new.self = subst (λ n. GrowsArenaFor may_reach greatest (n + 1) old call.result call.new.self) counted call.ensures.outcome in
    grows_for_one_more may_reach greatest old call.result call.new.self (c.is_full.ensures.full.0 c.if-is_full.true) grown

pub is_full-requires : goal.is_full-requires
is_full-requires g c κs = λ outlives. outlives

pub grow_to-requires : goal.grow_to-requires
grow_to-requires g c κs = λ outlives. outlives
