use Rattle.std.proofs.Common.{ap, arith}
use Rattle.arena_base.proofs.ArenaGrowthLemmas.{grown_reserves, grown_state, grown_reach}
use Rattle.arena_base.proofs.arena_trait.ArenaArenaTrait.reallocate_min_capacity.Goals as goal

pub returns : goal.returns
returns g c =
    let may_reach = g.S.SlotStack.may_reach in
    let greatest = g.P.Inx.InxKey.greatest in
    let old = c.args.self.now in
    let r = c.grow_to.result in
    let new = c.grow_to.new.self in
    let made = c.grow_to.ensures in
    let within_capacity = ap (λ a. a.capacity) c.self.view_is in
    let state = grown_state may_reach greatest old c.args.n r new made.outcome made.err in
    record {
      outcome = grown_reserves may_reach greatest old c.args.n r new made.outcome;
      enough = λ few. absurd (omega (arith, few, within_capacity, c.capacity.ensures, c.greatest.ensures.value, c.min.ensures));
      err = made.err;
      implementation = (state, grown_reach may_reach greatest old c.args.n r new made.outcome made.err);
    }
