use Rattle.std.proofs.Common.{◌≤◌, refl, ap, sym, subst}
use Rattle.arena_core.specs.SlotStack.{IsBeyond}
use Rattle.chain_arena.proofs.TransferGrowthLemmas.{emptied_with, refused_alike, transferred_grown, capacity_grown, reach_grown, same_grown}
use Rattle.chain_arena.proofs.chain_arena.ChainArena.transfer_canonical_reallocating.Goals as goal

pub transfer_links-requires-clause-empty : goal.transfer_links-requires-clause-empty
transfer_links-requires-clause-empty g c =
    let set = c.set_generation.new.self in
    emptied_with g.P.Gen.GenKey.following c.args.new_generation c.args.self.now c.grow_to_hold.new.self c.clear.new.self set set c.in-Ok.ensures.after c.clear.ensures.implementation c.set_generation.ensures
    g.P.Inx.InxKey.greatest c.len.result _ c.len.ensures.count c.in-Ok.ensures.grown.0.capacity

pub returns-in-Ok : goal.returns-in-Ok
returns-in-Ok g c =
    let following = g.P.Gen.GenKey.following in
    let greatest = g.P.Inx.InxKey.greatest in
    let old = c.args.self.now in
    let grown = c.grow_to_hold.new.self in
    let clear = c.clear.new.self in
    let set = c.set_generation.new.self in
    let new = c.transfer_links.new.target in
    let made = c.transfer_links.ensures in
    let count = c.len.ensures.count in
    let held = c.in-Ok.ensures.grown in
    let moved = transferred_grown following c.args.new_generation old grown clear set new c.in-Ok.ensures.after c.clear.ensures.implementation c.set_generation.ensures _ _ _ _ _ _ _ _ _ made.transferred in record {
      transferred = (
        (
          moved,
          record {
            capacity = capacity_grown following c.args.new_generation old grown clear set new c.in-Ok.ensures.after c.clear.ensures.implementation c.set_generation.ensures made.capacity.0 made.capacity.1 greatest c.len.result _ count (ap (λ a. a.maximum) moved.state) held.0.capacity;
            reached = reach_grown following c.args.new_generation old grown clear set new c.in-Ok.ensures.after c.clear.ensures.implementation c.set_generation.ensures made.capacity.0 made.capacity.1 g.S.SlotStack.may_reach c.len.result _ count held.0.reached;
          },
        ),
        subst (λ n. n ≤ greatest) count held.1,
        subst (λ n. IsBeyond old.maximum n → ⊥) count held.2,
      );
      within = λ few.
          let same = same_grown following c.args.new_generation old grown clear set new c.in-Ok.ensures.after c.clear.ensures.implementation c.set_generation.ensures made.capacity.0 made.capacity.1 (c.in-Ok.ensures.within (subst (λ n. n ≤ old.capacity) (sym count) few)).1 in
          (refl, same);
    }

pub returns-in-Err : goal.returns-in-Err
returns-in-Err g c =
    let old = c.args.self.now in
    let count = c.len.ensures.count in record {
      transferred = refused_alike g.P.Inx.InxKey.greatest c.len.result _ old.maximum c.in-Err.why count (λ same. (same, refl)) c.in-Err.ensures.grown;
      within = λ few.
          let stays = c.in-Err.ensures.within (subst (λ n. n ≤ old.capacity) (sym count) few) in
          (stays.0, (ap (λ a. a.capacity) stays.1, ap (λ a. a.stack_capacity) stays.1));
    }
