use Rattle.std.proofs.Common.{ℕ, ◌+◌, ◌≤◌, subst}
use Rattle.arena_core.specs.SlotStack.{IsBeyond}
use Rattle.arena_traits.specs.Arena.{ReachesCapacity, entry_count}
use Rattle.chain_arena.proofs.ChainTransferLemmas.{reaches_grown, chain_transferred_grown}
use Rattle.chain_arena.proofs.chain_arena.ChainArena.transfer_chain.Goals as goal

pub returns-in-Ok-clause-transferred : goal.returns-in-Ok-clause-transferred
returns-in-Ok-clause-transferred g c =
    let reach = g.R.SlotStack.may_reach in
    let greatest = g.Q.Inx.InxKey.greatest in
    let old = c.args.target.now in
    let grown = c.grow_by.new.self in
    let new = c.move_chain.new.target in
    let links = c.in-Some.ensures in
    let moved = c.move_chain.ensures in
    let held = subst (λ (n : ℕ). ReachesCapacity reach greatest (entry_count old + n) old grown × (entry_count old + n ≤ greatest) × (IsBeyond old.maximum (entry_count old + n) → ⊥)) links.1 c.in-Ok.ensures.grown in (
      links.0,
      (
        (
          chain_transferred_grown old grown new _ _ _ _ _ _ _ _ _ _ c.in-Ok.ensures.after moved.transferred,
          reaches_grown old grown new reach greatest _ moved.capacity.0.0 moved.capacity.0.1 moved.capacity.1 held.0,
        ),
        held.1,
        held.2,
      ),
    )
