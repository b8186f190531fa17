-- The number of steps back and of reads ahead, which bounds the reads.
use Rattle.std.proofs.Common.{◌≡◌, ℕ, ◌≤◌, ◌+◌, Some}
use Rattle.std.specs.Option.{option_map}
use Rattle.chain_laws.specs.ChainStart.{IsBack, IsOnward}
use Rattle.chain_compaction.specs.WorkCounts.{CountsWork}
use Rattle.chain_compaction.specs.DetachedLinks.{link_map_in, IsWork}
use Rattle.chain_compaction.proofs.assign_destinations.start_at.Given as goal

abbrev pub invariant-loop-step : goal.invariant-loop-step
invariant-loop-step g l =
    let number = g.P.Inx.InxKey.number in
    record {
      detached : l.compactor.detached ≡ l.fn.compactor.detached;
      back : IsBack (link_map_in g.P.Inx.InxKey.packed_number l.fn.compactor.detached.slots) (number l.i) l.step (number l.at);
      onward : (k : ℕ) → option_map number l.on ≡ Some k → IsOnward (link_map_in g.P.Inx.InxKey.packed_number l.fn.compactor.detached.slots) (number l.i) k;
      few : l.reads ≤ l.limit;
      work : IsWork l.fn.compactor.arena.now l.compactor.arena.now 0 (l.step + l.reads);
      counts : CountsWork l.fn.compactor l.compactor;
    }
