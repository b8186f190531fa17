-- The links passed have destinations, their interlinks name destinations, and the visitor has seen them.
use Rattle.std.proofs.Common.{◌≡◌, ◌-◌, ℕ, List, length}
use Rattle.std.specs.Option.{option_map}
use Rattle.chain_laws.specs.Chains.{Chain}
use Rattle.chain_compaction.specs.WorkCounts.{CountsWork}
use Rattle.chain_compaction.specs.Destinations.{CanNumber}
use Rattle.chain_compaction.proofs.ChainDestinationLemmas.{IsWalking}
use Rattle.chain_compaction.proofs.assign_destinations.number_chain.Given as goal

abbrev pub invariant-loop-on : goal.invariant-loop-on
invariant-loop-on g l =
    let number = g.P.Inx.InxKey.packed_number in
    record {
      ready : g.V.Visitor.is_ready l.visitor;
      long : length l.compactor.detached.slots ≡ length l.fn.compactor.detached.slots;
      walks : (done : List ℕ) (c : Chain) → CanNumber number l.fn.compactor.detached.slots (g.P.Inx.InxKey.number l.fn.start) l.fn.before done c
          → IsWalking number g.V.Visitor.sees g.P.PtrKey.key l.fn.generation l.fn.visitor l.visitor l.fn.compactor.detached l.compactor.detached l.fn.compactor.arena.now l.compactor.arena.now
          l.count (g.P.Inx.InxKey.number l.fn.start) (option_map g.P.Inx.InxKey.number l.on) (option_map g.P.Inx.InxKey.number l.named) (option_map g.P.Inx.InxKey.number l.prev) done c;
      counts : CountsWork l.fn.compactor l.compactor;
    }

abbrev pub decreases-loop-on : goal.decreases-loop-on
decreases-loop-on g l = length l.compactor.detached.slots - l.count
