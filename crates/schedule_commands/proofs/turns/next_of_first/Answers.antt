use Rattle.std.proofs.Common.{◌≡◌, ◌≢◌, ⊎_elim, ℕ, ◌+◌, ◌<◌, List, refl, sym, ap, ◌∙◌, subst, Option, Some, arith}
use Rattle.std.specs.Prelude.{slice_get}
use Rattle.std.proofs.lemmas.Bool.{cases_eq}
use Rattle.std.proofs.lemmas.Option.{slice_get_read}
use Rattle.chain_laws.specs.Chains.{LinkMap}
use Rattle.chain_laws.proofs.InterlinkLemmas.Inverses.{one_some}
use Rattle.arena_traits.specs.Entries.{ArenaView, ArenaState}
use Rattle.linked_lists.specs.declared.entry.Entry.{Entry}
use Rattle.run_queues.specs.RunQueues.{HasNoTask, IsTurnTaken}
use Rattle.schedule_commands.specs.LeastTurns.{AreEmptyBelow}
use Rattle.schedule_commands.proofs.turns.next_of_first.Goals as goal

module _ {A Gen T : Type 0} {view : A → ArenaView Gen (Entry T)} {entry : A → ℕ → Option (Gen × Entry T)} (state : (a : A) → ArenaState (view a) (entry a)) (interlinks : A → LinkMap) {P : Type 0} (key : P → ℕ × Gen) where
  below_more : (arena : A) (queues : List P) (i : ℕ) (p : P) → AreEmptyBelow state interlinks key arena queues i → slice_get queues i ≡ Some p → HasNoTask state interlinks arena (key p) → AreEmptyBelow state interlinks key arena queues (i + 1)
  below_more arena queues i p below at none k q less here = ⊎_elim
      (λ same. subst (λ (r : P). HasNoTask state interlinks arena (key r)) (one_some (sym at ∙ (ap (slice_get queues) (sym same) ∙ here))) none)
      (λ other. below k q (smaller k i less other) here)
      (cases_eq k i)
    where
      smaller : (a b : ℕ) → a < b + 1 → a ≢ b → a < b
      smaller a b lt ne = omega (arith, lt, ne)

pub returns-in-Some : goal.returns-in-Some
returns-in-Some g c = record {
  priority = c.loop-queue.queue-index;
  queue = c.queue-item.result;
  here = slice_get_read c.args.ready.now _ c.loop-queue.queue-index c.queue-item.result refl c.loop-queue-test.true c.queue-item.is;
  below = c.loop-queue.invariant.below;
  turn = subst (λ a. IsTurnTaken g.A.ArenaTrait.state g.A.ChainArenaTrait.interlinks a c.next.new.self (g.P.PtrKey.key c.queue-item.result.head) (g.P.PtrKey.key c.in-Some.task)) c.loop-queue.invariant.same c.in-Some.ensures;
}

pub loop-queue-preserved : goal.loop-queue-preserved
loop-queue-preserved g c =
    let none = subst (λ a. HasNoTask g.A.ArenaTrait.state g.A.ChainArenaTrait.interlinks a (g.P.PtrKey.key c.queue-item.result.head)) c.loop-queue.invariant.same c.in_default.ensures.0 in
    record {
      below = below_more g.A.ArenaTrait.state g.A.ChainArenaTrait.interlinks (λ q. g.P.PtrKey.key q.head) c.args.queues.now c.args.ready.now c.loop-queue.queue-index c.queue-item.result c.loop-queue.invariant.below
          (slice_get_read c.args.ready.now _ c.loop-queue.queue-index c.queue-item.result refl c.loop-queue-test.true c.queue-item.is) none;
      same = c.in_default.ensures.1 ∙ c.loop-queue.invariant.same;
    }
