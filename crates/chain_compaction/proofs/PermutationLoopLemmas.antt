-- The loop that moves entries: its beginning, its step, its end, and its work.
use Rattle.std.proofs.Common.{◌≡◌, ℕ, zero, suc, ◌+◌, ◌*◌, ◌⊎◌, inl, inr, ◌<◌, ◌≤◌, List, length, Option, None, Some, Bool, true, false, leb, refl, ◌∙◌, subst, arith}
use Rattle.std.specs.Prelude.{if◌then◌else◌}
use Rattle.std.proofs.lemmas.Bool.Decides.{leb_tells}
use Rattle.arena_traits.specs.Arena.{Arena, slot_at}
use Rattle.arena_base.specs.DetachedSlots.{with_touch, with_placement}
use Rattle.chain_compaction.specs.DetachedLinks.{IsWork}
use Rattle.chain_compaction.specs.Permutations.{HasDestination, HaveMoved, CanMoveAll, IsInBlock, IsSettling, ArePassed, waiting_count, IsWorkOn, IsWorkInRounds}
use Rattle.chain_compaction.proofs.SlotSwapLemmas.{moving_begins, moving_ends}
use Rattle.chain_compaction.proofs.SlotCountLemmas.{stored-within, waiting-none, none-waiting}
use Rattle.chain_compaction.proofs.DetachedLinkLemmas.{work-none, work-touched, work-with_placed_entry, work-more, work-few}

module _ {E : Type 0} (goal : E → Option ℕ) (Settles : E → E → Type 0) (done : (e f : E) → Settles e f → goal f ≡ None) where
  pub passing_begins : (old : List (Option E)) → CanMoveAll goal old → ArePassed goal Settles old old 0
  passing_begins old can = record {
    moves = moving_begins goal Settles done (slot_at old) can.apart can.each;
    within = can.within;
    length = refl;
    passed = first;
  }
    where
      first : (j d : ℕ) (e : E) → j ≤ 0 → HasDestination goal (slot_at old) j e d → ⊥
      first zero d e low w = let none : None ≡ Some e = w.stored in cc
      first (suc k) d e low w = omega arith

  pub passing_continues : (old now next : List (Option E)) (k count : ℕ) → ArePassed goal Settles old now k → IsSettling goal Settles (IsInBlock k count) now next
      → ((j d : ℕ) (e : E) → IsInBlock k count j → HasDestination goal (slot_at next) j e d → ⊥) → ArePassed goal Settles old next (k + count)
  passing_continues old now next k count p s none = record {
    moves = s.moves (slot_at old) p.moves;
    within = s.within p.within;
    length = s.length ∙ p.length;
    passed = λ j d e low w. by j d e low w (leb_tells j k);
  }
    where
      by : (j d : ℕ) (e : E) → j ≤ k + count → HasDestination goal (slot_at next) j e d → ((leb j k ≡ true) × (j ≤ k)) ⊎ ((leb j k ≡ false) × (k < j)) → ⊥
      by j d e low w (inl before) = let first : j ≤ k = before.1 in p.passed j d e first (s.stays j d e (λ b. let after : k < j = b.0 in omega arith) w)
      by j d e low w (inr after) = none j d e (after.1, low) w

  pub passing_stops : (old now : List (Option E)) (k : ℕ) → ArePassed goal Settles old now k → waiting_count goal now ≡ 0 → ArePassed goal Settles old now (length old)
  passing_stops old now k p none = record { moves = p.moves; within = p.within; length = p.length; passed = λ j d e low w. none-waiting goal now none j d e w }

  nowhere : (old now : List (Option E)) → ArePassed goal Settles old now (length old) → (i d : ℕ) (e : E) → HasDestination goal (slot_at now) i e d → ⊥
  nowhere old now p i d e w = p.passed i d e (let b : i ≤ length now = (stored-within now i e w.stored).1 in let l : length now ≡ length old = p.length in omega arith) w

  pub passing_ends : (old now : List (Option E)) → ArePassed goal Settles old now (length old) → HaveMoved goal Settles (slot_at old) (slot_at now)
  passing_ends old now p = moving_ends goal Settles done (slot_at old) (slot_at now) p.moves (nowhere old now p)

  pub passing_leaves_none : (old now : List (Option E)) → ArePassed goal Settles old now (length old) → waiting_count goal now ≡ 0
  passing_leaves_none old now p = waiting-none goal now (nowhere old now p)

module _ {Gen T : Type 0} where
  pub work_on-begins : (a : Arena Gen T) (wait : ℕ) → IsWorkOn a a wait wait 0
  work_on-begins a wait = record { moved = 0; work = work-none a 0; count = omega arith }

  pub work_on-moves : (old was_read placed next : Arena Gen T) (wait less : ℕ) → was_read ≡ with_touch old → placed ≡ with_placement was_read → next ≡ with_touch placed → less + 1 ≡ wait
      → IsWorkOn old next wait less 0
  work_on-moves old was_read placed next wait less touched is written fewer = record {
    moved = 1;
    work = work-more (work-more (work-touched old was_read touched) (work-with_placed_entry was_read placed is) 1 1 refl (omega arith)) (work-touched placed next written) 1 (2 * 1 + 0) refl (omega arith);
    count = fewer;
  }

  pub work_on-reads : (old next : Arena Gen T) (wait : ℕ) → next ≡ with_touch old → IsWorkOn old next wait wait 1
  work_on-reads old next wait is = record { moved = 0; work = work-touched old next is; count = omega arith }

  pub work_on-either : (old next : Arena Gen T) (waited wait : ℕ) (b : Bool) → IsWorkOn old next waited wait 0 → IsWorkOn old next waited wait (if b then 0 else 1)
  work_on-either old next waited wait true work = work
  work_on-either old next waited wait false work = record {
    moved = work.moved;
    work = record { touches = work.work.touches; few = (let few : work.work.touches ≤ 2 * work.moved + 0 = work.work.few in omega arith); arena = work.work.arena };
    count = work.count;
  }

  pub work_on-after : (old now next : Arena Gen T) (waited wait less some more all : ℕ) → IsWorkOn old now waited wait some → IsWorkOn now next wait less more → some + more ≡ all
      → IsWorkOn old next waited less all
  work_on-after old now next waited wait less some more all work further is = record {
    moved = work.moved + further.moved;
    work = work-more work.work further.work (work.moved + further.moved) (2 * (work.moved + further.moved) + all) refl (omega arith);
    count = (let a : wait + work.moved ≡ waited = work.count in let b : less + further.moved ≡ wait = further.count in omega arith);
  }

  pub rounds_start : (old now : Arena Gen T) (waited wait more left : ℕ) → IsWorkOn old now waited wait more → left + wait ≤ waited → IsWorkInRounds old now waited wait more left
  rounds_start old now waited wait more left first moves = record { moved = first.moved; most = 2 * first.moved + more; work = first.work; few = omega (arith, first.count, moves); count = first.count }

  pub rounds_continue : (old now was_read next : Arena Gen T) (waited wait less some left more all rest : ℕ) → IsWorkInRounds old now waited wait some left
      → IsWork now was_read 0 (2 * left) → (round : IsWorkOn was_read next wait less more) → some + more ≡ all → rest + less ≤ wait → IsWorkInRounds old next waited less all rest
  rounds_continue old now was_read next waited wait less some left more all rest rounds reads round is moves = record {
    moved = rounds.moved + round.moved;
    most = (rounds.most + 2 * left) + (2 * round.moved + more);
    work = work-more (work-more rounds.work reads rounds.moved (rounds.most + 2 * left) (omega arith) (omega arith)) round.work (rounds.moved + round.moved) ((rounds.most + 2 * left) + (2 * round.moved + more)) refl (omega arith);
    few = omega (arith, rounds.few, is, moves, round.count);
    count = omega (arith, rounds.count, round.count);
  }

  pub rounds_stop : (old now : Arena Gen T) (waited wait some all left : ℕ) → some ≤ all → IsWorkInRounds old now waited wait some left → IsWorkInRounds old now waited wait all 0
  rounds_stop old now waited wait some all left is rounds = record { moved = rounds.moved; most = rounds.most; work = rounds.work; few = omega (arith, rounds.few, is); count = rounds.count }

  pub rounds_begin : (a : Arena Gen T) (wait : ℕ) → IsWorkInRounds a a wait wait 0 0
  rounds_begin a wait = rounds_start a a wait wait 0 0 (work_on-begins a wait) (omega arith)

  pub rounds_then : (old now next : Arena Gen T) (waited wait less some more all : ℕ) → IsWorkInRounds old now waited wait some 0 → IsWorkInRounds now next wait less more 0 → some + more ≡ all
      → IsWorkInRounds old next waited less all 0
  rounds_then old now next waited wait less some more all one two is = record {
    moved = one.moved + two.moved;
    most = one.most + two.most;
    work = work-more one.work two.work (one.moved + two.moved) (one.most + two.most) refl (omega arith);
    few = omega (arith, one.few, two.few, is);
    count = omega (arith, one.count, two.count);
  }

  pub rounds_end : (old now : Arena Gen T) (waited wait all more : ℕ) → IsWorkInRounds old now waited wait more 0 → wait ≡ 0 → waited ≡ all → IsWork old now all (4 * all + more)
  rounds_end old now waited wait all more rounds none each =
      let m : rounds.moved ≡ all = omega (arith, rounds.count) in
      subst (λ (n : ℕ). IsWork old now n (4 * all + more)) m (work-few rounds.work (4 * all + more) (omega (arith, rounds.few)))
