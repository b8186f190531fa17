-- Reads of several slots after one another, and lists of positions to read.
use Rattle.std.proofs.Common.{◌≡◌, ℕ, ◌+◌, ◌<◌, ◌≤◌, List, length, slice_index, slice_set, ap, refl, arith}
use Rattle.std.proofs.Math.Decide.{ℕ_discrete}
use Rattle.std.proofs.lemmas.List.{get_or-set_same, get_or-set_other}
use Rattle.arena_base.specs.declared.compactor.Compactor.{Compactor}
use Rattle.chain_compaction.specs.SlotReads.{AreBelow, HasReadSlot, HasReadSlots}
use Rattle.chain_compaction.proofs.DetachedLinkLemmas.{work-none, work-touched, work-more, work-few}
use Rattle.chain_compaction.proofs.LinkLoanLemmas.{detached_then}
use Rattle.chain_compaction.proofs.WorkCountLemmas.{counts_none, counts_on}

pub below_replaced : (limit : ℕ) (positions : List ℕ) (count t k : ℕ) → t < length positions → k < limit → AreBelow limit positions count → AreBelow limit (slice_set positions t k) count
below_replaced limit positions count t k inside low all p first = by (ℕ_discrete p t)
  where
    by : Dec (p ≡ t) → slice_index (slice_set positions t k) p < limit
    by (yes same) = omega (arith, low, ap (λ q. slice_index (slice_set positions t k) q) same, get_or-set_same positions t k 0 inside)
    by (no differs) = omega (arith, all p first, get_or-set_other positions t p k 0 differs)

pub below_added : (limit : ℕ) (positions : List ℕ) (count k : ℕ) → count < length positions → k < limit → AreBelow limit positions count → AreBelow limit (slice_set positions count k) (count + 1)
below_added limit positions count k inside low all p first = by (ℕ_discrete p count)
  where
    by : Dec (p ≡ count) → slice_index (slice_set positions count k) p < limit
    by (yes same) = omega (arith, low, ap (λ q. slice_index (slice_set positions count k) q) same, get_or-set_same positions count k 0 inside)
    by (no differs) = let before : p < count = omega (arith, first, differs) in omega (arith, all p before, get_or-set_other positions count p k 0 differs)

pub below_fewer : (limit : ℕ) (positions : List ℕ) (count fewer : ℕ) → fewer ≤ count → AreBelow limit positions count → AreBelow limit positions fewer
below_fewer limit positions count fewer few all p first = let before : p < count = omega (arith, first, few) in all p before

module _ {P T S Inx Gen Word : Type 0} where
  pub reads_then : (a b c : Compactor P T S Inx Gen Word) (m n all : ℕ) → HasReadSlots a b m → HasReadSlots b c n → m + n ≤ all → HasReadSlots a c all
  reads_then a b c m n all one two few = record {
    detached = detached_then a b c one.detached two.detached;
    work = work-more one.work two.work 0 all refl few;
    counts = counts_on a b c one.counts two.counts;
  }

  pub reads_more : (a b c : Compactor P T S Inx Gen Word) (m : ℕ) → HasReadSlots a b m → HasReadSlot b c → HasReadSlots a c (m + 1)
  reads_more a b c m one read = record {
    detached = detached_then a b c one.detached read.detached;
    work = work-more one.work (work-touched b.arena.now c.arena.now read.arena) 0 (m + 1) refl (omega arith);
    counts = counts_on a b c one.counts read.counts;
  }

  pub reads_none : (a : Compactor P T S Inx Gen Word) → HasReadSlots a a 0
  reads_none a = record {
    detached = refl;
    work = work-none a.arena.now 0;
    counts = counts_none a;
  }

  pub reads_few : (a b : Compactor P T S Inx Gen Word) (m n : ℕ) → HasReadSlots a b m → m ≤ n → HasReadSlots a b n
  reads_few a b m n read few = record { detached = read.detached; work = work-few read.work n few; counts = read.counts }
