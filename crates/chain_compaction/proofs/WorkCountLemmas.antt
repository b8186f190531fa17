-- A compactor's counts agree with the totals of its arena.
use Rattle.std.proofs.Common.{◌≡◌, ℕ, ◌+◌, refl, ap, ◌∙◌, arith}
use Rattle.arena_traits.specs.Arena.{Arena}
use Rattle.arena_base.specs.DetachedSlots.{saturating_increment, with_touch, with_placement}
use Rattle.arena_base.specs.declared.compactor.Compactor.{Compactor}
use Rattle.chain_compaction.specs.WorkCounts.{saturating_count, HasCounted, CountsWork, ChangesOnlySlots}

counted_more : (n : ℕ) → saturating_increment (saturating_count n) ≡ saturating_count (n + 1)
counted_more n = omega arith

module _ {Gen T : Type 0} where
  pub same_totals : (a : Arena Gen T) (p q t u : ℕ) → p ≡ q → t ≡ u → ◌≡◌ {A = Arena Gen T} (record a { placed = p; touched = t }) (record a { placed = q; touched = u })
  same_totals a p q t u e f = λ j. record a { placed = e j; touched = f j }

  pub counted_none : (a : Arena Gen T) → HasCounted a a 0 0
  counted_none a = record {
    placements = 0;
    touches = 0;
    arena = same_totals a a.placed (a.placed + 0) a.touched (a.touched + 0) (omega arith) (omega arith);
    placements_counted = omega arith;
    touches_counted = omega arith;
  }

module _ {V T S Inx Gen Word : Type 0} where
  pub counts_none : (a : Compactor V T S Inx Gen Word) → CountsWork a a
  counts_none a = record { same_reference = refl; on = λ first had. had }

  pub counts_on : (a b c : Compactor V T S Inx Gen Word) → CountsWork a b → CountsWork b c → CountsWork a c
  counts_on a b c one two = record { same_reference = two.same_reference ∙ one.same_reference; on = λ first had. two.on first (one.on first had) }

  pub counts_touch : (a b : Compactor V T S Inx Gen Word) → b.arena.ghost_name ≡ a.arena.ghost_name → b.arena.now ≡ with_touch a.arena.now → b.placed ≡ a.placed → b.touched ≡ saturating_increment a.touched → CountsWork a b
  counts_touch a b reference is same more = record {
    same_reference = reference;
    on = λ first had. record {
      placements = had.placements;
      touches = had.touches + 1;
      arena = is ∙ (ap with_touch had.arena ∙ same_totals first (first.placed + had.placements) (first.placed + had.placements) (first.touched + had.touches + 1) (first.touched + (had.touches + 1)) refl (omega arith));
      placements_counted = same ∙ had.placements_counted;
      touches_counted = more ∙ (ap saturating_increment had.touches_counted ∙ counted_more had.touches);
    };
  }

  pub counts_place : (a b : Compactor V T S Inx Gen Word) → b.arena.ghost_name ≡ a.arena.ghost_name → b.arena.now ≡ with_placement a.arena.now → b.placed ≡ saturating_increment a.placed → b.touched ≡ a.touched → CountsWork a b
  counts_place a b reference is more same = record {
    same_reference = reference;
    on = λ first had. record {
      placements = had.placements + 1;
      touches = had.touches;
      arena = is ∙ (ap with_placement had.arena ∙ same_totals first (first.placed + had.placements + 1) (first.placed + (had.placements + 1)) (first.touched + had.touches) (first.touched + had.touches) (omega arith) refl);
      placements_counted = more ∙ (ap saturating_increment had.placements_counted ∙ counted_more had.placements);
      touches_counted = same ∙ had.touches_counted;
    };
  }

  pub slots_stay : (a : Compactor V T S Inx Gen Word) → ChangesOnlySlots a a
  slots_stay a = record { capacity = refl; maximum = refl; counts = counts_none a }

  pub slots_on : (a b c : Compactor V T S Inx Gen Word) → ChangesOnlySlots a b → ChangesOnlySlots b c → ChangesOnlySlots a c
  slots_on a b c one two = record {
    capacity = two.capacity ∙ one.capacity;
    maximum = two.maximum ∙ one.maximum;
    counts = counts_on a b c one.counts two.counts;
  }

  pub slots_detached : (a b : Compactor V T S Inx Gen Word) → b.detached ≡ a.detached → CountsWork a b → ChangesOnlySlots a b
  slots_detached a b same counts = record { capacity = λ j. (same j).stack_capacity; maximum = λ j. (same j).maximum; counts = counts }
