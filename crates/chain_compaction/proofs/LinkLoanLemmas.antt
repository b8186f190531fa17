-- Links that a compactor lends for writing.
use Rattle.std.proofs.Common.{◌≡◌, ℕ, Option, None, Some, sym, ap, ◌∙◌, subst}
use Rattle.std.specs.Prelude.{OnSome}
use Rattle.std.specs.Option.{option_map, option_copied_mut}
use denote.Ref.{MutBor}
use Rattle.arena_traits.specs.Arena.{slot_at}
use Rattle.arena_base.specs.DetachedSlots.{detached_with_value, with_touch, saturating_increment}
use Rattle.arena_base.specs.declared.compactor.Compactor.{Compactor}
use Rattle.chain_links.specs.declared.links.RawLink.{RawLink}
use Rattle.chain_links.specs.Links.{AreAtRest, StayAtRest}
use Rattle.chain_links.proofs.RestLemmas.{written_at_rest}
use Rattle.chain_compaction.specs.WorkCounts.{CountsWork}
use Rattle.chain_compaction.proofs.WorkCountLemmas.{counts_touch}

module _ {P T S Inx Gen Word : Type 0} (old new : Compactor P T S Inx Gen Word) (i : ℕ) where
  pub record IsOverwritten (l w : T) : Type 0 where
    pub stored : Some l ≡ option_map (λ e. e.1) (slot_at old.detached.slots i)
    pub detached : new.detached ≡ detached_with_value old.detached i w
    pub arena : new.arena.now ≡ with_touch old.arena.now
    pub counts : CountsWork old new

  pub record IsUntouched : Type 0 where
    pub none : None ≡ option_map (λ e. e.1) (slot_at old.detached.slots i)
    pub detached : new.detached ≡ old.detached
    pub arena : new.arena.now ≡ with_touch old.arena.now
    pub counts : CountsWork old new

  abbrev Touched : Type 0
  Touched = (new.arena.ghost_name ≡ old.arena.ghost_name) × (new.arena.now ≡ with_touch old.arena.now) × (new.placed ≡ old.placed) × (new.touched ≡ saturating_increment old.touched)

  pub lent : (lends : Option (MutBor T)) (m : MutBor T) (w : T) → lends ≡ Some m → option_copied_mut lends ≡ option_map (λ e. e.1) (slot_at old.detached.slots i)
      → OnSome lends ((new.detached ≡ detached_with_value old.detached i w) × Touched) → IsOverwritten m.now w
  lent lends m w is there wrote = record {
    stored = sym (ap option_copied_mut is) ∙ there;
    detached = made.0;
    arena = made.1.1;
    counts = counts_touch old new made.1.0 made.1.1 made.1.2 made.1.3;
  }
    where
      by : (o : Option (MutBor T)) → o ≡ Some m → OnSome o ((new.detached ≡ detached_with_value old.detached i w) × Touched) → (new.detached ≡ detached_with_value old.detached i w) × Touched
      by None e h = absurd (let both = e in cc)
      by (Some n) e h = h

      made : (new.detached ≡ detached_with_value old.detached i w) × Touched
      made = by lends is wrote

  pub lent_none : (lends : Option (MutBor T)) → lends ≡ None → option_copied_mut lends ≡ option_map (λ e. e.1) (slot_at old.detached.slots i) → (new.detached ≡ old.detached) × Touched → IsUntouched
  lent_none lends is there kept = record {
    none = sym (ap option_copied_mut is) ∙ there;
    detached = kept.0;
    arena = kept.1.1;
    counts = counts_touch old new kept.1.0 kept.1.1 kept.1.2 kept.1.3;
  }

pub overwritten_rests : {P K T S Inx Gen Word : Type 0} (number : K → Option ℕ) (old new : Compactor P (RawLink K T) S Inx Gen Word) (i : ℕ) (link w : RawLink K T) → IsOverwritten old new i link w
    → number w.destination ≡ number link.destination → StayAtRest number old.detached.slots new.detached.slots
overwritten_rests number old new i link w wrote same rest = subst (λ detached. AreAtRest number detached.slots) (sym wrote.detached) (written_at_rest number old.detached.slots i link w (sym wrote.stored) same rest)

module _ {P T S Inx Gen Word : Type 0} (a b c : Compactor P T S Inx Gen Word) where
  pub detached_then : b.detached ≡ a.detached → c.detached ≡ b.detached → c.detached ≡ a.detached
  detached_then one two = two ∙ one
