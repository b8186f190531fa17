use Rattle.std.proofs.Common.{◌≡◌, ℕ, ◌+◌, ◌⊎◌, inl, inr, Option, Some, refl, sym, ap, ◌∙◌, subst, arith}
use Rattle.std.specs.Option.{option_map}
use Rattle.std.proofs.lemmas.Bool.{false≢true}
use Rattle.chain_laws.specs.Chains.{LinkMap, prev_of, next_of}
use Rattle.chain_laws.specs.ChainStart.{IsOnward}
use Rattle.chain_laws.proofs.WalkLemmas.WalkBack.{back_begins, back_continues, back_ends, on_begins, on_continues, walks_meet}
use Rattle.chain_compaction.specs.DetachedLinks.{link_map_in}
use Rattle.chain_compaction.proofs.WalkBackLemmas.{lookups_linear, lookups_cyclic, back_within}
use Rattle.chain_compaction.proofs.DetachedLinkLemmas.{work-none, work-touched, work-more}
use Rattle.chain_compaction.proofs.LinkLoanLemmas.{detached_then}
use Rattle.chain_compaction.proofs.WorkCountLemmas.{counts_none, counts_on}
use Rattle.chain_compaction.proofs.assign_destinations.start_at.Goals as goal

met_onward : (link_map : LinkMap) (i k : ℕ) (on next : Option ℕ) → ((j : ℕ) → on ≡ Some j → IsOnward link_map i j) → ((j : ℕ) → next ≡ Some j → (l : ℕ) × (on ≡ Some l) × (next_of link_map l ≡ Some j))
    → (k ≡ i) ⊎ ((on ≡ Some k) ⊎ (next ≡ Some k)) → IsOnward link_map i k
met_onward link_map i k on next onward after (inl e) = subst (λ (j : ℕ). IsOnward link_map i j) (sym e) (on_begins link_map i)
met_onward link_map i k on next onward after (inr (inl e)) = onward k e
met_onward link_map i k on next onward after (inr (inr e)) = let l = after k e in on_continues link_map i l.0 k (onward l.0 l.1) l.2

next_onward : (link_map : LinkMap) (i : ℕ) (on next : Option ℕ) → ((j : ℕ) → on ≡ Some j → IsOnward link_map i j) → ((j : ℕ) → next ≡ Some j → (l : ℕ) × (on ≡ Some l) × (next_of link_map l ≡ Some j))
    → (k : ℕ) → next ≡ Some k → IsOnward link_map i k
next_onward link_map i on next onward after k e = met_onward link_map i k on next onward after (inr (inr e))

pub loop-step-init : goal.loop-step-init
loop-step-init g c =
    let old = c.args.compactor.now in
    let number = g.P.Inx.InxKey.number in
    let reported = link_map_in g.P.Inx.InxKey.packed_number old.detached.slots in
    record {
      detached = refl;
      back = back_begins reported (number c.args.i);
      onward = λ k e. let same : number c.args.i ≡ k = cc in subst (λ (j : ℕ). IsOnward reported (number c.args.i) j) same (on_begins reported (number c.args.i));
      few = omega arith;
      work = work-none old.arena.now 0;
      counts = counts_none old;
    }

pub returns-then-is_one_of : goal.returns-then-is_one_of
returns-then-is_one_of g c =
    let number = g.P.Inx.InxKey.number in
    let at = c.loop-step.invariant in
    let lookup = c.read_link.ensures in
    let old = c.args.compactor.now in
    let now = c.loop-step.compactor in
    let new = c.read_link.new.compactor in
    let on = c.prefetch_next-count.ensures in
    let next = c.prefetch_next-count.new.compactor in
    let reported = link_map_in g.P.Inx.InxKey.packed_number c.args.compactor.now.detached.slots in
    let arrived = ap (λ h. prev_of (link_map_in g.P.Inx.InxKey.packed_number h.slots) (number c.loop-step.at)) at.detached in
    let same = detached_then old now new at.detached lookup.was_read.detached in
    let work = work-more at.work (work-touched now.arena.now new.arena.now lookup.was_read.arena) 0 (c.loop-step.step + c.loop-step.reads + 1) refl (omega arith) in
    record {
      start = walks_meet reported (number c.args.i) c.loop-step.step (number c.loop-step.at) (number c.in-Some.k) at.back
          (sym arrived ∙ (sym lookup.prev ∙ ap (option_map number) c.in-Some.is))
          (met_onward reported (number c.args.i) (number c.in-Some.k) _ _ at.onward
          (λ j e. let l = on.next j e in (l.0, l.1, ap (λ h. next_of (link_map_in g.P.Inx.InxKey.packed_number h.slots) l.0) (sym same) ∙ l.2))
          (c.is_one_of.ensures.0 c.if-is_one_of.true));
      ahead = omega (arith, at.few, on.few);
      detached = detached_then old new next same on.read.detached;
      linear = λ xs h m. work-more work on.read.work 0 _ refl (omega (arith, lookups_linear reported (number c.args.i) c.loop-step.step (number c.loop-step.at) at.back xs h m));
      cyclic = λ xs h. work-more work on.read.work 0 _ refl (omega (arith, lookups_cyclic reported (number c.args.i) c.loop-step.step (number c.loop-step.at) at.back xs h));
      counts = counts_on old new next (counts_on old now new at.counts lookup.was_read.counts) on.read.counts;
    }

pub returns-in-None : goal.returns-in-None
returns-in-None g c =
    let number = g.P.Inx.InxKey.number in
    let at = c.loop-step.invariant in
    let lookup = c.read_link.ensures in
    let old = c.args.compactor.now in
    let now = c.loop-step.compactor in
    let new = c.read_link.new.compactor in
    let reported = link_map_in g.P.Inx.InxKey.packed_number c.args.compactor.now.detached.slots in
    let arrived = ap (λ h. prev_of (link_map_in g.P.Inx.InxKey.packed_number h.slots) (number c.loop-step.at)) at.detached in
    record {
      start = back_ends reported (number c.args.i) c.loop-step.step (number c.loop-step.at) at.back (sym arrived ∙ (sym lookup.prev ∙ ap (option_map number) c.in-None.is));
      ahead = at.few;
      detached = detached_then old now new at.detached lookup.was_read.detached;
      linear = λ xs h m. work-more at.work (work-touched now.arena.now new.arena.now lookup.was_read.arena) 0 _ refl (omega (arith, lookups_linear reported (number c.args.i) c.loop-step.step (number c.loop-step.at) at.back xs h m));
      cyclic = λ xs h. work-more at.work (work-touched now.arena.now new.arena.now lookup.was_read.arena) 0 _ refl (omega (arith, lookups_cyclic reported (number c.args.i) c.loop-step.step (number c.loop-step.at) at.back xs h));
      counts = counts_on old now new at.counts lookup.was_read.counts;
    }

pub loop-step-preserved : goal.loop-step-preserved
loop-step-preserved g c =
    let number = g.P.Inx.InxKey.number in
    let packed_number = g.P.Inx.InxKey.packed_number in
    let at = c.loop-step.invariant in
    let lookup = c.read_link.ensures in
    let old = c.args.compactor.now in
    let now = c.loop-step.compactor in
    let new = c.read_link.new.compactor in
    let on = c.prefetch_next-count.ensures in
    let next = c.prefetch_next-count.new.compactor in
    let reported = link_map_in packed_number c.args.compactor.now.detached.slots in
    let same = detached_then old now new at.detached lookup.was_read.detached in
    record {
      detached = detached_then old new next same on.read.detached;
      back = back_continues reported (number c.args.i) c.loop-step.step (number c.loop-step.at) (number c.in-Some.k) at.back
          (sym (ap (λ h. prev_of (link_map_in packed_number h.slots) (number c.loop-step.at)) at.detached) ∙ sym lookup.prev ∙ ap (option_map number) c.in-Some.is)
          (λ e. absurd (false≢true (c.if-is_one_of.ensures.1 (inl e))));
      onward = next_onward reported (number c.args.i) _ _ at.onward (λ j e. let l = on.next j e in (l.0, l.1, ap (λ h. next_of (link_map_in packed_number h.slots) l.0) (sym same) ∙ l.2));
      few = omega (arith, at.few, on.few);
      work = work-more (work-more at.work (work-touched now.arena.now new.arena.now lookup.was_read.arena) 0 (c.loop-step.step + c.loop-step.reads + 1) refl (omega arith)) on.read.work 0 _ refl (omega arith);
      counts = counts_on old new next (counts_on old now new at.counts lookup.was_read.counts) on.read.counts;
    }

pub proved_unreachable-assume_proved-requires : goal.proved_unreachable-assume_proved-requires
proved_unreachable-assume_proved-requires g c = absurd (
    let number = g.P.Inx.InxKey.number in
    let few = back_within g.P.Inx.InxKey.packed_number c.args.compactor.now.detached.slots (number c.args.i) c.loop-step.step (number c.loop-step.at) c.requires.chain c.loop-step.invariant.back in
    omega (arith, few))
