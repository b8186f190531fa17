-- The slots after a link gets a destination or other interlinks.
use Rattle.std.proofs.Common.{◌≡◌, ℕ, length, Option, None, Some, refl, sym, ap, ◌∙◌, subst}
use Rattle.std.specs.Option.{option_map}
use Rattle.arena_traits.specs.Arena.{slot_at}
use Rattle.arena_base.specs.DetachedSlots.{DetachedView, detached_with_value}
use Rattle.arena_traits.proofs.ArenaViewLemmas.{length-with_slot}
use Rattle.chain_links.specs.declared.links.RawLink.{RawLink}
use Rattle.chain_links.specs.Links.{link_view}
use Rattle.chain_compaction.specs.Destinations.{IsDirectedAt, IsRelinkedAt, IsRingClosed}

one_link : {K T : Type 0} {a b : RawLink K T} → ◌≡◌ {A = Option (RawLink K T)} (Some a) (Some b) → a ≡ b
one_link e = cc

module _ {Gen K T : Type 0} where
  abbrev link_at : DetachedView Gen (RawLink K T) → ℕ → Option (RawLink K T)
  link_at detached i = option_map (λ (e : Gen × RawLink K T). e.1) (slot_at detached.slots i)

  module _ (number : K → Option ℕ) (i : ℕ) (target : Option ℕ) (old new : DetachedView Gen (RawLink K T)) where
    pub directs : (l w : RawLink K T) → Some l ≡ option_map (λ (e : Gen × RawLink K T). e.1) (slot_at old.slots i) → new ≡ detached_with_value old i w
        → number w.destination ≡ target → w ≡ record l { destination = w.destination } → IsDirectedAt number i target old new
    directs l w stored wrote is rest = record {
      there = λ m there.
          let same : l ≡ m = one_link (stored ∙ sym there) in
          (w, is, rest ∙ ap (λ (k : RawLink K T). let r : RawLink K T = record k { destination = w.destination } in r) same, wrote);
      none = λ empty. absurd (let both = stored ∙ sym empty in cc);
    }

  module _ (number : K → Option ℕ) (i : ℕ) (prev next target : Option ℕ) (old new : DetachedView Gen (RawLink K T)) where
    pub links_both : (l m n w : RawLink K T) → Some l ≡ link_at old i → new ≡ detached_with_value old i w → number m.prev ≡ prev → m ≡ record l { prev = m.prev } → number n.next ≡ next → n ≡ record m { next = n.next }
        → number w.destination ≡ target → w ≡ record n { destination = w.destination } → IsRelinkedAt number i prev next target old new
    links_both l m n w stored wrote is_prev set_prev is_next set_next sent rest = record {
      there = λ k there. (w, view_after k (one_link (stored ∙ sym there)), sent, wrote);
      none = λ empty. absurd (let both = stored ∙ sym empty in cc);
    }
      where
        view_after : (k : RawLink K T) → l ≡ k → link_view number w ≡ record { prev = prev; next = next; value = k.t }
        view_after k same =
            ap (link_view number) rest ∙ (ap (link_view number) (λ j. record (set_next j) { destination = w.destination })
            ∙ ((λ j. record { prev = number (set_prev j).prev; next = number n.next; value = (set_prev j).t }) ∙ (λ j. record { prev = is_prev j; next = is_next j; value = (same j).t })))

    pub links_none : new ≡ old → None ≡ link_at old i → IsRelinkedAt number i prev next target old new
    links_none same empty = record { there = λ k there. absurd (let both = there ∙ sym empty in cc); none = λ e. same }

    pub linked_long : IsRelinkedAt number i prev next target old new → length new.slots ≡ length old.slots
    linked_long relinked = by (link_at old i) refl
      where
        by : (o : Option (RawLink K T)) → link_at old i ≡ o → length new.slots ≡ length old.slots
        by None is = ap (λ (h : DetachedView Gen (RawLink K T)). length h.slots) (relinked.none (sym is))
        by (Some l) is =
            let w = relinked.there l (sym is) in
            ap (λ (h : DetachedView Gen (RawLink K T)). length h.slots) w.3 ∙ length-with_slot old.slots i _

  pub linked_read : (number : K → Option ℕ) (i : ℕ) (prev named next target : Option ℕ) (old was_read new : DetachedView Gen (RawLink K T)) → was_read ≡ old → named ≡ next → IsRelinkedAt number i prev named target was_read new → IsRelinkedAt number i prev next target old new
  linked_read number i prev named next target old was_read new same is relinked = subst (λ (p : DetachedView Gen (RawLink K T) × Option ℕ). IsRelinkedAt number i prev p.1 target p.0 new) (λ j. (same j, is j)) relinked

  module _ (number : K → Option ℕ) (i : ℕ) (first last : Option ℕ) (old new : DetachedView Gen (RawLink K T)) where
    pub closes : (f : ℕ) → first ≡ Some f → (l w : RawLink K T) → Some l ≡ link_at old i → new ≡ detached_with_value old i w → number w.prev ≡ last → w ≡ record l { prev = w.prev } → IsRingClosed number i first last old new
    closes f some l w stored wrote is rest = record {
      ring = λ k m named there. (w, is, rest ∙ ap (λ (x : RawLink K T). let r : RawLink K T = record x { prev = w.prev } in r) (one_link (stored ∙ sym there)), wrote);
      linear = λ none. absurd (let both = sym some ∙ none in cc);
    }
