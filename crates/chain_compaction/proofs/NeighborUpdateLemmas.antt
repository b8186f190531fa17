-- A link, if there is one, that names another as its neighbor.
use Rattle.std.proofs.Common.{◌≡◌, ℕ, Bool, true, false, Option, None, Some, refl, sym, ◌∙◌}
use Rattle.std.specs.Option.{option_map}
use Rattle.chain_laws.specs.Chains.{LinkMap}
use Rattle.arena_traits.specs.Arena.{slot_at}
use Rattle.arena_base.specs.DetachedSlots.{DetachedView, detached_with_value}
use Rattle.chain_links.specs.declared.links.RawLink.{RawLink}
use Rattle.chain_compaction.specs.DetachedLinks.{detached_values, link_map_in, with_neighbor}
use Rattle.chain_compaction.proofs.DetachedLinkLemmas.{values-kept, links-with_next_at, links-with_prev_at, with_next_at-unknown, with_prev_at-unknown}

pub states_none : {I : Type 0} (index : I → ℕ) (link_map : LinkMap) (before : Bool) (named : Option I) (target : Option ℕ) → named ≡ None → link_map ≡ with_neighbor before link_map (option_map index named) target
states_none {I} index link_map before named target is = by before ∙ (λ j. with_neighbor before link_map (option_map index (sym is j)) target)
  where
    by : (b : Bool) → link_map ≡ with_neighbor b link_map None target
    by true = refl
    by false = refl

module _ {I Gen K T : Type 0} (index : I → ℕ) (number : K → Option ℕ) (old new : DetachedView Gen (RawLink K T)) (before : Bool) (named : Option I) (target : Option ℕ) (i : I) (is : named ≡ Some i) where
  module _ (same : new ≡ old) where
    pub kept_values : detached_values new ≡ detached_values old
    kept_values = λ j. detached_values (same j)

    pub states_nowhere : None ≡ option_map (λ (e : Gen × RawLink K T). e.1) (slot_at old.slots (index i)) → link_map_in number new.slots ≡ with_neighbor before (link_map_in number old.slots) (option_map index named) target
    states_nowhere none = (λ j. link_map_in number (same j).slots) ∙ (by before ∙ (λ j. with_neighbor before (link_map_in number old.slots) (option_map index (sym is j)) target))
      where
        by : (b : Bool) → link_map_in number old.slots ≡ with_neighbor b (link_map_in number old.slots) (Some (index i)) target
        by true = with_prev_at-unknown number old.slots (index i) none target
        by false = with_next_at-unknown number old.slots (index i) none target

  module _ (l w : RawLink K T) (stored : Some l ≡ option_map (λ (e : Gen × RawLink K T). e.1) (slot_at old.slots (index i))) (wrote : new ≡ detached_with_value old (index i) w) where
    module _ (on : before ≡ true) (rest : w ≡ record l { prev = w.prev }) where
      pub prev_values : detached_values new ≡ detached_values old
      prev_values = values-kept old new (index i) l w stored wrote (λ j. (rest j).t)

      pub states_prev : number w.prev ≡ target → link_map_in number new.slots ≡ with_neighbor before (link_map_in number old.slots) (option_map index named) target
      states_prev to = links-with_prev_at old new (index i) l w stored wrote number target rest to ∙ (λ j. with_neighbor (sym on j) (link_map_in number old.slots) (option_map index (sym is j)) target)

    module _ (is_false : before ≡ false) (rest : w ≡ record l { next = w.next }) where
      pub next_values : detached_values new ≡ detached_values old
      next_values = values-kept old new (index i) l w stored wrote (λ j. (rest j).t)

      pub states_next : number w.next ≡ target → link_map_in number new.slots ≡ with_neighbor before (link_map_in number old.slots) (option_map index named) target
      states_next to = links-with_next_at old new (index i) l w stored wrote number target rest to ∙ (λ j. with_neighbor (sym is_false j) (link_map_in number old.slots) (option_map index (sym is j)) target)
