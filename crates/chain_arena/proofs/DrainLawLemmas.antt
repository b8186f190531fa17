-- A drain yields the walk before it.
use Rattle.std.proofs.Common.{◌≡◌, ℕ, zero, suc, Bool, List, [], ◌∷◌, map, Option, None, Some, sym, ap, ◌∙◌}
use Rattle.std.specs.Prelude.{slice_set, slice_index_or}
use Rattle.std.proofs.lemmas.List.Elements.{All-cons, All-nil, All-weaker}
use Rattle.arena_core.specs.Invalidation.{value_in}
use Rattle.arena_core.specs.declared.invalidation.InvalidationOption.{InvalidationOption}
use Rattle.arena_traits.specs.Arena.{Arena, entry_at, slot_at, with_slot, IsValid}
use Rattle.chain_links.specs.ChainArena.{LinkView, entry, values_of, remove_link, link_value as detached_value, on_value}
use Rattle.chain_links.specs.declared.links.RawLink.{RawLink}
use Rattle.chain_links.proofs.MappedArenaLemmas.{entry_at-with_each}
use Rattle.chain_linking.proofs.UnlinkLemmas.{values_of-remove_link}
use Rattle.chain_arena.specs.Drains.{walk_left, IsDrainStep}
use Rattle.chain_arena.specs.DrainLaws.{DrainGivesTheWalk}
use Rattle.std.specs.Option.{option_map}

item_cleared : {X : Type 0} (xs : List (Option X)) (k m : ℕ) (x : X) → slice_index_or (slice_set xs k None) m None ≡ Some x → slice_index_or xs m None ≡ Some x
item_cleared [] k m x is = is
item_cleared (y ∷ xs) zero zero x is = absurd (cc)
item_cleared (y ∷ xs) zero (suc m) x is = is
item_cleared (y ∷ xs) (suc k) zero x is = is
item_cleared (y ∷ xs) (suc k) (suc m) x is = item_cleared xs k m x is

pub slot_cleared : {X : Type 0} (slots : List (Option X)) (i j : ℕ) (x : X) → slot_at (with_slot slots i None) j ≡ Some x → slot_at slots j ≡ Some x
slot_cleared slots zero j x is = is
slot_cleared slots (suc k) zero x is = absurd (cc)
slot_cleared slots (suc k) (suc m) x is = item_cleared slots k m x is

module _ {P Gen K T : Type 0} (key : P → ℕ × Gen) (number : K → Option ℕ) (following : Gen → Gen) (wraps : Gen → Bool) where
  valid_before : (old new : Arena Gen (LinkView T)) (i : ℕ) (p : ℕ × Gen) → new ≡ remove_link following old i → IsValid (entry new) p → IsValid (entry old) p
  valid_before old new i p gone valid =
      let values = ap (λ (a : Arena Gen (LinkView T)). values_of a) gone ∙ values_of-remove_link following old i in
      record { value = valid.value; stored = slot_cleared (values_of old).slots i p.0 (p.1, valid.value) (sym (ap (λ (a : Arena Gen T). entry_at a p.0) values) ∙ valid.stored) }

  step_valid : (old new : Arena Gen (LinkView T)) (at next : ℕ) (gone : InvalidationOption (P × RawLink K T)) → IsDrainStep key number following wraps old at gone new next
      → IsValid (entry old) (key (value_in gone).0)
  step_valid old new at next gone step =
      let p = key (value_in gone).0 in
      record {
        value = (value_in gone).1.t;
        stored = entry_at-with_each detached_value old p.0 ∙ ap (option_map (on_value detached_value)) (ap (entry_at old) step.index ∙ step.stored);
      }

  pub drain_gives_the_walk : DrainGivesTheWalk T key number following wraps
  drain_gives_the_walk old new at next [] drained spent =
      (sym spent ∙ ap (λ (x : Arena Gen (LinkView T) × ℕ). walk_left x.0 x.1) (let both : (new, next) ≡ (old, at) = cc in both), All-nil _)
  drain_gives_the_walk old new at next (gone ∷ rest) drained spent =
      let mid = drained.0 in
      let step = drained.2 in
      let was_valid : InvalidationOption (P × RawLink K T) → Type 0 = λ item. IsValid (entry old) (key (value_in item).0) in
      let later = drain_gives_the_walk mid new drained.1 next rest drained.3 spent in (
        ap (λ (n : ℕ). n ∷ map (λ (item : InvalidationOption (P × RawLink K T)). (key (value_in item).0).0) rest) step.index ∙ (ap (λ (walk : List ℕ). at ∷ walk) later.0 ∙ sym step.walk),
        All-cons was_valid gone rest (step_valid old mid at drained.1 gone step)
            (All-weaker (λ (item : InvalidationOption (P × RawLink K T)). IsValid (entry mid) (key (value_in item).0)) was_valid (λ (item : InvalidationOption (P × RawLink K T)). valid_before old mid at (key (value_in item).0) step.state) rest later.1),
      )
