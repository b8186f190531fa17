-- Links without destinations, after writes to slots.
use Rattle.std.proofs.Common.{◌≡◌, ℕ, zero, suc, List, [], ◌∷◌, ◌++◌, Option, None, Some, refl, subst, ◌∙◌}
use Rattle.std.specs.Prelude.{slice_index_or, slice_set}
use Rattle.std.specs.Option.{option_map, option_and_then}
use Rattle.arena_traits.specs.Arena.{slot_at, with_slot, slots_after_insertion}
use Rattle.chain_links.specs.declared.links.RawLink.{RawLink}
use Rattle.chain_links.specs.Links.{IsAtRest, destination_of, destination_at, AreAtRest, StayAtRest}

abbrev IsEmpty : {Gen K T : Type 0} → (K → Option ℕ) → Option (Gen × RawLink K T) → Type 0
IsEmpty number slot = option_and_then (destination_of number) slot ≡ None

module _ {Gen K T : Type 0} (number : K → Option ℕ) where
  index-set : (slots : List (Option (Gen × RawLink K T))) (k j : ℕ) (slot : Option (Gen × RawLink K T)) → IsEmpty number slot → ((i : ℕ) → IsEmpty number (slice_index_or slots i None)) → IsEmpty number (slice_index_or (slice_set slots k slot) j None)
  index-set [] k j slot empty each = refl
  index-set (s ∷ slots) zero zero slot empty each = empty
  index-set (s ∷ slots) zero (suc j) slot empty each = each (suc j)
  index-set (s ∷ slots) (suc k) zero slot empty each = each 0
  index-set (s ∷ slots) (suc k) (suc j) slot empty each = index-set slots k j slot empty (λ i. each (suc i))

  index-append : (slots : List (Option (Gen × RawLink K T))) (j : ℕ) (slot : Option (Gen × RawLink K T)) → IsEmpty number slot → ((i : ℕ) → IsEmpty number (slice_index_or slots i None)) → IsEmpty number (slice_index_or (slots ++ slot ∷ []) j None)
  index-append [] zero slot empty each = empty
  index-append [] (suc j) slot empty each = refl
  index-append (s ∷ slots) zero slot empty each = each 0
  index-append (s ∷ slots) (suc j) slot empty each = index-append slots j slot empty (λ i. each (suc i))

  of_indexes : (slots : List (Option (Gen × RawLink K T))) → ((k : ℕ) → IsEmpty number (slice_index_or slots k None)) → AreAtRest number slots
  of_indexes slots each = record { none = by }
    where
      by : (i : ℕ) → destination_at number slots i ≡ None
      by zero = refl
      by (suc k) = each k

  pub nothing_at_rest : AreAtRest {Gen = Gen} {T = T} number []
  nothing_at_rest = of_indexes [] (λ k. refl)

  pub set_at_rest : (slots : List (Option (Gen × RawLink K T))) (n : ℕ) (slot : Option (Gen × RawLink K T)) → IsEmpty number slot → StayAtRest number slots (with_slot slots n slot)
  set_at_rest slots zero slot empty rest = rest
  set_at_rest slots (suc k) slot empty rest = of_indexes (slice_set slots k slot) (λ j. index-set slots k j slot empty (λ i. rest.none (suc i)))

  pub inserted_at_rest : (freed : List ℕ) (slots : List (Option (Gen × RawLink K T))) (g : Gen) (link : RawLink K T) → IsAtRest number link → StayAtRest number slots (slots_after_insertion freed slots (g, link))
  inserted_at_rest [] slots g link rests rest = of_indexes (slots ++ Some (g, link) ∷ []) (λ j. index-append slots j (Some (g, link)) rests (λ i. rest.none (suc i)))
  inserted_at_rest (i ∷ freed) slots g link rests rest = set_at_rest slots i (Some (g, link)) rests rest

  pub stored_at_rest : (slots : List (Option (Gen × RawLink K T))) (n : ℕ) (link : RawLink K T) → option_map (λ (e : Gen × RawLink K T). e.1) (slot_at slots n) ≡ Some link → AreAtRest number slots → IsAtRest number link
  stored_at_rest slots n link stored rest = by (slot_at slots n) stored (rest.none n)
    where
      by : (o : Option (Gen × RawLink K T)) → option_map (λ (e : Gen × RawLink K T). e.1) o ≡ Some link → IsEmpty number o → IsAtRest number link
      by None is empty = absurd (let h = is in cc)
      by (Some e) is empty = subst (IsAtRest number) (let h = is in let same : e.1 ≡ link = cc in same) empty

  pub written_at_rest : (slots : List (Option (Gen × RawLink K T))) (n : ℕ) (link w : RawLink K T) → option_map (λ (e : Gen × RawLink K T). e.1) (slot_at slots n) ≡ Some link → number w.destination ≡ number link.destination
      → StayAtRest number slots (with_slot slots n (option_map (λ (e : Gen × RawLink K T). (e.0, w)) (slot_at slots n)))
  written_at_rest slots n link w stored same rest = set_at_rest slots n (option_map (λ (e : Gen × RawLink K T). (e.0, w)) (slot_at slots n)) (by (slot_at slots n)) rest
    where
      by : (o : Option (Gen × RawLink K T)) → IsEmpty number (option_map (λ (e : Gen × RawLink K T). (e.0, w)) o)
      by None = refl
      by (Some e) = same ∙ stored_at_rest slots n link stored rest

  with_generation : (g : Gen) (o : Option (Gen × RawLink K T)) → IsEmpty number o → IsEmpty number (option_map (λ (e : Gen × RawLink K T). (g, e.1)) o)
  with_generation g None empty = refl
  with_generation g (Some e) empty = empty

  pub renewed_at_rest : (slots : List (Option (Gen × RawLink K T))) (n : ℕ) (g : Gen) → StayAtRest number slots (with_slot slots n (option_map (λ (e : Gen × RawLink K T). (g, e.1)) (slot_at slots n)))
  renewed_at_rest slots n g rest = set_at_rest slots n (option_map (λ (e : Gen × RawLink K T). (g, e.1)) (slot_at slots n)) (with_generation g (slot_at slots n) (rest.none n)) rest

  pub placed_at_rest : (slots : List (Option (Gen × RawLink K T))) (from to : ℕ) (g : Gen) → StayAtRest number slots (with_slot (with_slot slots from (slot_at slots to)) to (option_map (λ (e : Gen × RawLink K T). (g, e.1)) (slot_at slots from)))
  placed_at_rest slots from to g rest =
      set_at_rest (with_slot slots from (slot_at slots to)) to (option_map (λ (e : Gen × RawLink K T). (g, e.1)) (slot_at slots from)) (with_generation g (slot_at slots from) (rest.none from))
      (set_at_rest slots from (slot_at slots to) (rest.none to) rest)
