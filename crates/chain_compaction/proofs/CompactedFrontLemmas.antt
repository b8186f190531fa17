-- Entries that have moved to the front, and the free slots that trimming removes.
use Rattle.std.proofs.Common.{◌≡◌, ℕ, zero, suc, ◌<◌, ◌≤◌, List, [], ◌∷◌, length, map, Option, None, Some, true, false, refl, ap, ap₂, ◌∙◌, arith}
use Rattle.std.specs.Prelude.{slice_index_or, IsSome, is_some}
use Rattle.std.specs.Option.{option_map}
use Rattle.arena_traits.specs.Arena.{slot_at}
use Rattle.arena_base.specs.DetachedSlots.{IsPacked, without_free_end}
use Rattle.chain_links.specs.declared.links.RawLink.{RawLink}
use Rattle.chain_links.specs.ChainArena.{LinkView}
use Rattle.chain_links.specs.Links.{link_view, pair_view, destination_of}
use Rattle.chain_compaction.specs.Permutations.{HasDestination, HaveMoved, AreMovedToFront, Settles}
use Rattle.std.proofs.lemmas.List.{length-take-le}
use Rattle.arena_base.proofs.PackedSlotLemmas.{packed-trimmed}
use Rattle.chain_links.proofs.MappedArenaLemmas.{slot_at-map}

module _ {X : Type 0} where
  length-front : (n : ℕ) (xs : List (Option X)) → ((k : ℕ) → k < n → IsSome (slice_index_or xs k None)) → n ≤ length xs
  length-front zero xs front = omega arith
  length-front (suc n) [] front = let none : false ≡ true = front 0 (omega arith) in absurd (cc)
  length-front (suc n) (x ∷ xs) front = let rest = length-front n xs (λ k below. front (suc k) (omega (arith, below))) in omega (arith, rest)

  pub packed-length : (n : ℕ) (xs : List (Option X)) → IsPacked xs n → length (without_free_end xs) ≡ n
  packed-length n xs packed = ap length (packed-trimmed n xs packed) ∙ length-take-le n xs (length-front n xs (λ k below. packed.taken (suc k) (omega arith) (omega (arith, below))))

module _ {E : Type 0} (goal : E → Option ℕ) (Settles : E → E → Type 0) (n : ℕ) (old new : List (Option E))
    (front : AreMovedToFront goal old n) (moved : HaveMoved goal Settles (slot_at old) (slot_at new)) where
  stored_in_front : (k : ℕ) → k < n → (e : E) × (slice_index_or new k None ≡ Some e)
  stored_in_front k below =
      let from = front.each (suc k) (omega arith) (omega arith) in
      let there = moved.there from.0 (suc k) from.1 from.2 in
      (there.entry, there.stored)

  free_behind : (k : ℕ) → n ≤ k → slice_index_or new k None ≡ None
  free_behind k above = by (slice_index_or new k None) refl
    where
      by : (o : Option E) → slice_index_or new k None ≡ o → o ≡ None
      by None is = refl
      by (Some e) is =
          let originals = moved.back (suc k) e is in
          let few : suc k ≤ n = front.few originals.from (suc k) originals.entry originals.waited in
          absurd (omega arith)

  pub front-packed : IsPacked new n
  front-packed = record { taken = taken; free = free }
    where
      taken : (i : ℕ) → 1 ≤ i → i ≤ n → IsSome (slot_at new i)
      taken zero low high = absurd (omega (arith, low))
      taken (suc k) low high = ap (λ (o : Option E). is_some o) (stored_in_front k (omega (arith, high))).1

      free : (i : ℕ) → n < i → slot_at new i ≡ None
      free zero above = refl
      free (suc k) above = free_behind k (omega (arith, above))

module _ {Gen K T : Type 0} (number : K → Option ℕ) (g : Gen) where
  pub settled_viewed : (e f : Gen × RawLink K T) → Settles number g e f → pair_view number f ≡ (g, link_view number e.1)
  settled_viewed e f s = ap₂ (λ (h : Gen) (l : LinkView T). (h, l)) s.generation (ap (link_view number) s.rest)

  pub moved_viewed : (old new : List (Option (Gen × RawLink K T))) → HaveMoved (destination_of number) (Settles number g) (slot_at old) (slot_at new) → (i d : ℕ) (e : Gen × RawLink K T)
      → HasDestination (destination_of number) (slot_at old) i e d → slot_at (map (option_map (pair_view number)) new) d ≡ Some (g, link_view number e.1)
  moved_viewed old new moved i d e w =
      let there = moved.there i d e w in
      slot_at-map (pair_view number) new d
      ∙ (ap (option_map (pair_view number)) there.stored ∙ ap (λ (x : Gen × LinkView T). let o : Option (Gen × LinkView T) = Some x in o) (settled_viewed e there.entry there.settled))
