-- The calls of a transfer's closure.
use Rattle.std.proofs.Common.{◌≡◌, ℕ, zero, suc, ◌+◌, Bool, List, [], ◌∷◌, ◌++◌, length, map, Option, None, Some, refl, sym, ap, ap₂, ◌∙◌, arith}
use Rattle.std.specs.Prelude.{All, IfSome}
use Rattle.std.specs.Option.{option_map}
use Rattle.std.specs.Fn.{Mut, Called}
use Rattle.std.specs.List.{FoldsTo, range_with_len}
use Rattle.std.proofs.lemmas.Fn.{FoldsTo-push}
use Rattle.std.proofs.lemmas.List.{map-append, length-append}
use Rattle.std.proofs.lemmas.List.Elements.{All-push, All-nil}
use Rattle.arena_core.specs.Invalidation.{value_in, is_overflow}
use Rattle.arena_core.specs.declared.invalidation.InvalidationOption.{InvalidationOption}
use Rattle.chain_laws.proofs.ListLemmas.Ranges.{range_last}
use Rattle.arena_traits.specs.Entries.{ArenaView, found}
use Rattle.chain_arena.specs.Drains.{after_times}
use Rattle.chain_arena.specs.Transfers.{TransferredLink, old_index, overflows}

module _ {Gen : Type 0} (following : Gen → Gen) (wraps : Gen → Bool) where
  pub overflows-append : (n : ℕ) (g : Gen) → overflows following wraps (n + 1) g ≡ overflows following wraps n g ++ wraps (after_times following n g) ∷ []
  overflows-append n g = ap (λ m. overflows following wraps m g) (let e : n + 1 ≡ suc n = omega arith in e) ∙ longer n g
    where
      longer : (n : ℕ) (g : Gen) → overflows following wraps (suc n) g ≡ overflows following wraps n g ++ wraps (after_times following n g) ∷ []
      longer zero g = refl
      longer (suc n) g = ap (λ bs. wraps g ∷ bs) (longer n (following g))

module _ {Q P G Gen U T F : Type 0} (key : Q → ℕ × G) (new_key : P → ℕ × Gen) (following : G → G) (wraps : G → Bool) (call : Mut F (Q × (InvalidationOption U × (P × Unit {0}))) T) where
  -- The closure was called for the links at these indexes, in order.
  pub record AreCalled (generation : Gen) (first : F) (source : ArenaView G U) (order : List ℕ) (f : F) (transferred : List (TransferredLink Q P U T)) : Type 0 where
    pub ordered : map (old_index key) transferred ≡ order
    pub keys : map (λ c. new_key c.to) transferred ≡ map (λ k. (k, generation)) (range_with_len 1 (length transferred))
    pub in_turn : FoldsTo (λ s c t. Called call s (c.from, (c.value, (c.to, tt))) c.returned t) first transferred f
    pub was_stored : All (λ c. found (old_index key c) source.entries ≡ Some ((key c.from).1, value_in c.value)) transferred
    pub overflow : IfSome source.counter (λ g. map (λ c. is_overflow c.value) transferred ≡ overflows following wraps (length transferred) g)

  pub calls_begin : (generation : Gen) (f : F) (source : ArenaView G U) → AreCalled generation f source [] f []
  calls_begin generation f source = record { ordered = refl; keys = refl; in_turn = refl; was_stored = All-nil (λ (d : TransferredLink Q P U T). found (old_index key d) source.entries ≡ Some ((key d.from).1, value_in d.value)); overflow = none source.counter }
    where
      none : (o : Option G) → IfSome o (λ g. map {A = TransferredLink Q P U T} (λ c. is_overflow c.value) [] ≡ overflows following wraps 0 g)
      none None = tt
      none (Some g) = refl

  pub calls_continue : (generation : Gen) (first : F) (source : ArenaView G U) (order : List ℕ) (f : F) (transferred : List (TransferredLink Q P U T)) → AreCalled generation first source order f transferred
      → (c : TransferredLink Q P U T) (next : F) → found (old_index key c) source.entries ≡ Some ((key c.from).1, value_in c.value) → new_key c.to ≡ (length transferred + 1, generation)
      → Called call f (c.from, (c.value, (c.to, tt))) c.returned next
      → IfSome (option_map (after_times following (length transferred)) source.counter) (λ g. is_overflow c.value ≡ wraps g)
      → AreCalled generation first source (order ++ old_index key c ∷ []) next (transferred ++ c ∷ [])
  calls_continue generation first source order f transferred are c next was_stored at called overflow = record {
    ordered = map-append (old_index key) transferred (c ∷ []) ∙ ap (λ (xs : List ℕ). xs ++ old_index key c ∷ []) are.ordered;
    keys = keyed;
    in_turn = FoldsTo-push _ first transferred f c next are.in_turn called;
    was_stored = All-push (λ (d : TransferredLink Q P U T). found (old_index key d) source.entries ≡ Some ((key d.from).1, value_in d.value)) transferred c are.was_stored was_stored;
    overflow = known source.counter are.overflow overflow;
  }
    where
      long : length (transferred ++ c ∷ []) ≡ length transferred + 1
      long = length-append transferred (c ∷ [])

      keyed : map (λ (d : TransferredLink Q P U T). new_key d.to) (transferred ++ c ∷ []) ≡ map (λ k. (k, generation)) (range_with_len 1 (length (transferred ++ c ∷ [])))
      keyed =
          map-append (λ (d : TransferredLink Q P U T). new_key d.to) transferred (c ∷ [])
          ∙ (ap₂ (λ (ps : List (ℕ × Gen)) (p : ℕ × Gen). ps ++ p ∷ []) are.keys (at ∙ ap (λ n. let p : ℕ × Gen = (n, generation) in p) (let e : length transferred + 1 ≡ 1 + length transferred = omega arith in e))
          ∙ (sym (map-append (λ k. let p : ℕ × Gen = (k, generation) in p) (range_with_len 1 (length transferred)) ((1 + length transferred) ∷ []))
          ∙ ap (map (λ k. let p : ℕ × Gen = (k, generation) in p)) (sym (range_last 1 (length transferred)) ∙ ap (range_with_len 1) (sym long))))

      known : (o : Option G) → IfSome o (λ g. map (λ (d : TransferredLink Q P U T). is_overflow d.value) transferred ≡ overflows following wraps (length transferred) g)
          → IfSome (option_map (after_times following (length transferred)) o) (λ g. is_overflow c.value ≡ wraps g)
          → IfSome o (λ g. map (λ (d : TransferredLink Q P U T). is_overflow d.value) (transferred ++ c ∷ []) ≡ overflows following wraps (length (transferred ++ c ∷ [])) g)
      known None before now = tt
      known (Some g) before now =
          map-append (λ (d : TransferredLink Q P U T). is_overflow d.value) transferred (c ∷ [])
          ∙ (ap₂ (λ (bs : List Bool) (b : Bool). bs ++ b ∷ []) before now
          ∙ (sym (overflows-append following wraps (length transferred) g) ∙ ap (λ n. overflows following wraps n g) (sym long)))
