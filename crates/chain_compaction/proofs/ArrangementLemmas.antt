-- Lists of the indexes of entries, and slots whose entries are at their places.
use Rattle.std.proofs.Common.{◌≡◌, ℕ, zero, suc, ◌+◌, ◌≤◌, inl, inr, List, [], ◌∷◌, length, map, Option, None, Some, refl, ap, ap₂, sym, ◌∙◌, subst, arith}
use Rattle.std.specs.Prelude.{slice_index_or}
use Rattle.std.specs.Option.{option_map}
use Rattle.std.proofs.lemmas.List.{length-map}
use Rattle.chain_laws.specs.Chains.{IsMember, AreDistinct}
use Rattle.chain_laws.specs.Arrangements.{place_from}
use Rattle.chain_laws.proofs.WalkLemmas.WalkBack.{length_among}
use Rattle.chain_laws.proofs.RenamingLemmas.Positions.{place-same, place-other, place-has}
use Rattle.arena_traits.specs.Arena.{Arena, slot_at, entry_count}
use Rattle.arena_traits.specs.Entries.{entries_from, index_of}
use Rattle.arena_traits.proofs.ArenaViewLemmas.{length-entries}

module _ {Gen X : Type 0} where
  indexes-low : (slots : List (Option (Gen × X))) (i j : ℕ) → IsMember (map index_of (entries_from i slots)) j → i ≤ j
  indexes-low [] i j h = absurd h
  indexes-low (None ∷ slots) i j h = let low = indexes-low slots (suc i) j h in omega (arith, low)
  indexes-low (Some e ∷ slots) i j (inl same) = omega (arith, same)
  indexes-low (Some e ∷ slots) i j (inr h) = let low = indexes-low slots (suc i) j h in omega (arith, low)

  indexes-once : (slots : List (Option (Gen × X))) (i : ℕ) → AreDistinct (map index_of (entries_from i slots))
  indexes-once [] i = tt
  indexes-once (None ∷ slots) i = indexes-once slots (suc i)
  indexes-once (Some e ∷ slots) i = (λ h. let low = indexes-low slots (suc i) i h in omega (arith, low), indexes-once slots (suc i))

  indexes-are_stored : (slots : List (Option (Gen × X))) (i j : ℕ) → IsMember (map index_of (entries_from i slots)) j → (k : ℕ) × (e : Gen × X) × (i + k ≡ j) × (slice_index_or slots k None ≡ Some e)
  indexes-are_stored [] i j h = absurd h
  indexes-are_stored (None ∷ slots) i j h = let w = indexes-are_stored slots (suc i) j h in (suc w.0, w.1, omega (arith, w.2), w.3)
  indexes-are_stored (Some e ∷ slots) i j (inl same) = (0, e, omega (arith, same), refl)
  indexes-are_stored (Some e ∷ slots) i j (inr h) = let w = indexes-are_stored slots (suc i) j h in (suc w.0, w.1, omega (arith, w.2), w.3)

  are_stored-indexes : (slots : List (Option (Gen × X))) (i j k : ℕ) (e : Gen × X) → i + k ≡ j → slice_index_or slots k None ≡ Some e → IsMember (map index_of (entries_from i slots)) j
  are_stored-indexes [] i j k e at is = absurd (let h = is in cc)
  are_stored-indexes (None ∷ slots) i j zero e at is = absurd (let h = is in cc)
  are_stored-indexes (None ∷ slots) i j (suc k) e at is = are_stored-indexes slots (suc i) j k e (omega (arith, at)) is
  are_stored-indexes (Some d ∷ slots) i j zero e at is = inl (omega (arith, at))
  are_stored-indexes (Some d ∷ slots) i j (suc k) e at is = inr (are_stored-indexes slots (suc i) j k e (omega (arith, at)) is)

  pub count-stored : (a : Arena Gen X) (indexes : List ℕ) → AreDistinct indexes → ((i : ℕ) (e : Gen × X) → slot_at a.slots i ≡ Some e → IsMember indexes i)
      → ((i : ℕ) → IsMember indexes i → (e : Gen × X) × (slot_at a.slots i ≡ Some e)) → entry_count a ≡ length indexes
  count-stored a indexes once each all = omega (arith, length-entries a, length-map (entries_from 1 a.slots) index_of, most, least)
    where
      most : length (map index_of (entries_from 1 a.slots)) ≤ length indexes
      most = length_among (map index_of (entries_from 1 a.slots)) indexes (indexes-once a.slots 1)
          (λ i h. let w = indexes-are_stored a.slots 1 i h in let at : suc w.0 ≡ i = omega (arith, w.2) in each i w.1 (sym (ap (slot_at a.slots) at) ∙ w.3))

      least : length indexes ≤ length (map index_of (entries_from 1 a.slots))
      least = length_among indexes (map index_of (entries_from 1 a.slots)) once (λ i h. let w = all i h in by i w.0 w.1)
        where
          by : (i : ℕ) (e : Gen × X) → slot_at a.slots i ≡ Some e → IsMember (map index_of (entries_from 1 a.slots)) i
          by zero e is = absurd (let h = is in cc)
          by (suc k) e is = are_stored-indexes a.slots 1 (suc k) k e (omega arith) is

pub slots-filled : {X : Type 0} (entry_of_item : ℕ → Option X) (xs : List ℕ) (n : ℕ) (slots : List (Option X)) → AreDistinct xs → length slots ≡ length xs
    → ((i k : ℕ) → place_from (suc n) xs i ≡ Some (suc n + k) → slice_index_or slots k None ≡ entry_of_item i) → slots ≡ map entry_of_item xs
slots-filled entry_of_item [] n [] once same each = refl
slots-filled entry_of_item [] n (s ∷ slots) once same each = absurd (omega (arith, same))
slots-filled entry_of_item (x ∷ xs) n [] once same each = absurd (omega (arith, same))
slots-filled {X} entry_of_item (x ∷ xs) n (s ∷ slots) once same each =
    ap₂ (λ (o : Option X) (os : List (Option X)). o ∷ os) first (slots-filled entry_of_item xs (suc n) slots once.1 (omega (arith, same)) rest)
  where
    first : s ≡ entry_of_item x
    first = each x 0 (place-same (suc n) xs x ∙ ap (λ (m : ℕ). Some m) (let e : suc n ≡ suc n + 0 = omega arith in e))

    rest : (i k : ℕ) → place_from (suc (suc n)) xs i ≡ Some (suc (suc n) + k) → slice_index_or slots k None ≡ entry_of_item i
    rest i k e =
        each i (suc k) (place-other (suc n) x xs i (λ same. once.0 (subst (IsMember xs) (sym same) (place-has (suc (suc n)) xs i (suc (suc n) + k) e)))
        ∙ (e ∙ ap (λ (m : ℕ). Some m) (let e : suc (suc n) + k ≡ suc n + suc k = omega arith in e)))

pub values-filled : {Gen T : Type 0} (g : Gen) (entry_of_item : ℕ → Option (Gen × T)) (xs : List ℕ) → ((i : ℕ) → IsMember xs i → (e : Gen × T) × (entry_of_item i ≡ Some e))
    → (values : List T) × (map (λ t. Some t) values ≡ map (λ i. option_map (λ (e : Gen × T). e.1) (entry_of_item i)) xs)
    × (map {B = Option (Gen × T)} (λ t. Some (g, t)) values ≡ map {B = Option (Gen × T)} (λ i. option_map (λ (e : Gen × T). (g, e.1)) (entry_of_item i)) xs) × (length values ≡ length xs)
values-filled g entry_of_item [] all = ([], refl, refl, refl)
values-filled {Gen} {T} g entry_of_item (x ∷ xs) all =
    let here = all x (inl refl) in
    let rest = values-filled g entry_of_item xs (λ i h. all i (inr h)) in (
      here.0.1 ∷ rest.0,
      ap₂ (λ (o : Option T) (os : List (Option T)). o ∷ os) (sym (ap (option_map (λ (e : Gen × T). e.1)) here.1)) rest.1,
      ap₂ (λ (o : Option (Gen × T)) (os : List (Option (Gen × T))). o ∷ os) (sym (ap (option_map (λ (e : Gen × T). (g, e.1))) here.1)) rest.2,
      ap suc rest.3,
    )
