-- Writes of slots: which entry is where, and how many entries wait.
use Rattle.std.proofs.Common.{◌≡◌, ◌≢◌, ℕ, zero, suc, ◌+◌, ◌≤◌, List, [], ◌∷◌, length, map, Bool, cond, Option, None, Some, refl, sym, ap, ap₂, ◌∙◌, arith}
use Rattle.std.specs.Prelude.{count_by, is_some}
use Rattle.std.specs.Option.{option_map}
use Rattle.std.proofs.lemmas.List.Sums.{sum_by-set, sum_by-cons}
use Rattle.chain_laws.specs.Chains.{Interlinks}
use Rattle.chain_laws.proofs.InterlinkLemmas.Inverses.{if_same, if_other}
use Rattle.arena_traits.specs.Arena.{slot_at, with_slot}
use Rattle.chain_compaction.specs.Permutations.{HasDestination, waits, waiting_count}
use Rattle.chain_links.proofs.ArenaInsertionLemmas.{slots-within}
use Rattle.arena_traits.proofs.InsertionLemmas.{slot_at-written}

module _ {X : Type 0} where
  pub slot_at-same : (xs : List (Option X)) (i : ℕ) (x : Option X) → 1 ≤ i → i ≤ length xs → slot_at (with_slot xs i x) i ≡ x
  slot_at-same xs i x low high = slot_at-written xs i i x low high ∙ if_same i i _ _ refl

  pub slot_at-other : (xs : List (Option X)) (i j : ℕ) (x : Option X) → 1 ≤ i → i ≤ length xs → j ≢ i → slot_at (with_slot xs i x) j ≡ slot_at xs j
  slot_at-other xs i j x low high differs = slot_at-written xs i j x low high ∙ if_other j i _ _ differs

  pub stored-within : (xs : List (Option X)) (i : ℕ) (x : X) → slot_at xs i ≡ Some x → (1 ≤ i) × (i ≤ length xs)
  stored-within xs i x is =
      let lone : X → Interlinks = λ _. record { prev = None; next = None } in
      (slots-within lone xs).within i (record { link = lone x; links = ap (option_map lone) is })

  pub count-with_slot : (p : Option X → Bool) (xs : List (Option X)) (i : ℕ) (x : Option X) → 1 ≤ i → i ≤ length xs
      → count_by p (with_slot xs i x) + cond (p (slot_at xs i)) 1 0 ≡ count_by p xs + cond (p x) 1 0
  count-with_slot p xs zero x low high = absurd (omega arith)
  count-with_slot p xs (suc k) x low high = sum_by-set (λ y. cond (p y) 1 0) xs k x None (omega arith)

abbrev pub one_if : Bool → ℕ
one_if b = cond b 1 0

abbrev pub mark : {E : Type 0} → (E → Option ℕ) → Option E → ℕ
mark goal slot = one_if (waits goal slot)

module _ {E : Type 0} (goal : E → Option ℕ) where
  waits-behind : (x : Option E) (xs : List (Option E)) (i : ℕ) (e : E) (d : ℕ) → HasDestination goal (slot_at xs) i e d → HasDestination goal (slot_at (x ∷ xs)) (suc i) e d
  waits-behind x xs zero e d w = let none : None ≡ Some e = w.stored in absurd (cc)
  waits-behind x xs (suc k) e d w = record { stored = w.stored; to = w.to }

  stored-behind : (x : Option E) (xs : List (Option E)) (i : ℕ) (e : E) → slot_at xs i ≡ Some e → slot_at (x ∷ xs) (suc i) ≡ Some e
  stored-behind x xs zero e s = absurd (cc)
  stored-behind x xs (suc k) e s = s

  mark-none : (x : Option E) → ((e : E) (d : ℕ) → x ≡ Some e → goal e ≡ Some d → ⊥) → mark goal x ≡ 0
  mark-none None not = refl
  mark-none (Some e) not = by (goal e) refl
    where
      by : (o : Option ℕ) → goal e ≡ o → ◌≡◌ {A = ℕ} (one_if (is_some o)) 0
      by None is = refl
      by (Some d) is = absurd (not e d refl is)

  mark-all : (x : Option E) → ((e : E) → x ≡ Some e → (d : ℕ) × (goal e ≡ Some d)) → mark goal x ≡ one_if (is_some x)
  mark-all None all = refl
  mark-all (Some e) all = let a = all e refl in ap (λ (o : Option ℕ). one_if (is_some o)) a.1

  pub waiting-none : (xs : List (Option E)) → ((i d : ℕ) (e : E) → HasDestination goal (slot_at xs) i e d → ⊥) → waiting_count goal xs ≡ 0
  waiting-none [] not = refl
  waiting-none (x ∷ xs) not =
      let rest : waiting_count goal xs ≡ 0 = waiting-none xs (λ i d e w. not (suc i) d e (waits-behind x xs i e d w)) in
      let first : mark goal x ≡ 0 = mark-none x (λ e d is to. not 1 d e (record { stored = is; to = to })) in
      sum_by-cons (mark goal) x xs ∙ ap₂ (λ (a b : ℕ). a + b) first rest

  pub none-waiting : (xs : List (Option E)) → waiting_count goal xs ≡ 0 → (i d : ℕ) (e : E) → HasDestination goal (slot_at xs) i e d → ⊥
  none-waiting [] none i d e w = let within = stored-within [] i e w.stored in omega (arith, within.0, within.1)
  none-waiting (x ∷ xs) none zero d e w = let within = stored-within (x ∷ xs) zero e w.stored in omega (arith, within.0)
  none-waiting (x ∷ xs) none (suc zero) d e w =
      let first : mark goal x ≡ 1 = ap (mark goal) w.stored ∙ ap (λ (o : Option ℕ). one_if (is_some o)) w.to in
      let whole : waiting_count goal (x ∷ xs) ≡ mark goal x + waiting_count goal xs = sum_by-cons (mark goal) x xs in
      omega arith
  none-waiting (x ∷ xs) none (suc (suc k)) d e w =
      let whole : waiting_count goal (x ∷ xs) ≡ mark goal x + waiting_count goal xs = sum_by-cons (mark goal) x xs in
      none-waiting xs (omega arith) (suc k) d e (record { stored = w.stored; to = w.to })

  pub waiting-all : (xs : List (Option E)) → ((i : ℕ) (e : E) → slot_at xs i ≡ Some e → (d : ℕ) × (goal e ≡ Some d)) → waiting_count goal xs ≡ count_by is_some xs
  waiting-all [] all = refl
  waiting-all (x ∷ xs) all =
      let rest : waiting_count goal xs ≡ count_by is_some xs = waiting-all xs (λ i e s. all (suc i) e (stored-behind x xs i e s)) in
      let first : mark goal x ≡ one_if (is_some x) = mark-all x (λ e s. all 1 e s) in
      sum_by-cons (mark goal) x xs ∙ (ap₂ (λ (a b : ℕ). a + b) first rest ∙ sym (sum_by-cons (λ (y : Option E). one_if (is_some y)) x xs))

pub at_end : (k end all : ℕ) → end ≡ all → k ≤ end → end ≤ k → k ≡ all
at_end k end all is high low = omega (arith, is, high, low)

pub count-mapped : {A B : Type 0} (f : A → B) (xs : List (Option A)) → count_by is_some (map (option_map f) xs) ≡ count_by is_some xs
count-mapped f [] = refl
count-mapped f (x ∷ xs) = sum_by-cons (λ (y : Option _). one_if (is_some y)) (option_map f x) (map (option_map f) xs)
    ∙ (ap₂ (λ (b : Bool) (n : ℕ). one_if b + n) (kept x) (count-mapped f xs) ∙ sym (sum_by-cons (λ (y : Option _). one_if (is_some y)) x xs))
  where
    kept : (o : Option _) → is_some (option_map f o) ≡ is_some o
    kept None = refl
    kept (Some e) = refl
