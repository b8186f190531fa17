-- How many keys unions redirect: each time that a key is redirected, its set at least doubles.
use Rattle.std.proofs.Common.{◌≡◌, ◌≢◌, ℕ, zero, suc, ◌+◌, ◌-◌, ◌*◌, ◌^◌, ◌≤◌, ⊎_elim, List, [], ◌∷◌, length, Some, refl, sym, ap, ◌∙◌, subst, arith}
use Rattle.std.specs.Prelude.{min}
use Rattle.std.specs.Option.{option_map}
use Rattle.std.proofs.Math.Nat.{add-mul, mul-le-mul_left, min-le_left}
use Rattle.std.proofs.lemmas.Bool.{cases_lt}
use Rattle.chain_laws.specs.Chains.{IsMember}
use Rattle.arena_traits.specs.Entries.{found, without_index, with_replacement}
use Rattle.arena_traits.proofs.EntryChangeLemmas.{valued, found-written, found-unwritten}
use Rattle.arena_traits.proofs.EntrySearchLemmas.{at_first, found-kept}
use Rattle.surject_arena.specs.Histories.{Change, starts_set, adds_key, unites, grows, Makes, History, insertion_count, RedirectsFew}
use Rattle.surject_arena.specs.Surjections.{Surjection, set_at, HasValue, IsSurjection}
use Rattle.surject_arena.specs.SetCalls.{IsAbsorbed}
use Rattle.surject_arena.proofs.OptionLemmas.{same_some, none_some}
use Rattle.surject_arena.proofs.EntrySumLemmas.{AreOnce, total_weight, weight-added, weight-written, weight-without, weight_within, once-written, once-without}
use Rattle.surject_arena.proofs.HistoryLemmas.{same_name}

abbrev doublings : ℕ → ℕ → ℕ
doublings zero n = 0
doublings (suc d) n = doublings d n + min 1 (suc (2 ^ d) - n)

doublings-bound : (d n : ℕ) → doublings d n ≤ d
doublings-bound zero n = omega arith
doublings-bound (suc d) n = omega (arith, doublings-bound d n)

doublings-falls : (d a b : ℕ) → a ≤ b → doublings d b ≤ doublings d a
doublings-falls zero a b small = omega arith
doublings-falls (suc d) a b small = omega (arith, small, doublings-falls d a b small)

doublings-drops : (d a n : ℕ) → 1 ≤ a → a + a ≤ n → n ≤ 2 ^ d → doublings d n + 1 ≤ doublings d a
doublings-drops zero a n some double small = absurd (omega (arith, some, double, small))
doublings-drops (suc d) a n some double small = ⊎_elim
    (λ above. omega (arith, double, small, above, doublings-falls d a n (omega (arith, double))))
    (λ below. omega (arith, double, below, doublings-drops d a n some double below))
    (cases_lt (2 ^ d) n)

abbrev cost : ℕ → ℕ → ℕ
cost d n = n * doublings d n

cost_one : (d : ℕ) → cost d 1 ≤ d
cost_one d = omega (arith, doublings-bound d 1)

cost_more : (d n : ℕ) → cost d (n + 1) ≤ cost d n + d
cost_more d n = omega (arith, add-mul n 1 (doublings d (n + 1)), doublings-bound d (n + 1), mul-le-mul_left n (doublings-falls d n (n + 1) (omega arith)))

cost_merged : (d a b : ℕ) → 1 ≤ a → a ≤ b → b + a ≤ 2 ^ d → a + cost d (b + a) ≤ cost d b + cost d a
cost_merged d a b some smaller small =
    let falls = doublings-falls d b (b + a) (omega arith) in
    let drops = doublings-drops d a (b + a) some (omega (arith, smaller)) small in
    omega (arith, add-mul b a (doublings d (b + a)), mul-le-mul_left b falls, mul-le-mul_left a drops)

some_member : (items : List ℕ) (i : ℕ) → IsMember items i → 1 ≤ length items
some_member [] i in_items = absurd in_items
some_member (m ∷ items) i in_items = omega arith

module _ {Gen K V : Type 0} where
  abbrev counted_in : Surjection Gen K V → ℕ
  counted_in s = total_weight (λ t. t.1) s.values.entries

  abbrev cost_of : ℕ → Surjection Gen K V → ℕ
  cost_of d s = total_weight (λ t. cost d t.1) s.values.entries

  -- A change inserts n keys. What it redirects is within what the cost falls by, plus d for each of
  -- these keys.
  record IsPaid (d : ℕ) (old new : Surjection Gen K V) (n : ℕ) : Type 0 where
    pub once : AreOnce new.values.entries
    pub counted : counted_in new ≡ n + counted_in old
    pub cost : new.redirected + cost_of d new ≤ old.redirected + cost_of d old + n * d

  module _ (d : ℕ) (following : Gen → Gen) (old new : Surjection Gen K V) (is : IsSurjection old) (once : AreOnce old.values.entries) where
    not_empty : (w : ℕ × Gen) (t : V) (n : ℕ) → HasValue old w t n → 1 ≤ n
    not_empty w t n has =
        let keys = is.counted w t n has in
        let key = is.onto w t n has in
        omega (arith, keys.2, some_member keys.0 key.0 ((keys.1.members key.0).1 key.1))

    absorbed_is_paid : (to from : ℕ × Gen) (t : V) (absorbs : IsAbsorbed old new following to from t) → absorbs.more ≤ absorbs.size → counted_in old ≤ 2 ^ d → IsPaid d old new 0
    absorbed_is_paid to from t absorbs smaller few =
        let sizes = weights (λ t. t.1) in
        let costs = weights (λ t. cost d t.1) in
        let within : absorbs.size + absorbs.more ≤ counted_in new = weight_within (λ t. t.1) to.0 new.values.entries (to.1, (absorbs.value, absorbs.size + absorbs.more)) united in
        let same : counted_in new ≡ 0 + counted_in old = omega (arith, sizes) in
        let paid = cost_merged d absorbs.more absorbs.size (not_empty from t absorbs.more absorbs.dropped) smaller (omega (arith, within, same, few)) in
        let least = min-le_left (old.redirected + absorbs.more) (2 ^ 128 - 1) in
        record {
          once = subst (λ s. AreOnce s.entries) (sym absorbs.values) (once-without from.0 written (once-written to.0 sum old.values.entries once));
          counted = same;
          cost = omega (arith, costs, paid, absorbs.redirected, least);
        }
      where
        sum : V × ℕ
        sum = (absorbs.value, absorbs.size + absorbs.more)

        written : List ((ℕ × Gen) × (V × ℕ))
        written = with_replacement to.0 (λ e. (e.0, sum)) old.values.entries

        apart : from.0 ≢ to.0
        apart same = absorbs.differ (same_name old to from absorbs.value t absorbs.size absorbs.more absorbs.valued absorbs.dropped (sym same))

        united : found to.0 new.values.entries ≡ Some (to.1, sum)
        united = ap (λ s. found to.0 s.entries) absorbs.values ∙ (found-kept to.0 from.0 written (λ same. apart (sym same)) ∙ (found-written to.0 sum old.values.entries ∙ ap (option_map (valued sum)) absorbs.valued))

        still : found from.0 written ≡ Some (from.1, (t, absorbs.more))
        still = found-unwritten from.0 to.0 sum old.values.entries apart ∙ absorbs.dropped

        weights : (weight : V × ℕ → ℕ) → weight (t, absorbs.more) + total_weight weight new.values.entries + weight (absorbs.value, absorbs.size) ≡ total_weight weight old.values.entries + weight sum
        weights weight =
            let at : total_weight weight new.values.entries ≡ total_weight weight (without_index from.0 written) = ap (λ s. total_weight weight s.entries) absorbs.values in
            omega (arith, at, weight-without weight from.0 written (from.1, (t, absorbs.more)) still, weight-written weight to.0 sum old.values.entries (to.1, (absorbs.value, absorbs.size)) absorbs.valued)

    set_is_paid : (p : ℕ × Gen) → Makes following old (starts_set p) new → IsPaid d old new 1
    set_is_paid p made =
        let sizes = weight-added (λ t. t.1) old.values new.values (made.1, 1) made.2.set once made.2.value in
        let costs = weight-added (λ t. cost d t.1) old.values new.values (made.1, 1) made.2.set once made.2.value in
        record { once = sizes.1; counted = sizes.0; cost = omega (arith, costs.0, cost_one d, made.2.redirected) }

    key_is_paid : (p q : ℕ × Gen) → Makes following old (adds_key p q) new → IsPaid d old new 1
    key_is_paid p q made = record {
      once = subst (λ s. AreOnce s.entries) (sym made.1.values) (once-written made.1.set.0 more old.values.entries once);
      counted = omega (arith, weights (λ t. t.1));
      cost = omega (arith, weights (λ t. cost d t.1), cost_more d made.1.size, made.1.redirected);
    }
      where
        more : V × ℕ
        more = (made.1.value, made.1.size + 1)

        weights : (weight : V × ℕ → ℕ) → total_weight weight new.values.entries + weight (made.1.value, made.1.size) ≡ total_weight weight old.values.entries + weight more
        weights weight =
            let at : total_weight weight new.values.entries ≡ total_weight weight (with_replacement made.1.set.0 (λ e. (e.0, more)) old.values.entries) = ap (λ s. total_weight weight s.entries) made.1.values in
            omega (arith, at, weight-written weight made.1.set.0 more old.values.entries (made.1.set.1, (made.1.value, made.1.size)) made.1.valued)

    union_is_paid : (p q : ℕ × Gen) → Makes following old (unites p q) new → counted_in old ≤ 2 ^ d → IsPaid d old new 0
    union_is_paid p q made few = ⊎_elim
        (λ first.
        let u = made.2 in
        let to = size_is u.v u.first_value first.1.value u.first_size first.1.size u.first_valued first.1.valued in
        let from = size_is u.w u.second_value made.0 u.second_size first.1.more u.second_valued first.1.dropped in
        absorbed_is_paid u.v u.w made.0 first.1 (omega (arith, first.0, to, from)) few)
        (λ second.
        let u = made.2 in
        let to = size_is u.w u.second_value second.1.value u.second_size second.1.size u.second_valued second.1.valued in
        let from = size_is u.v u.first_value made.0 u.first_size second.1.more u.first_valued second.1.dropped in
        absorbed_is_paid u.w u.v made.0 second.1 (omega (arith, second.0, to, from)) few)
        made.2.absorbed
      where
        size_is : (w : ℕ × Gen) (t r : V) (m n : ℕ) → HasValue old w t m → HasValue old w r n → m ≡ n
        size_is w t r m n has_m has_n = ap (λ (e : Gen × (V × ℕ)). e.1.1) (same_some (w.1, (t, m)) (w.1, (r, n)) (sym has_m ∙ has_n))

    growth_is_paid : Makes following old grows new → IsPaid d old new 0
    growth_is_paid made = record {
      once = subst (λ (s : Surjection Gen K V). AreOnce s.values.entries) (sym made.0) once;
      counted = let counted = ap counted_in made.0 in omega (arith, counted);
      cost = let redirected = ap (λ (s : Surjection Gen K V). s.redirected) made.0 in let costs = ap (cost_of d) made.0 in omega (arith, redirected, costs);
    }

  module _ (d : ℕ) (following : Gen → Gen) where
    paid_before : (old mid new : Surjection Gen K V) (n m both : ℕ) → both ≡ n + m → both + counted_in old ≤ 2 ^ d → IsPaid d old mid n
        → (AreOnce mid.values.entries → m + counted_in mid ≤ 2 ^ d → new.redirected ≤ mid.redirected + cost_of d mid + m * d) → new.redirected ≤ old.redirected + cost_of d old + both * d
    paid_before old mid new n m both sum few paid rest =
        let products : both * d ≡ n * d + m * d = ap (λ (k : ℕ). k * d) sum ∙ add-mul n m d in
        omega (arith, products, paid.cost, rest paid.once (omega (arith, few, sum, paid.counted)))

    history_is_paid : (changes : List (Change Gen)) (old new : Surjection Gen K V) → AreOnce old.values.entries → insertion_count changes + counted_in old ≤ 2 ^ d → History following old changes new
        → new.redirected ≤ old.redirected + cost_of d old + insertion_count changes * d
    history_is_paid [] old new once few same = let redirected = ap (λ (s : Surjection Gen K V). s.redirected) same in omega (arith, redirected)
    history_is_paid (starts_set p ∷ changes) old new once few history =
        paid_before old history.1 new 1 (insertion_count changes) (1 + insertion_count changes) refl few (set_is_paid d following old history.1 history.0 once p history.2) (λ still more. history_is_paid changes history.1 new still more history.3)
    history_is_paid (adds_key p q ∷ changes) old new once few history =
        paid_before old history.1 new 1 (insertion_count changes) (1 + insertion_count changes) refl few (key_is_paid d following old history.1 history.0 once p q history.2) (λ still more. history_is_paid changes history.1 new still more history.3)
    history_is_paid (unites p q ∷ changes) old new once few history =
        paid_before old history.1 new 0 (insertion_count changes) (insertion_count changes) (omega arith) few (union_is_paid d following old history.1 history.0 once p q history.2 (omega (arith, few))) (λ still more. history_is_paid changes history.1 new still more history.3)
    history_is_paid (grows ∷ changes) old new once few history =
        paid_before old history.1 new 0 (insertion_count changes) (insertion_count changes) (omega arith) few (growth_is_paid d following old history.1 history.0 once history.2) (λ still more. history_is_paid changes history.1 new still more history.3)

  no_values : (s : Surjection Gen K V) → IsSurjection s → s.keys.entries ≡ [] → s.values.entries ≡ []
  no_values s is empty = by s.values.entries refl
    where
      by : (es : List ((ℕ × Gen) × (V × ℕ))) → s.values.entries ≡ es → es ≡ []
      by [] same = refl
      by (e ∷ es) same =
          let key = is.onto e.0 e.1.0 e.1.1 (ap (found e.0.0) same ∙ at_first e e.0.0 es refl) in
          absurd (none_some e.0 (set_at s key.0) (ap (λ (keys : List ((ℕ × Gen) × (K × (ℕ × Gen)))). option_map (λ x. x.1.1) (found key.0 keys)) empty) key.1)

pub redirects_are_few : (Gen K V : Type 0) → RedirectsFew Gen K V
redirects_are_few Gen K V following old new [] d empty same few = let redirected = ap (λ (s : Surjection Gen K V). s.redirected) same in omega (arith, redirected)
redirects_are_few Gen K V following old new (change ∷ changes) d empty history few =
    let none = no_values old history.0 empty in
    let counted : counted_in old ≡ 0 = ap (total_weight (λ t. t.1)) none in
    let costs : cost_of d old ≡ 0 = ap (total_weight (λ t. cost d t.1)) none in
    omega (arith, costs, history_is_paid d following (change ∷ changes) old new (subst AreOnce (sym none) tt) (omega (arith, few, counted)) history)
