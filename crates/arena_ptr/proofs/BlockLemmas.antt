-- Reads and writes in blocks.
use Rattle.std.proofs.Common.{◌≡◌, ℕ, zero, suc, ◌+◌, ◌-◌, ◌*◌, ◌≤◌, ◌<◌, ◌⊎◌, inl, inr, min, List, [], ◌∷◌, ◌++◌, length, length-append, length-take, take, Some, vec_capacity, slice_set, refl, sym, ap, ◌∙◌, subst, append_assoc, append-nil, arith}
use Rattle.std.specs.Prelude.{slice_get}
use Rattle.std.specs.Option.{option_and_then}
use Rattle.std.proofs.lemmas.Bool.{cases_lt}
use Rattle.std.proofs.lemmas.Option.{slice_get_past}
use Rattle.std.specs.declared.vec.Vec.{Vec}
use Rattle.std.specs.declared.alloc.Global.{Global}
use Rattle.arena_ptr.specs.Blocks.{items_in, AreFilled}
use Rattle.arena_ptr.specs.BlockLaws.{slice_get-left, slice_get-right, none_at_all, take_over, length-items_in}

module _ {E : Type 0} where
  pub get_in : (blocks : List (Vec E Global)) (n q r : ℕ) → r < 64 → AreFilled blocks n
      → slice_get (items_in blocks) (64 * q + r) ≡ option_and_then (λ (block : Vec E Global). slice_get block.items r) (slice_get blocks q)
  get_in [] n q r small filled = refl
  get_in (block ∷ blocks) n zero r small filled =
      let at : 64 * 0 + r ≡ r = omega arith in
      ap (slice_get (block.items ++ items_in blocks)) at ∙ by (cases_lt r (length block.items))
    where
      rest : length (items_in blocks) ≡ n - 64
      rest = length-items_in blocks (n - 64) filled.1.1

      by : (r < length block.items) ⊎ (length block.items ≤ r) → slice_get (block.items ++ items_in blocks) r ≡ slice_get block.items r
      by (inl inside) = slice_get-left block.items (items_in blocks) r inside
      by (inr past) =
          let whole = length-append block.items (items_in blocks) in
          slice_get_past (block.items ++ items_in blocks) r (omega (arith, past, whole, rest, filled.0, small)) ∙ sym (slice_get_past block.items r past)
  get_in (block ∷ blocks) n (suc q) r small filled = by (cases_lt n 64) (get_in blocks (n - 64) q r small filled.1.1)
    where
      rest : length (items_in blocks) ≡ n - 64
      rest = length-items_in blocks (n - 64) filled.1.1

      by : (n < 64) ⊎ (64 ≤ n) → slice_get (items_in blocks) (64 * q + r) ≡ option_and_then (λ (block : Vec E Global). slice_get block.items r) (slice_get blocks q)
          → slice_get (block.items ++ items_in blocks) (64 * suc q + r) ≡ option_and_then (λ (block : Vec E Global). slice_get block.items r) (slice_get blocks q)
      by (inl few) behind =
          let whole = length-append block.items (items_in blocks) in
          slice_get_past (block.items ++ items_in blocks) (64 * suc q + r) (omega (arith, whole, rest, filled.0, few))
          ∙ (sym (slice_get_past (items_in blocks) (64 * q + r) (omega (arith, rest, few))) ∙ behind)
      by (inr many) behind = slice_get-right block.items (items_in blocks) (64 * suc q + r) (64 * q + r) (omega (arith, filled.0, many)) ∙ behind

  module _ (other : Vec E Global) (e : E) where
    pub push_in : (blocks : List (Vec E Global)) (n q r : ℕ) (block : Vec E Global) → r < 64 → n ≡ 64 * q + r → AreFilled blocks n → slice_get blocks q ≡ Some block
        → other.items ≡ block.items ++ e ∷ [] → vec_capacity other ≡ vec_capacity block
        → (items_in (slice_set blocks q other) ≡ items_in blocks ++ e ∷ []) × AreFilled (slice_set blocks q other) (n + 1)
    push_in [] n q r block small at filled is made fits = cc
    push_in (b ∷ blocks) n zero r block small at filled is made fits = (
      ap (λ (xs : List E). xs ++ items_in blocks) items ∙ (ap (λ (xs : List E). (b.items ++ e ∷ []) ++ xs) none ∙ (append-nil (b.items ++ e ∷ []) ∙ sym (ap (λ (xs : List E). (b.items ++ xs) ++ e ∷ []) none ∙ ap (λ (xs : List E). xs ++ e ∷ []) (append-nil b.items)))),
      (
        ap length items ∙ (length-append b.items (e ∷ []) ∙ omega (arith, filled.0, at, small)),
        (
          subst (λ (k : ℕ). 64 ≤ k) (sym (fits ∙ ap vec_capacity same)) filled.1.0,
          subst (AreFilled blocks) (let left : n - 64 ≡ (n + 1) - 64 = omega (arith, at, small) in left) filled.1.1,
        ),
      ),
    )
      where
        same : block ≡ b
        same = cc

        items : other.items ≡ b.items ++ e ∷ []
        items = made ∙ ap (λ (c : Vec E Global). c.items ++ e ∷ []) same

        none : items_in blocks ≡ []
        none = none_at_all (items_in blocks) (let rest = length-items_in blocks (n - 64) filled.1.1 in omega (arith, rest, at, small))
    push_in (b ∷ blocks) n (suc q) r block small at filled is made fits =
        let behind = push_in blocks (n - 64) q r block small (omega (arith, at)) filled.1.1 is made fits in (
          ap (λ (xs : List E). b.items ++ xs) behind.0 ∙ sym (append_assoc b.items (items_in blocks) (e ∷ [])),
          (filled.0 ∙ omega (arith, at), (filled.1.0, subst (AreFilled (slice_set blocks q other)) (let left : (n - 64) + 1 ≡ (n + 1) - 64 = omega (arith, at) in left) behind.1)),
        )

  pub pop_in : (other : Vec E Global) (blocks : List (Vec E Global)) (n q r : ℕ) (block : Vec E Global) → r < 64 → n ≡ 64 * q + r → AreFilled blocks (n + 1) → slice_get blocks q ≡ Some block
      → other.items ≡ take r block.items → vec_capacity other ≡ vec_capacity block
      → (items_in (slice_set blocks q other) ≡ take n (items_in blocks)) × AreFilled (slice_set blocks q other) n
  pop_in other [] n q r block small at filled is made fits = cc
  pop_in other (b ∷ blocks) n zero r block small at filled is made fits = (
    ap (λ (xs : List E). xs ++ items_in blocks) items ∙ (ap (λ (xs : List E). take r b.items ++ xs) none ∙ (append-nil (take r b.items)
        ∙ (ap (λ (k : ℕ). take k b.items) (let same : r ≡ n = omega (arith, at) in same) ∙ sym (ap (λ (xs : List E). take n (b.items ++ xs)) none ∙ ap (take n) (append-nil b.items))))),
    (
      ap length items ∙ (length-take r b.items ∙ omega (arith, filled.0, at, small)),
      (
        subst (λ (k : ℕ). 64 ≤ k) (sym (fits ∙ ap vec_capacity same)) filled.1.0,
        subst (AreFilled blocks) (let left : (n + 1) - 64 ≡ n - 64 = omega (arith, at, small) in left) filled.1.1,
      ),
    ),
  )
    where
      same : block ≡ b
      same = cc

      items : other.items ≡ take r b.items
      items = made ∙ ap (λ (c : Vec E Global). take r c.items) same

      none : items_in blocks ≡ []
      none = none_at_all (items_in blocks) (let rest = length-items_in blocks ((n + 1) - 64) filled.1.1 in omega (arith, rest, at, small))
  pop_in other (b ∷ blocks) n (suc q) r block small at filled is made fits =
      let left : (n + 1) - 64 ≡ (n - 64) + 1 = omega (arith, at) in
      let behind = pop_in other blocks (n - 64) q r block small (omega (arith, at)) (subst (AreFilled blocks) left filled.1.1) is made fits in
      let long : length b.items ≡ 64 = omega (arith, filled.0, at) in (
        ap (λ (xs : List E). b.items ++ xs) behind.0 ∙ sym (take_over b.items (items_in blocks) n (n - 64) (omega (arith, long, at))),
        (filled.0 ∙ omega (arith, at), (filled.1.0, behind.1)),
      )

  pub block_in : (blocks : List (Vec E Global)) (n q : ℕ) (block : Vec E Global) → AreFilled blocks n → slice_get blocks q ≡ Some block
      → (length block.items ≡ min (n - 64 * q) 64) × (64 ≤ vec_capacity block)
  block_in [] n q block filled is = cc
  block_in (b ∷ blocks) n zero block filled is =
      let same : block ≡ b = cc in (
        ap (λ (c : Vec E Global). length c.items) same ∙ (filled.0 ∙ omega arith),
        subst (λ (k : ℕ). 64 ≤ k) (sym (ap vec_capacity same)) filled.1.0,
      )
  block_in (b ∷ blocks) n (suc q) block filled is =
      let behind = block_in blocks (n - 64) q block filled.1.1 is in (behind.0 ∙ omega arith, behind.1)

  pub more_in : (other : Vec E Global) (blocks : List (Vec E Global)) (n : ℕ) → other.items ≡ [] → 64 ≤ vec_capacity other → AreFilled blocks n
      → (items_in (blocks ++ other ∷ []) ≡ items_in blocks) × AreFilled (blocks ++ other ∷ []) n
  more_in other [] n none fits filled = (
    ap (λ (xs : List E). xs ++ []) none,
    (ap length none ∙ omega (arith, filled), (fits, omega (arith, filled))),
  )
  more_in other (b ∷ blocks) n none fits filled =
      let behind = more_in other blocks (n - 64) none fits filled.1.1 in
      (ap (λ (xs : List E). b.items ++ xs) behind.0, (filled.0, (filled.1.0, behind.1)))

  pub fewer_in : (blocks : List (Vec E Global)) (n k : ℕ) → n ≤ 64 * k → AreFilled blocks n → (items_in (take k blocks) ≡ items_in blocks) × AreFilled (take k blocks) n
  fewer_in [] n zero enough filled = (refl, filled)
  fewer_in [] n (suc k) enough filled = (refl, filled)
  fewer_in (b ∷ blocks) n zero enough filled =
      let long = length-items_in (b ∷ blocks) n filled in
      (sym (none_at_all (items_in (b ∷ blocks)) (omega (arith, long, enough))), omega (arith, enough))
  fewer_in (b ∷ blocks) n (suc k) enough filled =
      let behind = fewer_in blocks (n - 64) k (omega (arith, enough)) filled.1.1 in
      (ap (λ (xs : List E). b.items ++ xs) behind.0, (filled.0, (filled.1.0, behind.1)))
