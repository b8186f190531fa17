use Rattle.std.proofs.Common.{◌≡◌, ℕ, zero, suc, ◌+◌, ◌-◌, ◌*◌, ◌≤◌, ◌<◌, ◌⊎◌, inl, inr, List, [], ◌∷◌, ◌++◌, length, length-append, length-set, take, Some, vec_capacity, slice_set, refl, sym, ap, ◌∙◌, subst, arith}
use Rattle.std.specs.Prelude.{slice_get}
use Rattle.std.proofs.lemmas.Bool.{cases_lt}
use Rattle.std.proofs.lemmas.List.{set_past, set-append_right}
use Rattle.std.specs.declared.vec.Vec.{Vec}
use Rattle.std.specs.declared.alloc.Global.{Global}
use Rattle.arena_ptr.specs.Blocks.{items_in, AreFilled}

module _ {X : Type 0} where
  pub slice_get-left : (xs ys : List X) (i : ℕ) → i < length xs → slice_get (xs ++ ys) i ≡ slice_get xs i
  slice_get-left [] ys i inside = absurd (omega (arith, inside))
  slice_get-left (x ∷ xs) ys zero inside = refl
  slice_get-left (x ∷ xs) ys (suc i) inside = slice_get-left xs ys i (omega (arith, inside))

  pub slice_get-right : (xs ys : List X) (i k : ℕ) → i ≡ length xs + k → slice_get (xs ++ ys) i ≡ slice_get ys k
  slice_get-right [] ys i k at = let same : i ≡ k = omega (arith, at) in ap (slice_get ys) same
  slice_get-right (x ∷ xs) ys zero k at = absurd (omega (arith, at))
  slice_get-right (x ∷ xs) ys (suc i) k at = slice_get-right xs ys i k (omega (arith, at))

  pub slice_set-left : (xs ys : List X) (i : ℕ) (e : X) → i < length xs → slice_set (xs ++ ys) i e ≡ slice_set xs i e ++ ys
  slice_set-left [] ys i e inside = absurd (omega (arith, inside))
  slice_set-left (x ∷ xs) ys zero e inside = refl
  slice_set-left (x ∷ xs) ys (suc i) e inside = ap (λ (zs : List X). x ∷ zs) (slice_set-left xs ys i e (omega (arith, inside)))

  pub take_over : (xs ys : List X) (n k : ℕ) → n ≡ length xs + k → take n (xs ++ ys) ≡ xs ++ take k ys
  take_over [] ys n k at = let same : n ≡ k = omega (arith, at) in ap (λ (m : ℕ). take m ys) same
  take_over (x ∷ xs) ys zero k at = absurd (omega (arith, at))
  take_over (x ∷ xs) ys (suc n) k at = ap (λ (zs : List X). x ∷ zs) (take_over xs ys n k (omega (arith, at)))

  pub none_at_all : (xs : List X) → length xs ≡ 0 → xs ≡ []
  none_at_all [] none = refl
  none_at_all (x ∷ xs) none = absurd (omega (arith, none))

module _ {E : Type 0} where
  pub length-items_in : (blocks : List (Vec E Global)) (n : ℕ) → AreFilled blocks n → length (items_in blocks) ≡ n
  length-items_in [] n filled = sym filled
  length-items_in (block ∷ blocks) n filled =
      length-append block.items (items_in blocks) ∙ (let rest = length-items_in blocks (n - 64) filled.1.1 in omega (arith, rest, filled.0))

  pub filled_capacity : (blocks : List (Vec E Global)) (n : ℕ) → AreFilled blocks n → n ≤ 64 * length blocks
  filled_capacity [] n filled = omega (arith, filled)
  filled_capacity (block ∷ blocks) n filled = let rest = filled_capacity blocks (n - 64) filled.1.1 in omega (arith, rest)

  module _ (other : Vec E Global) (e : E) where
    -- Replacing item `r` of block `q` replaces item `64 * q + r`.
    pub set_in : (blocks : List (Vec E Global)) (n q r : ℕ) (block : Vec E Global) → r < 64 → AreFilled blocks n → slice_get blocks q ≡ Some block
        → other.items ≡ slice_set block.items r e → vec_capacity other ≡ vec_capacity block
        → (items_in (slice_set blocks q other) ≡ slice_set (items_in blocks) (64 * q + r) e) × AreFilled (slice_set blocks q other) n
    set_in [] n q r block small filled is made fits = cc
    set_in (b ∷ blocks) n zero r block small filled is made fits = (
      ap (λ (xs : List E). xs ++ items_in blocks) items ∙ (by (cases_lt r (length b.items)) ∙ ap (λ (k : ℕ). slice_set (b.items ++ items_in blocks) k e) at),
      (ap length items ∙ (length-set b.items r e ∙ filled.0), (subst (λ (k : ℕ). 64 ≤ k) (sym (fits ∙ ap vec_capacity same)) filled.1.0, filled.1.1)),
    )
      where
        same : block ≡ b
        same = cc

        items : other.items ≡ slice_set b.items r e
        items = made ∙ ap (λ (c : Vec E Global). slice_set c.items r e) same

        at : r ≡ 64 * 0 + r
        at = omega arith

        rest : length (items_in blocks) ≡ n - 64
        rest = length-items_in blocks (n - 64) filled.1.1

        by : (r < length b.items) ⊎ (length b.items ≤ r) → slice_set b.items r e ++ items_in blocks ≡ slice_set (b.items ++ items_in blocks) r e
        by (inl inside) = sym (slice_set-left b.items (items_in blocks) r e inside)
        by (inr past) =
            let whole = length-append b.items (items_in blocks) in
            ap (λ (xs : List E). xs ++ items_in blocks) (set_past b.items r e past) ∙ sym (set_past (b.items ++ items_in blocks) r e (omega (arith, past, whole, rest, filled.0, small)))
    set_in (b ∷ blocks) n (suc q) r block small filled is made fits =
        let behind = set_in blocks (n - 64) q r block small filled.1.1 is made fits in
        (ap (λ (xs : List E). b.items ++ xs) behind.0 ∙ by (cases_lt n 64), (filled.0, (filled.1.0, behind.1)))
      where
        rest : length (items_in blocks) ≡ n - 64
        rest = length-items_in blocks (n - 64) filled.1.1

        by : (n < 64) ⊎ (64 ≤ n) → b.items ++ slice_set (items_in blocks) (64 * q + r) e ≡ slice_set (b.items ++ items_in blocks) (64 * suc q + r) e
        by (inl few) =
            let whole = length-append b.items (items_in blocks) in
            ap (λ (xs : List E). b.items ++ xs) (set_past (items_in blocks) (64 * q + r) e (omega (arith, rest, few)))
            ∙ sym (set_past (b.items ++ items_in blocks) (64 * suc q + r) e (omega (arith, whole, rest, filled.0, few)))
        by (inr many) =
            let at : (64 * suc q + r) - 64 ≡ 64 * q + r = omega arith in
            sym (set-append_right b.items (items_in blocks) 64 (64 * suc q + r) e (omega (arith, filled.0, many)) (omega arith) ∙ ap (λ (k : ℕ). b.items ++ slice_set (items_in blocks) k e) at)

  pub blocks_have_capacity : (blocks : List (Vec E Global)) (n : ℕ) → AreFilled blocks n → length (items_in blocks) ≤ 64 * length blocks
  blocks_have_capacity blocks n filled = let long = length-items_in blocks n filled in let fits = filled_capacity blocks n filled in omega (arith, long, fits)
