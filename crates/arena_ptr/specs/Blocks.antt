use Rattle.std.specs.Prelude.{◌≡◌, ℕ, ◌+◌, ◌-◌, ◌*◌, ◌/◌, ◌≤◌, List, [], ◌∷◌, length, slice_set, slice_index_or, vec_capacity, min, Result, OnOk, OnErr}
use Rattle.std.specs.Coded.{le_prop, ×_prop, Coded-set, coded_ℕ}
use Rattle.std.specs.List.{flat_map}
use Rattle.std.specs.declared.vec.Vec.{Vec}
use Rattle.std.specs.declared.alloc.Global.{Global}

module _ {E : Type 0} where
  abbrev pub items_in : List (Vec E Global) → List E
  items_in blocks = flat_map (λ block. block.items) blocks

  -- `n` items fill blocks, each with capacity for 64, in order.
  abbrev pub AreFilled : List (Vec E Global) → ℕ → Type 0
  AreFilled [] n = n ≡ 0
  AreFilled (block ∷ blocks) n = (length block.items ≡ min n 64) × ((64 ≤ vec_capacity block) × AreFilled blocks (n - 64))

  pub AreFilled-prop : (blocks : List (Vec E Global)) (n : ℕ) → IsProp (AreFilled blocks n)
  AreFilled-prop [] n = Coded-set coded_ℕ n 0
  AreFilled-prop (block ∷ blocks) n =
      let full : IsProp (length block.items ≡ min n 64) = Coded-set coded_ℕ (length block.items) (min n 64) in
      let capacity_is : IsProp (64 ≤ vec_capacity block) = le_prop in
      let rest : IsProp (AreFilled blocks (n - 64)) = AreFilled-prop blocks (n - 64) in
      ×_prop full (×_prop capacity_is rest)

  -- Item i of one list is swapped with item j of another.
  abbrev pub SwapsBetween : (left : Vec E Global) → ℕ → (right : Vec E Global) → ℕ → (left_after right_after : Vec E Global) → Type 0
  SwapsBetween left i right j left_after right_after = record {
    one : (d : E) → left_after.items ≡ slice_set left.items i (slice_index_or right.items j d);
    other : (d : E) → right_after.items ≡ slice_set right.items j (slice_index_or left.items i d);
    one_capacity : vec_capacity left_after ≡ vec_capacity left;
    other_capacity : vec_capacity right_after ≡ vec_capacity right;
  }

  -- Empty blocks are added until there are `count`, or none on error.
  abbrev pub AddsBlocks : {A Error : Type 0} → Result A Error → (old : List (Vec E Global)) → ℕ → (new : List (Vec E Global)) → Type 0
  AddsBlocks returned old count new = record {
    items : items_in new ≡ items_in old;
    ok : OnOk returned (length new ≡ count);
    err : OnErr returned (length new ≡ length old);
  }

  abbrev pub AreBlocksWith : List (Vec E Global) → List E → ℕ → Type 0
  AreBlocksWith blocks all count = record {
    items : items_in blocks ≡ all;
    blocks : length blocks ≡ count;
  }

  -- The new items are these, in as many blocks.
  abbrev pub ChangesItemsIn : (old : List (Vec E Global)) → List E → (new : List (Vec E Global)) → Type 0
  ChangesItemsIn old all new = AreBlocksWith new all (length old)

-- The slots of the blocks that `n` items need.
abbrev pub slots_for : ℕ → ℕ
slots_for n = 64 * ((n + 63) / 64)
