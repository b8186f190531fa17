use Rattle.std.proofs.Common.{◌≡◌, ℕ, ◌+◌, ◌*◌, ◌/◌, ◌%◌, ◌^◌, ◌≤◌, ◌<◌, List, [], ◌∷◌, ◌++◌, take, Bool, true, false, if◌then◌else◌, length, length-append, length-set, Option, None, Some, vec_len, vec_capacity, slice_set, slice_index_or, refl, sym, ap, ◌∙◌, subst, arith}
use Rattle.std.specs.Prelude.{slice_get}
use Rattle.std.specs.Coded.{le_prop}
use Rattle.std.specs.Option.{option_and_then}
use Rattle.std.specs.Vec.{with_item}
use Rattle.std.proofs.lemmas.Option.{slice_get_read, slice_get_past}
use Rattle.std.specs.declared.vec.Vec.{Vec}
use Rattle.std.specs.declared.alloc.Global.{Global}
use Rattle.arena_ptr.specs.Blocks.{items_in, AreFilled, AreFilled-prop}
use Rattle.arena_ptr.specs.BlockLaws.{filled_capacity, length-items_in, set_in}
use Rattle.arena_ptr.specs.ChunkStack.{with_item_in, with_item_at}
use Rattle.arena_ptr.specs.declared.chunk_stack.ChunkStack.{ChunkStack}
use Rattle.arena_ptr.proofs.BlockLemmas.{get_in, block_in, push_in, pop_in, more_in}

-- Writing in a block is writing at the position.
module _ {E : Type 0} (s : ChunkStack E) (i : ℕ) (e : E) where
  abbrev blocks_with : Vec E Global → Vec (Vec E Global) Global
  blocks_with block = with_item s.blocks (i / 64) (with_item block (i % 64) e)

  abbrev made : (block : Vec E Global) → AreFilled (blocks_with block).items s.len → 64 * length (blocks_with block).items + 1 < 2 ^ 64 → ChunkStack E
  made block filled fits = record { blocks = blocks_with block; len = s.len; filled = filled; fits = fits }

  same_made : (o : Option (Vec E Global)) (is : slice_get s.blocks.items (i / 64) ≡ o) (block : Vec E Global) → o ≡ Some block
      → (filled : AreFilled (blocks_with block).items s.len) (fits : 64 * length (blocks_with block).items + 1 < 2 ^ 64) → made block filled fits ≡ with_item_in s i e o is
  same_made None is block at = λ filled fits. absurd (let h = at in cc)
  same_made (Some b) is block at =
      let same : b ≡ block = cc in
      subst (λ (c : Vec E Global). (filled : AreFilled (blocks_with c).items s.len) (fits : 64 * length (blocks_with c).items + 1 < 2 ^ 64) → made c filled fits ≡ with_item_in s i e (Some b) is) same
      (λ filled fits j. made b (AreFilled-prop (blocks_with b).items s.len filled (with_item_in s i e (Some b) is).filled j) (le_prop fits (with_item_in s i e (Some b) is).fits j))

module _ {E : Type 0} (s : ChunkStack E) where
  pub below : (i : ℕ) → i < length (items_in s.blocks.items) → i < s.len
  below i inside = let long = length-items_in s.blocks.items s.len s.filled in omega (arith, inside, long)

  pub within : (i : ℕ) → i < s.len → i / 64 < vec_len s.blocks
  within i inside = let capacity_is = filled_capacity s.blocks.items s.len s.filled in omega (arith, inside, capacity_is, s.blocks.ok.0)

  pub past : (i : ℕ) → s.len ≤ i → slice_get (items_in s.blocks.items) i ≡ None
  past i beyond = slice_get_past (items_in s.blocks.items) i (let long = length-items_in s.blocks.items s.len s.filled in omega (arith, beyond, long))

  pub more_blocks : (block : Vec E Global) (done : Bool) (blocks : List (Vec E Global)) → blocks ≡ (if done then s.blocks.items ++ block ∷ [] else s.blocks.items) → block.items ≡ [] → 64 ≤ vec_capacity block
      → 64 * length s.blocks.items + 65 < 2 ^ 64 → AreFilled blocks s.len × (64 * length blocks + 1 < 2 ^ 64)
  more_blocks block true blocks is none capacity_is few = (
    subst (λ (bs : List (Vec E Global)). AreFilled bs s.len) (sym is) (more_in block s.blocks.items s.len none capacity_is s.filled).1,
    (let long = ap length is ∙ length-append s.blocks.items (block ∷ []) in omega (arith, long, few)),
  )
  more_blocks block false blocks is none capacity_is few = (
    subst (λ (bs : List (Vec E Global)). AreFilled bs s.len) (sym is) s.filled,
    subst (λ (bs : List (Vec E Global)). 64 * length bs + 1 < 2 ^ 64) (sym is) s.fits,
  )

  module _ (i : ℕ) (block : Vec E Global) (located : i / 64 < vec_len s.blocks) (is : block ≡ slice_index_or s.blocks.items (i / 64) block) where
    pub found : slice_get s.blocks.items (i / 64) ≡ Some block
    found = slice_get_read s.blocks.items s.blocks.len (i / 64) block s.blocks.ok.0 located is

    pub inside_block : i < s.len → i % 64 < vec_len block
    inside_block inside = let has = block_in s.blocks.items s.len (i / 64) block s.filled found in omega (arith, inside, has.0, block.ok.0)

    pub has_capacity : i ≡ s.len → vec_len block < vec_capacity block
    has_capacity at = let has = block_in s.blocks.items s.len (i / 64) block s.filled found in omega (arith, at, has.0, has.1, block.ok.0)

    pub item_at : (e : E) → i % 64 < vec_len block → e ≡ slice_index_or block.items (i % 64) e → Some e ≡ slice_get (items_in s.blocks.items) i
    item_at e inside item =
        let at : 64 * (i / 64) + i % 64 ≡ i = omega arith in
        sym (ap (slice_get (items_in s.blocks.items)) (sym at) ∙ (get_in s.blocks.items s.len (i / 64) (i % 64) (omega arith) s.filled
        ∙ (ap (option_and_then (λ (b : Vec E Global). slice_get b.items (i % 64))) found ∙ slice_get_read block.items block.len (i % 64) e block.ok.0 inside item)))

    module _ (other : Vec E Global) where
      pub still_fits : 64 * length (slice_set s.blocks.items (i / 64) other) + 1 < 2 ^ 64
      still_fits = subst (λ (k : ℕ). 64 * k + 1 < 2 ^ 64) (sym (length-set s.blocks.items (i / 64) other)) s.fits

      pub written_filled : (e : E) → other.items ≡ slice_set block.items (i % 64) e → vec_capacity other ≡ vec_capacity block → AreFilled (slice_set s.blocks.items (i / 64) other) s.len
      written_filled e made capacity_is = (set_in other e s.blocks.items s.len (i / 64) (i % 64) block (omega arith) s.filled found made capacity_is).1

      pub pushed : (e : E) → i ≡ s.len → other.items ≡ block.items ++ e ∷ [] → vec_capacity other ≡ vec_capacity block
          → (items_in (slice_set s.blocks.items (i / 64) other) ≡ items_in s.blocks.items ++ e ∷ []) × AreFilled (slice_set s.blocks.items (i / 64) other) (s.len + 1)
      pushed e at made capacity_is = push_in other e s.blocks.items s.len (i / 64) (i % 64) block (omega arith) (omega (arith, at)) s.filled found made capacity_is

      pub popped : i + 1 ≡ s.len → other.items ≡ take (i % 64) block.items → vec_capacity other ≡ vec_capacity block
          → (items_in (slice_set s.blocks.items (i / 64) other) ≡ take i (items_in s.blocks.items)) × AreFilled (slice_set s.blocks.items (i / 64) other) i
      popped at made capacity_is = pop_in other s.blocks.items i (i / 64) (i % 64) block (omega arith) (omega arith) (subst (AreFilled s.blocks.items) (sym at) s.filled) found made capacity_is

    pub same_written : (e : E) (filled : AreFilled (blocks_with s i e block).items s.len) (fits : 64 * length (blocks_with s i e block).items + 1 < 2 ^ 64) → made s i e block filled fits ≡ with_item_at s i e
    same_written e filled fits = same_made s i e (slice_get s.blocks.items (i / 64)) refl block found filled fits
