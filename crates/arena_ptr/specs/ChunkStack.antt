use Rattle.std.specs.Prelude.{◌≡◌, ℕ, zero, suc, List, [], ◌∷◌, ◌+◌, ◌*◌, ◌/◌, ◌%◌, ◌^◌, ◌≤◌, ◌<◌, Option, Some, None, length, slice_get, slice_set}
use Rattle.std.specs.Vec.{with_item}
use Rattle.std.specs.declared.vec.Vec.{Vec}
use Rattle.std.specs.declared.alloc.Global.{Global}
use Rattle.std.proofs.Common.{refl, sym, ap, ◌∙◌, subst, length-set, arith}
use Rattle.std.proofs.lemmas.List.{set_past}
use Rattle.arena_ptr.specs.Blocks.{items_in}
use Rattle.arena_ptr.specs.BlockLaws.{set_in, length-items_in, filled_capacity, blocks_have_capacity}
use Rattle.arena_ptr.specs.declared.chunk_stack.ChunkStack.{ChunkStack}

module _ {E : Type 0} where
  abbrev pub with_item_in : (s : ChunkStack E) (i : ℕ) (e : E) (found : Option (Vec E Global)) → slice_get s.blocks.items (i / 64) ≡ found → ChunkStack E
  with_item_in s i e None is = s
  with_item_in s i e (Some block) is = record {
    blocks = with_item s.blocks (i / 64) (with_item block (i % 64) e);
    len = s.len;
    filled = (set_in (with_item block (i % 64) e) e s.blocks.items s.len (i / 64) (i % 64) block (omega arith) s.filled is refl refl).1;
    fits = subst (λ (k : ℕ). 64 * k + 1 < 2 ^ 64) (sym (length-set s.blocks.items (i / 64) (with_item block (i % 64) e))) s.fits;
  }

  abbrev pub with_item_at : ChunkStack E → ℕ → E → ChunkStack E
  with_item_at s i e = with_item_in s i e (slice_get s.blocks.items (i / 64)) refl

  pub items_written_at : (s : ChunkStack E) (i : ℕ) (e : E) → items_in (with_item_at s i e).blocks.items ≡ slice_set (items_in s.blocks.items) i e
  items_written_at s i e = by (slice_get s.blocks.items (i / 64)) refl
    where
      at : 64 * (i / 64) + i % 64 ≡ i
      at = omega arith

      by : (found : Option (Vec E Global)) (is : slice_get s.blocks.items (i / 64) ≡ found) → items_in (with_item_in s i e found is).blocks.items ≡ slice_set (items_in s.blocks.items) i e
      by None is = sym (set_past (items_in s.blocks.items) i e (let long = length-items_in s.blocks.items s.len s.filled in let capacity_is = filled_capacity s.blocks.items s.len s.filled in let past = beyond s.blocks.items (i / 64) is in omega (arith, long, capacity_is, past)))
        where
          beyond : (blocks : List (Vec E Global)) (q : ℕ) → slice_get blocks q ≡ None → length blocks ≤ q
          beyond [] q none = omega arith
          beyond (b ∷ blocks) zero none = cc
          beyond (b ∷ blocks) (suc q) none = let past = beyond blocks q none in omega (arith, past)
      by (Some block) is =
          (set_in (with_item block (i % 64) e) e s.blocks.items s.len (i / 64) (i % 64) block (omega arith) s.filled is refl refl).0
          ∙ ap (λ (k : ℕ). slice_set (items_in s.blocks.items) k e) at

  pub blocks_written_at : (s : ChunkStack E) (i : ℕ) (e : E) → 64 * length (with_item_at s i e).blocks.items ≡ 64 * length s.blocks.items
  blocks_written_at s i e = ap (λ (k : ℕ). 64 * k) (by (slice_get s.blocks.items (i / 64)) refl)
    where
      by : (found : Option (Vec E Global)) (is : slice_get s.blocks.items (i / 64) ≡ found) → length (with_item_in s i e found is).blocks.items ≡ length s.blocks.items
      by None is = refl
      by (Some block) is = length-set s.blocks.items (i / 64) (with_item block (i % 64) e)

  pub has_capacity_in : (s : ChunkStack E) → length (items_in s.blocks.items) ≤ 64 * length s.blocks.items
  has_capacity_in s = blocks_have_capacity s.blocks.items s.len s.filled
