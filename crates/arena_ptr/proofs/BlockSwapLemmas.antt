-- Swaps in a stack of blocks.
use Rattle.std.proofs.Common.{◌≡◌, ◌≢◌, ℕ, ◌+◌, ◌*◌, ◌^◌, ◌/◌, ◌%◌, ◌<◌, List, [], ◌∷◌, length, length-set, Option, None, Some, vec_capacity, slice_set, slice_index_or, swap, refl, sym, ap, ap₂, ◌∙◌, subst, arith}
use Rattle.std.specs.Prelude.{slice_get}
use Rattle.std.specs.Vec.{with_item}
use Rattle.std.proofs.lemmas.List.{set-set, set_comm, get_or-set_other, get_or-set_same}
use Rattle.std.proofs.lemmas.List.Edits.{swap_is}
use Rattle.std.proofs.lemmas.Option.{slice_get-get_or, get_or_from_slice_get}
use Rattle.std.specs.declared.vec.Vec.{Vec}
use Rattle.std.specs.declared.alloc.Global.{Global}
use Rattle.arena_ptr.specs.Blocks.{items_in, AreFilled}
use Rattle.arena_ptr.specs.BlockLaws.{set_in, length-items_in}
use Rattle.arena_ptr.specs.declared.chunk_stack.ChunkStack.{ChunkStack}
use Rattle.arena_ptr.proofs.BlockLemmas.{get_in}
use Rattle.arena_ptr.proofs.ChunkStackLemmas.{within, found, inside_block}

some_item : {X : Type 0} (xs : List X) (n : ℕ) → n < length xs → X
some_item [] n inside = absurd (omega (arith, inside))
some_item (x ∷ xs) n inside = x

get-set_same : {X : Type 0} (xs : List X) (i : ℕ) (x : X) → i < length xs → slice_get (slice_set xs i x) i ≡ Some x
get-set_same xs i x inside = slice_get-get_or (slice_set xs i x) i x (omega (arith, inside, length-set xs i x)) ∙ ap Some (get_or-set_same xs i x x inside)

get-set_other : {X : Type 0} (xs : List X) (i j : ℕ) (x y : X) → j ≢ i → slice_get xs j ≡ Some y → j < length xs → slice_get (slice_set xs i x) j ≡ Some y
get-set_other xs i j x y apart is inside =
    slice_get-get_or (slice_set xs i x) j y (omega (arith, inside, length-set xs i x))
    ∙ ap Some (get_or-set_other xs i j x y apart ∙ get_or_from_slice_get xs j y y is)

module _ {E : Type 0} (blocks : List (Vec E Global)) (n i j : ℕ) (filled : AreFilled blocks n) (i_inside : i < n) (j_inside : j < n) where
  long : length (items_in blocks) ≡ n
  long = length-items_in blocks n filled

  finds : (k : ℕ) (block : Vec E Global) (d : E) → slice_get blocks (k / 64) ≡ Some block → k % 64 < length block.items → slice_index_or (items_in blocks) k d ≡ slice_index_or block.items (k % 64) d
  finds k block d found inside =
      let at : 64 * (k / 64) + k % 64 ≡ k = omega arith in
      get_or_from_slice_get (items_in blocks) k (slice_index_or block.items (k % 64) d) d
      (ap (slice_get (items_in blocks)) (sym at) ∙ (get_in blocks n (k / 64) (k % 64) (omega arith) filled
      ∙ (ap (λ (o : Option (Vec E Global)). by o) found ∙ slice_get-get_or block.items (k % 64) d inside)))
    where
      by : Option (Vec E Global) → Option E
      by None = None
      by (Some b) = slice_get b.items (k % 64)

  exchanged : (x y d : E) → slice_index_or (items_in blocks) i d ≡ x → slice_index_or (items_in blocks) j d ≡ y → slice_set (slice_set (items_in blocks) i y) j x ≡ swap (items_in blocks) i j
  exchanged x y d first second =
      ap₂ (λ (u v : E). slice_set (slice_set (items_in blocks) i u) j v) (sym second) (sym first)
      ∙ swap_is (items_in blocks) i j d (omega (arith, i_inside, long)) (omega (arith, j_inside, long))

  module _ (block other : Vec E Global) (same : i / 64 ≡ j / 64) (found : slice_get blocks (i / 64) ≡ Some block) (located : i / 64 < length blocks)
      (i_in : i % 64 < length block.items) (j_in : j % 64 < length block.items) (made : other.items ≡ swap block.items (i % 64) (j % 64)) (enough : vec_capacity other ≡ vec_capacity block) where
    pub exchanged_in : (items_in (slice_set blocks (i / 64) other) ≡ swap (items_in blocks) i j) × AreFilled (slice_set blocks (i / 64) other) n
    exchanged_in =
        let d = some_item block.items (i % 64) i_in in
        let x = slice_index_or block.items (i % 64) d in
        let y = slice_index_or block.items (j % 64) d in
        let mid = with_item block (i % 64) y in
        let first = set_in mid y blocks n (i / 64) (i % 64) block (omega arith) filled found refl refl in
        let second = set_in other x (slice_set blocks (i / 64) mid) n (i / 64) (j % 64) mid (omega arith) first.1 (get-set_same blocks (i / 64) mid located)
        (made ∙ sym (swap_is block.items (i % 64) (j % 64) d i_in j_in)) enough in
        let one : slice_set (slice_set blocks (i / 64) mid) (i / 64) other ≡ slice_set blocks (i / 64) other = set-set blocks (i / 64) mid other in
        let i_place : 64 * (i / 64) + i % 64 ≡ i = omega arith in
        let j_place : 64 * (i / 64) + j % 64 ≡ j = omega (arith, same) in (
          ap items_in (sym one) ∙ (second.0 ∙ (ap₂ (λ (xs : List E) (k : ℕ). slice_set xs k x) (first.0 ∙ ap (λ (k : ℕ). slice_set (items_in blocks) k y) i_place) j_place
              ∙ exchanged x y d (finds i block d found i_in) (finds j block d (ap (slice_get blocks) (sym same) ∙ found) j_in))),
          subst (λ (bs : List (Vec E Global)). AreFilled bs n) one second.1,
        )

  -- A swap between two blocks, the first taken out meanwhile.
  module _ (left right empty one other : Vec E Global) (apart : i / 64 ≢ j / 64) (left_found : slice_get blocks (i / 64) ≡ Some left) (right_found : slice_get blocks (j / 64) ≡ Some right)
      (i_located : i / 64 < length blocks) (i_in : i % 64 < length left.items) (j_in : j % 64 < length right.items)
      (one_made : (d : E) → one.items ≡ slice_set left.items (i % 64) (slice_index_or right.items (j % 64) d)) (one_capacity : vec_capacity one ≡ vec_capacity left)
      (other_made : (d : E) → other.items ≡ slice_set right.items (j % 64) (slice_index_or left.items (i % 64) d)) (other_capacity : vec_capacity other ≡ vec_capacity right) where
    abbrev after : List (Vec E Global)
    after = slice_set (slice_set (slice_set blocks (i / 64) empty) (j / 64) other) (i / 64) one

    pub exchanged_across : (items_in after ≡ swap (items_in blocks) i j) × AreFilled after n
    exchanged_across =
        let d = some_item left.items (i % 64) i_in in
        let x = slice_index_or left.items (i % 64) d in
        let y = slice_index_or right.items (j % 64) d in
        let first = set_in other x blocks n (j / 64) (j % 64) right (omega arith) filled right_found (other_made d) other_capacity in
        let second = set_in one y (slice_set blocks (j / 64) other) n (i / 64) (i % 64) left (omega arith) first.1
        (get-set_other blocks (j / 64) (i / 64) other left apart left_found i_located) (one_made d) one_capacity in
        let both : after ≡ slice_set (slice_set blocks (j / 64) other) (i / 64) one =
        ap (λ (bs : List (Vec E Global)). slice_set bs (i / 64) one) (set_comm blocks (i / 64) (j / 64) empty other apart) ∙ set-set (slice_set blocks (j / 64) other) (i / 64) empty one in
        let i_place : 64 * (i / 64) + i % 64 ≡ i = omega arith in
        let j_place : 64 * (j / 64) + j % 64 ≡ j = omega arith in (
          ap items_in both ∙ (second.0 ∙ (ap₂ (λ (xs : List E) (k : ℕ). slice_set xs k y) (first.0 ∙ ap (λ (k : ℕ). slice_set (items_in blocks) k x) j_place) i_place
              ∙ (set_comm (items_in blocks) j i x y (λ e. apart (ap (λ (k : ℕ). k / 64) (sym e)))
              ∙ exchanged x y d (finds i left d left_found i_in) (finds j right d right_found j_in)))),
          subst (λ (bs : List (Vec E Global)). AreFilled bs n) (sym both) second.1,
        )

module _ {E : Type 0} (s : ChunkStack E) (i j : ℕ) (i_inside : i < s.len) (j_inside : j < s.len) (apart : i / 64 ≢ j / 64) (left right empty : Vec E Global)
    (left_is : left ≡ slice_index_or s.blocks.items (i / 64) left) (right_is : right ≡ slice_index_or (slice_set s.blocks.items (i / 64) empty) (j / 64) right) where
  right_at : right ≡ slice_index_or s.blocks.items (j / 64) right
  right_at = right_is ∙ get_or-set_other s.blocks.items (i / 64) (j / 64) empty right (λ e. apart (sym e))

  pub left_inside : i % 64 < length left.items
  left_inside = let inside = inside_block s i left (within s i i_inside) left_is i_inside in omega (arith, inside, left.ok.0)

  pub right_inside : j % 64 < length right.items
  right_inside = let inside = inside_block s j right (within s j j_inside) right_at j_inside in omega (arith, inside, right.ok.0)

  module _ (one other : Vec E Global) (one_made : (d : E) → one.items ≡ slice_set left.items (i % 64) (slice_index_or right.items (j % 64) d)) (one_capacity : vec_capacity one ≡ vec_capacity left)
      (other_made : (d : E) → other.items ≡ slice_set right.items (j % 64) (slice_index_or left.items (i % 64) d)) (other_capacity : vec_capacity other ≡ vec_capacity right) where
    abbrev both_put : List (Vec E Global)
    both_put = slice_set (slice_set (slice_set s.blocks.items (i / 64) empty) (j / 64) other) (i / 64) one

    pub put_across : (items_in both_put ≡ swap (items_in s.blocks.items) i j) × AreFilled both_put s.len
    put_across = exchanged_across s.blocks.items s.len i j s.filled i_inside j_inside left right empty one other apart
        (found s i left (within s i i_inside) left_is) (found s j right (within s j j_inside) right_at) (let located = within s i i_inside in omega (arith, located, s.blocks.ok.0))
        left_inside right_inside one_made one_capacity other_made other_capacity

    pub put_fits : 64 * length both_put + 1 < 2 ^ 64
    put_fits = subst (λ (k : ℕ). 64 * k + 1 < 2 ^ 64)
        (sym (length-set (slice_set (slice_set s.blocks.items (i / 64) empty) (j / 64) other) (i / 64) one ∙ (length-set (slice_set s.blocks.items (i / 64) empty) (j / 64) other ∙ length-set s.blocks.items (i / 64) empty))) s.fits
