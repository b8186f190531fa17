-- Boxes of blocks, and lists of corners.
use Rattle.std.proofs.Common.{◌≡◌, ℕ, ◌+◌, ◌-◌, ◌/◌, ◌≤◌, ◌<◌, ⊎_elim, List, [], ◌∷◌, ◌++◌, length, take, drop, get_or, map, Option, Some, sym, ap, ◌∙◌, subst, arith, length-drop}
use Rattle.std.specs.Prelude.{All, slice_get, slice_range}
use Rattle.std.specs.Option.{option_map}
use Rattle.std.proofs.lemmas.Bool.{cases_order}
use Rattle.std.proofs.lemmas.List.{take_all, length-map, length-take, get_or-take, get_or-drop}
use Rattle.std.proofs.lemmas.Option.{slice_get_within, get_or_from_slice_get, slice_get-map}
use Rattle.arena_ptr.specs.BlockLaws.{slice_get-left, slice_get-right}
use Rattle.chain_laws.proofs.InterlinkLemmas.Inverses.{one_some}
use Rattle.arena_traits.specs.Arena.{IsInserted}
use Rattle.arena_traits.specs.Entries.{ArenaView, ArenaState, found}
use Rattle.triangulation.specs.declared.points.Point.{Point}
use Rattle.triangulation.specs.declared.points.Triangle.{Triangle}
use Rattle.triangulation.specs.declared.bounds.BoundingBox.{BoundingBox}
use Rattle.triangulation.specs.Triangulations.{IsInTriangle}
use Rattle.triangulation.specs.CornerIndexes.{IsInBox, AreBlocksOf, AreGroupsOf, AreListed, IsIndexOf, IsClearAt}

pub block_below : (n len k : ℕ) → n < len → len / 32 + 1 ≤ k → n / 32 < k
block_below n len k within all = omega (arith, within, all)

all_at : {X : Type 0} (P : X → Type 0) (xs : List X) (first end n : ℕ) (x : X) → All P (slice_range xs first end) → first ≤ n → n < end → slice_get xs n ≡ Some x → P x
all_at P xs first end n x all from below is =
    let within = slice_get_within xs n x is in
    let same : get_or (slice_range xs first end) (n - first) x ≡ x =
    get_or-take (end - first) (drop first xs) (n - first) x (omega (arith, from, below)) ∙ (get_or-drop first xs (n - first) x ∙ (ap (λ (k : ℕ). get_or xs k x) (whole first n from) ∙ get_or_from_slice_get xs n x x is)) in
    subst P same (all (n - first) x (omega (arith, from, below, within, length-take (end - first) (drop first xs), length-drop first xs)))
  where
    whole : (a b : ℕ) → a ≤ b → a + (b - a) ≡ b
    whole a b less = omega (arith, less)

module _ {X : Type 0} (Has : BoundingBox → X → Type 0) (items : List X) where
  -- The items of so many blocks have boxes.
  abbrev pub AreBoxesBelow : List BoundingBox → ℕ → Type 0
  AreBoxesBelow boxes k = (n : ℕ) (x : X) → slice_get items n ≡ Some x → n / 32 < k → (box : BoundingBox) × (slice_get boxes (n / 32) ≡ Some box) × Has box x

  pub boxes_more : (boxes more : List BoundingBox) (box : BoundingBox) (k first end : ℕ) → AreBoxesBelow boxes k → length boxes ≡ k → more ≡ boxes ++ box ∷ [] → All (Has box) (slice_range items first end)
      → ((n : ℕ) → n < length items → n / 32 ≡ k → (first ≤ n) × (n < end)) → AreBoxesBelow more (k + 1)
  boxes_more boxes more box k first end below number pushed all range = λ n x is less.
      ⊎_elim (λ same. at_end n x is same) (λ other. ⊎_elim (λ before. at_start n x is before) (λ after. absurd (omega (arith, less, after))) other) (cases_order (n / 32) k)
    where
      at_end : (n : ℕ) (x : X) → slice_get items n ≡ Some x → n / 32 ≡ k → (b : BoundingBox) × (slice_get more (n / 32) ≡ Some b) × Has b x
      at_end n x is same =
          let within = range n (slice_get_within items n x is) same in
          (box, ap (λ (l : List BoundingBox). slice_get l (n / 32)) pushed ∙ slice_get-right boxes (box ∷ []) (n / 32) 0 (omega (arith, same, number)), all_at (Has box) items first end n x all within.0 within.1 is)

      at_start : (n : ℕ) (x : X) → slice_get items n ≡ Some x → n / 32 < k → (b : BoundingBox) × (slice_get more (n / 32) ≡ Some b) × Has b x
      at_start n x is before =
          let old = below n x is before in
          (old.0, ap (λ (l : List BoundingBox). slice_get l (n / 32)) pushed ∙ (slice_get-left boxes (box ∷ []) (n / 32) (omega (arith, before, number)) ∙ old.1), old.2)

pub index_kept : {Gen : Type 0} (old new : ℕ → Option (Gen × Point)) (pointers : List (ℕ × Gen)) (corners : List Point) (blocks groups : List BoundingBox) → ((i : ℕ) (e : Gen × Point) → new i ≡ Some e → old i ≡ Some e)
    → IsIndexOf old pointers corners blocks groups → IsIndexOf new pointers corners blocks groups
index_kept old new pointers corners blocks groups kept index = record {
  listed = λ p point is. index.listed p point (kept p.0 (p.1, point) is);
  blocks_of = index.blocks_of;
  groups_of = index.groups_of;
}

pub listed_none : {Gen : Type 0} (view : ArenaView Gen Point) (entry : ℕ → Option (Gen × Point)) → ArenaState view entry → view.entries ≡ [] → AreListed entry [] []
listed_none view entry state none = λ p point is.
    let empty : found p.0 [] ≡ Some (p.1, point) = ap (λ l. found p.0 l) (sym none) ∙ (state.finds p.0 ∙ is) in
    absurd (cc)

pub listed_more : {Gen : Type 0} (old new : ℕ → Option (Gen × Point)) (pointers : List (ℕ × Gen)) (corners : List Point) (q : ℕ × Gen) (x : Point) → AreListed old pointers corners → length pointers ≡ length corners → IsInserted old new q x
    → AreListed new (pointers ++ q ∷ []) (corners ++ x ∷ [])
listed_more {Gen} old new pointers corners q x listed number inserted = λ p point is.
    ⊎_elim (λ same. at_end p point is same) (λ other. ⊎_elim (λ below. before p point is (λ e. omega (arith, e, below))) (λ above. before p point is (λ e. omega (arith, e, above))) other) (cases_order p.0 q.0)
  where
    at_end : (p : ℕ × Gen) (point : Point) → new p.0 ≡ Some (p.1, point) → p.0 ≡ q.0 → (n : ℕ) × (slice_get (pointers ++ q ∷ []) n ≡ Some p) × (slice_get (corners ++ x ∷ []) n ≡ Some point)
    at_end p point is same =
        let stored : q.1 ≡ p.1 = ap (λ (e : Gen × Point). e.0) (one_some (sym inserted.stored ∙ (ap new (sym same) ∙ is))) in
        let value : x ≡ point = ap (λ (e : Gen × Point). e.1) (one_some (sym inserted.stored ∙ (ap new (sym same) ∙ is))) in
        let key : Path (ℕ × Gen) q p = ap (λ (i : ℕ). the_key i q.1) (sym same) ∙ ap (λ (g : Gen). the_key p.0 g) stored in
        (length pointers, slice_get-right pointers (q ∷ []) (length pointers) 0 (omega arith) ∙ ap (λ (k : ℕ × Gen). Some k) key, slice_get-right corners (x ∷ []) (length pointers) 0 (omega (arith, number)) ∙ ap (λ (v : Point). Some v) value)
      where
        the_key : ℕ → Gen → ℕ × Gen
        the_key i g = (i, g)

    before : (p : ℕ × Gen) (point : Point) → new p.0 ≡ Some (p.1, point) → (p.0 ≡ q.0 → ⊥) → (n : ℕ) × (slice_get (pointers ++ q ∷ []) n ≡ Some p) × (slice_get (corners ++ x ∷ []) n ≡ Some point)
    before p point is other =
        let at = listed p point (sym (inserted.rest p.0 other) ∙ is) in
        (at.0, slice_get-left pointers (q ∷ []) at.0 (slice_get_within pointers at.0 p at.1) ∙ at.1, slice_get-left corners (x ∷ []) at.0 (slice_get_within corners at.0 point at.2) ∙ at.2)

pub first_and_rest : {X : Type 0} (xs : List X) (d : X) → 0 < length xs → get_or xs 0 d ∷ take (length xs - 1) (drop 1 xs) ≡ xs
first_and_rest [] d some = absurd (omega (arith, some))
first_and_rest (x ∷ xs) d some = ap (λ l. x ∷ l) (take_all (length (x ∷ xs) - 1) xs (omega arith))

pub clear_here : {P Gen : Type 0} (key : P → ℕ × Gen) (entry : ℕ → Option (Gen × Point)) (pointers : List P) (corners : List Point) (t : Triangle) (i : ℕ) (q : P) (x : Point) → slice_get pointers i ≡ Some q → slice_get corners i ≡ Some x
    → (entry (key q).0 ≡ Some ((key q).1, x) → IsInTriangle t x → ⊥) → IsClearAt entry (map key pointers) corners t i
clear_here {P} {Gen} key entry pointers corners t i q x at_q at_x clear = λ p point at_p at_point stored inside.
    let same : p ≡ key q = one_some (sym at_p ∙ (slice_get-map key pointers i ∙ ap (option_map key) at_q)) in
    let value : point ≡ x = one_some (sym at_point ∙ at_x) in
    clear (subst (λ (v : Point). entry (key q).0 ≡ Some ((key q).1, v)) value (subst (λ (k : ℕ × Gen). entry k.0 ≡ Some (k.1, point)) same stored)) (subst (λ (v : Point). IsInTriangle t v) value inside)

module _ {Gen : Type 0} (entry : ℕ → Option (Gen × Point)) (pointers : List (ℕ × Gen)) (corners : List Point) (t : Triangle) (blocks : List BoundingBox) (are_blocks : AreBlocksOf corners blocks) where
  pub block_clear : (n k : ℕ) (d : BoundingBox) → n / 32 ≡ k → ((p : Point) → IsInBox (get_or blocks k d) p → IsInTriangle t p → ⊥) → IsClearAt entry pointers corners t n
  block_clear n k d same never = λ p point at_p at_point stored inside.
      let at = are_blocks n point at_point in
      let is : get_or blocks k d ≡ at.0 = get_or_from_slice_get blocks k at.0 d (subst (λ (j : ℕ). slice_get blocks j ≡ Some at.0) same at.1) in
      never point (subst (λ (box : BoundingBox). IsInBox box point) (sym is) at.2) inside

  pub block_within : (n : ℕ) → (n / 32 < length blocks → IsClearAt entry pointers corners t n) → IsClearAt entry pointers corners t n
  block_within n clear = λ p point at_p at_point stored inside.
      let at = are_blocks n point at_point in
      clear (slice_get_within blocks (n / 32) at.0 at.1) p point at_p at_point stored inside

  module _ (groups : List BoundingBox) (are_groups : AreGroupsOf blocks groups) where
    pub group_clear : (n k : ℕ) (d : BoundingBox) → n / 32 / 32 ≡ k → ((p : Point) → IsInBox (get_or groups k d) p → IsInTriangle t p → ⊥) → IsClearAt entry pointers corners t n
    group_clear n k d same never = λ p point at_p at_point stored inside.
        let block = are_blocks n point at_point in
        let at = are_groups (n / 32) block.0 block.1 in
        let is : get_or groups k d ≡ at.0 = get_or_from_slice_get groups k at.0 d (subst (λ (j : ℕ). slice_get groups j ≡ Some at.0) same at.1) in
        never point (subst (λ (box : BoundingBox). IsInBox box point) (sym is) (at.2 point block.2)) inside

    pub group_within : (n : ℕ) → (n / 32 / 32 < length groups → IsClearAt entry pointers corners t n) → IsClearAt entry pointers corners t n
    group_within n clear = λ p point at_p at_point stored inside.
        let block = are_blocks n point at_point in
        let at = are_groups (n / 32) block.0 block.1 in
        clear (slice_get_within groups (n / 32 / 32) at.0 at.1) p point at_p at_point stored inside

pub listed_within : {P Gen : Type 0} (key : P → ℕ × Gen) (entry : ℕ → Option (Gen × Point)) (pointers : List P) (corners : List Point) (t : Triangle) (n : ℕ) → (n < length pointers → n < length corners → IsClearAt entry (map key pointers) corners t n) → IsClearAt entry (map key pointers) corners t n
listed_within key entry pointers corners t n clear = λ p point at_p at_point stored inside.
    clear (omega (arith, slice_get_within (map key pointers) n p at_p, length-map pointers key)) (slice_get_within corners n point at_point) p point at_p at_point stored inside
