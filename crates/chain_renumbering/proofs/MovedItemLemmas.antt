-- Items under their new pointers, by the items that make up a list.
use Rattle.std.proofs.Common.{◌≡◌, ℕ, List, [], ◌∷◌, ◌++◌, map, Option, Some, refl, sym, ap, ap₂, ◌∙◌}
use Rattle.chain_lists.specs.Lists.{Item}
use Rattle.chain_renumbering.specs.Renumbering.{Moves, AreItemsMoved}

module _ {Gen T : Type 0} (move : Moves Gen) where
  pub none_moved : (after : List (Item Gen T)) → AreItemsMoved move [] after → after ≡ []
  none_moved [] moved = refl
  none_moved (f ∷ after) moved = absurd (cc)

  pub head_moved : (e f : Item Gen T) (items after : List (Item Gen T)) → AreItemsMoved move (e ∷ items) (f ∷ after) → (move e.0 ≡ Some f.0) × (e.1 ≡ f.1)
  head_moved e f items after moved =
      let first : ◌≡◌ {A = Option (ℕ × Gen) × T} (move e.0, e.1) (Some f.0, f.1) = cc in
      (ap (λ (x : Option (ℕ × Gen) × T). x.0) first, ap (λ (x : Option (ℕ × Gen) × T). x.1) first)

  pub tail_moved : (e f : Item Gen T) (items after : List (Item Gen T)) → AreItemsMoved move (e ∷ items) (f ∷ after) → AreItemsMoved move items after
  tail_moved e f items after moved = cc

  pub cons_moved : (e f : Item Gen T) (items after : List (Item Gen T)) → move e.0 ≡ Some f.0 → e.1 ≡ f.1 → AreItemsMoved move items after → AreItemsMoved move (e ∷ items) (f ∷ after)
  cons_moved e f items after pointer value rest = ap₂ (λ (x : Option (ℕ × Gen) × T) (xs : List (Option (ℕ × Gen) × T)). x ∷ xs) (ap₂ (λ (p : Option (ℕ × Gen)) (t : T). (p, t)) pointer value) rest

  pub moved_cons : (e : Item Gen T) (items after : List (Item Gen T)) → AreItemsMoved move (e ∷ items) after
      → (f : Item Gen T) × (rest : List (Item Gen T)) × (after ≡ f ∷ rest) × (move e.0 ≡ Some f.0) × (e.1 ≡ f.1) × AreItemsMoved move items rest
  moved_cons e items [] moved = absurd (cc)
  moved_cons e items (f ∷ after) moved = let first = head_moved e f items after moved in (f, after, refl, first.0, first.1, tail_moved e f items after moved)

  pub moved_append : (xs ys after : List (Item Gen T)) → AreItemsMoved move (xs ++ ys) after
      → (before : List (Item Gen T)) × (rest : List (Item Gen T)) × (after ≡ before ++ rest) × AreItemsMoved move xs before × AreItemsMoved move ys rest
  moved_append [] ys after moved = ([], after, refl, refl, moved)
  moved_append (e ∷ xs) ys after moved =
      let first = moved_cons e (xs ++ ys) after moved in
      let both = moved_append xs ys first.1 first.5 in
      (first.0 ∷ both.0, both.1, first.2 ∙ ap (λ (zs : List (Item Gen T)). first.0 ∷ zs) both.2, cons_moved e first.0 xs both.0 first.3 first.4 both.3, both.4)

  pub append_moved : (xs ys before rest : List (Item Gen T)) → AreItemsMoved move xs before → AreItemsMoved move ys rest → AreItemsMoved move (xs ++ ys) (before ++ rest)
  append_moved [] ys [] rest one two = two
  append_moved [] ys (f ∷ before) rest one two = absurd (cc)
  append_moved (e ∷ xs) ys [] rest one two = absurd (cc)
  append_moved (e ∷ xs) ys (f ∷ before) rest one two =
      let first = head_moved e f xs before one in
      cons_moved e f (xs ++ ys) (before ++ rest) first.0 first.1 (append_moved xs ys before rest (tail_moved e f xs before one) two)

  pub moved_once : (items one two : List (Item Gen T)) → AreItemsMoved move items one → AreItemsMoved move items two → one ≡ two
  moved_once [] one two first second = none_moved one first ∙ sym (none_moved two second)
  moved_once (e ∷ items) one two first second =
      let a = moved_cons e items one first in
      let b = moved_cons e items two second in
      let pointers : a.0.0 ≡ b.0.0 = let both = sym a.3 ∙ b.3 in cc in
      let values : a.0.1 ≡ b.0.1 = sym a.4 ∙ b.4 in
      a.2 ∙ (ap₂ (λ (x : Item Gen T) (xs : List (Item Gen T)). x ∷ xs) (ap₂ (λ (p : ℕ × Gen) (t : T). (p, t)) pointers values) (moved_once items a.1 b.1 a.5 b.5) ∙ sym b.2)

pub moved_map : {Gen T U : Type 0} (move : Moves Gen) (f : T → U) (items : List (Item Gen T)) (after : List (Item Gen U)) → AreItemsMoved move (map {B = Item Gen U} (λ e. (e.0, f e.1)) items) after
    → (rest : List (Item Gen T)) × (after ≡ map {B = Item Gen U} (λ e. (e.0, f e.1)) rest) × AreItemsMoved move items rest
moved_map move f [] after moved = ([], none_moved move after moved, refl)
moved_map {Gen} {T} {U} move f (e ∷ items) after moved =
    let first = moved_cons move (e.0, f e.1) (map {B = Item Gen U} (λ e. (e.0, f e.1)) items) after moved in
    let rest = moved_map move f items first.1 first.5 in
    let whole : first.0 ≡ (first.0.0, f e.1) = ap (λ (u : U). let x : Item Gen U = (first.0.0, u) in x) (sym first.4) in (
      (first.0.0, e.1) ∷ rest.0,
      first.2 ∙ ap₂ (λ (x : Item Gen U) (xs : List (Item Gen U)). x ∷ xs) whole rest.1,
      cons_moved move e (first.0.0, e.1) items rest.0 first.3 refl rest.2,
    )
