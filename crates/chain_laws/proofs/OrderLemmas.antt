-- Links moved to follow one another in a given order.
use Rattle.std.specs.Prelude.{◌≡◌, ◌≢◌, ◌↔◌, ℕ, ◌⊎◌, List, [], ◌∷◌, ◌++◌, Some}
use Rattle.std.proofs.Common.{sym, refl, ap, ◌∙◌, subst, inl, inr, ⊎_elim, append-nil}
use Rattle.std.proofs.lemmas.Bool.{cases_eq}
use Rattle.std.proofs.lemmas.List.{append_assoc}
use Rattle.chain_laws.specs.Chains.{LinkMap, Chain, linear, cyclic, items, IsChain, HasLink, IsWellLinked, IsMember, AreDistinct, next_in, next_of}
use Rattle.chain_laws.specs.Removals.{list_without}
use Rattle.chain_laws.specs.MoveAfter.{with_move_after, MovesAfter}
use Rattle.chain_laws.specs.Orders.{with_followers, AreApart, list_without_all, OrderAgrees, OrderPutsInOrder, OwnOrderStays}
use Rattle.chain_laws.proofs.ListLemmas.Members.{IsMember-parts, IsMember-left, IsMember-right, IsMember-written, IsMember-or_not, AreDistinct-left, AreDistinct-right, AreDistinct-apart}
use Rattle.chain_laws.proofs.ChainLemmas.LinkedLists.{next_valid, prev_valid}
use Rattle.chain_laws.proofs.ChainLemmas.MemberLaws.{places_in_a_line, places_in_a_ring}
use Rattle.chain_laws.proofs.ChainLemmas.Rotations.{rotated}
use Rattle.chain_laws.proofs.ChainLemmas.Uniqueness.{chain_once}
use Rattle.chain_laws.proofs.MoveAfterLemmas.{move_agrees, move_moves, moved_same}
use Rattle.chain_laws.proofs.RemovalLemmas.Determinacy.{list_without-same, list_without-other, list_without-none, list_without-middle}

list_without-has : (xs : List ℕ) (y i : ℕ) → IsMember (list_without xs y) i → IsMember xs i × (i ≢ y)
list_without-has [] y i h = elim h [ ]
list_without-has (x ∷ xs) y i h = by (cases_eq x y) h (list_without-has xs y i)
  where
    by : (x ≡ y) ⊎ (x ≢ y) → IsMember (list_without (x ∷ xs) y) i → (IsMember (list_without xs y) i → IsMember xs i × (i ≢ y)) → IsMember (x ∷ xs) i × (i ≢ y)
    by (inl e) k has = let l = has (subst (λ (zs : List ℕ). IsMember zs i) (list_without-same x xs y e) k) in (inr l.0, l.1)
    by (inr ne) k has = kept (subst (λ (zs : List ℕ). IsMember zs i) (list_without-other x xs y ne) k)
      where
        kept : IsMember (x ∷ list_without xs y) i → IsMember (x ∷ xs) i × (i ≢ y)
        kept (inl e) = (inl e, λ f. ne (e ∙ f))
        kept (inr l) = let m = has l in (inr m.0, m.1)

list_without-append : (xs zs : List ℕ) (y : ℕ) → list_without (xs ++ zs) y ≡ list_without xs y ++ list_without zs y
list_without-append [] zs y = refl
list_without-append (x ∷ xs) zs y = by (cases_eq x y) (list_without-append xs zs y)
  where
    by : (x ≡ y) ⊎ (x ≢ y) → list_without (xs ++ zs) y ≡ list_without xs y ++ list_without zs y → list_without (x ∷ xs ++ zs) y ≡ list_without (x ∷ xs) y ++ list_without zs y
    by (inl e) rest = list_without-same x (xs ++ zs) y e ∙ rest ∙ ap (λ (l : List ℕ). l ++ list_without zs y) (sym (list_without-same x xs y e))
    by (inr ne) rest =
        list_without-other x (xs ++ zs) y ne ∙ ap (λ (l : List ℕ). x ∷ l) rest ∙ ap (λ (l : List ℕ). l ++ list_without zs y) (sym (list_without-other x xs y ne))

list_without_all-append : (xs zs ys : List ℕ) → list_without_all (xs ++ zs) ys ≡ list_without_all xs ys ++ list_without_all zs ys
list_without_all-append xs zs [] = refl
list_without_all-append xs zs (y ∷ ys) = ap (λ (l : List ℕ). list_without_all l ys) (list_without-append xs zs y) ∙ list_without_all-append (list_without xs y) (list_without zs y) ys

list_without_all-empty : (ys : List ℕ) → list_without_all [] ys ≡ []
list_without_all-empty [] = refl
list_without_all-empty (y ∷ ys) = list_without_all-empty ys

list_without_all-one : (x : ℕ) (ys : List ℕ) → (IsMember ys x → ⊥) → list_without_all (x ∷ []) ys ≡ x ∷ []
list_without_all-one x [] none = refl
list_without_all-one x (y ∷ ys) none =
    ap (λ (l : List ℕ). list_without_all l ys) (list_without-none (x ∷ []) y (⊎_elim (λ e. none (inl (sym e))) (λ h. h))) ∙ list_without_all-one x ys (λ h. none (inr h))

list_without_all-none : (xs ys : List ℕ) → ((i : ℕ) → IsMember xs i → IsMember ys i) → list_without_all xs ys ≡ []
list_without_all-none [] [] all = refl
list_without_all-none (x ∷ xs) [] all = absurd (all x (inl refl))
list_without_all-none xs (y ∷ ys) all = list_without_all-none (list_without xs y) ys (λ i h. others i (list_without-has xs y i h))
  where
    others : (i : ℕ) → IsMember xs i × (i ≢ y) → IsMember ys i
    others i h = ⊎_elim (λ e. absurd (h.1 (sym e))) (λ k. k) (all i h.0)

module _ (old new : LinkMap) (x y : ℕ) (moves : MovesAfter old new y x) where
  not_beside : (a b : List ℕ) → (IsMember a y → ⊥) → (IsMember b y → ⊥) → y ≢ x → IsMember (a ++ x ∷ b) y → ⊥
  not_beside a b no_left no_right apart h = ⊎_elim no_left (⊎_elim (λ e. apart (sym e)) no_right) (IsMember-parts a (x ∷ b) y h)

  module _ (l r : List ℕ) (apart : y ≢ x) (once : AreDistinct (l ++ x ∷ r)) where
    abbrev Moved : (List ℕ → Chain) → Type 0
    Moved kind = IsChain new (kind (list_without l y ++ x ∷ y ∷ list_without r y))

    as_lists : (kind : List ℕ → Chain) (a b : List ℕ) → list_without l y ≡ a → list_without r y ≡ b → IsChain new (kind (a ++ x ∷ y ∷ b)) → Moved kind
    as_lists kind a b left right chain =
        subst (λ (zs : List ℕ). IsChain new (kind (zs ++ x ∷ y ∷ list_without r y))) (sym left) (subst (λ (zs : List ℕ). IsChain new (kind (a ++ x ∷ y ∷ zs))) (sym right) chain)

    once_left : AreDistinct l
    once_left = AreDistinct-left l (x ∷ r) once

    once_right : AreDistinct r
    once_right = (AreDistinct-right l (x ∷ r) once).1

    not_right : IsMember l y → IsMember r y → ⊥
    not_right h k = AreDistinct-apart l (x ∷ r) y once h (inr k)

    at_left : (a b : List ℕ) → l ≡ a ++ y ∷ b → list_without l y ≡ a ++ b
    at_left a b e = ap (λ (zs : List ℕ). list_without zs y) e ∙ list_without-middle a b y (subst AreDistinct e once_left)

    at_right : (a b : List ℕ) → r ≡ a ++ y ∷ b → list_without r y ≡ a ++ b
    at_right a b e = ap (λ (zs : List ℕ). list_without zs y) e ∙ list_without-middle a b y (subst AreDistinct e once_right)

    module _ (kind : List ℕ → Chain)
        (left : (a b : List ℕ) → l ≡ a ++ y ∷ b → IsChain old (kind (l ++ x ∷ r)) → IsChain new (kind (a ++ b ++ x ∷ y ∷ r)))
        (right : (a b : List ℕ) → r ≡ a ++ y ∷ b → IsChain old (kind (l ++ x ∷ r)) → IsChain new (kind (l ++ x ∷ y ∷ (a ++ b))))
        (neither : (IsMember (l ++ x ∷ r) y → ⊥) → IsChain old (kind (l ++ x ∷ r)) → IsChain new (kind (l ++ x ∷ y ∷ r))) where
      moved_one : IsChain old (kind (l ++ x ∷ r)) → Moved kind
      moved_one chain = by (IsMember-or_not l y) (IsMember-or_not r y)
        where
          in_left : IsMember l y → (a : List ℕ) × (b : List ℕ) × (l ≡ a ++ y ∷ b) → Moved kind
          in_left h w = as_lists kind (w.0 ++ w.1) r (at_left w.0 w.1 w.2) (list_without-none r y (not_right h)) (left w.0 w.1 w.2 chain)

          in_right : (IsMember l y → ⊥) → (a : List ℕ) × (b : List ℕ) × (r ≡ a ++ y ∷ b) → Moved kind
          in_right none w = as_lists kind l (w.0 ++ w.1) (list_without-none l y none) (at_right w.0 w.1 w.2) (right w.0 w.1 w.2 chain)

          by : IsMember l y ⊎ (IsMember l y → ⊥) → IsMember r y ⊎ (IsMember r y → ⊥) → Moved kind
          by (inl h) _ = in_left h (IsMember-written l y h)
          by (inr none) (inl k) = in_right none (IsMember-written r y k)
          by (inr none) (inr no_right) =
              as_lists kind l r (list_without-none l y none) (list_without-none r y no_right) (neither (not_beside l r none no_right apart) chain)

    moved_in_linear : IsChain old (linear (l ++ x ∷ r)) → Moved (λ zs. linear zs)
    moved_in_linear =
        moved_one (λ zs. linear zs)
        (λ a b e chain. moves.onward a b r (subst (λ (zs : List ℕ). IsChain old (linear (zs ++ x ∷ r))) e chain))
        (λ a b e chain. subst (λ (zs : List ℕ). IsChain new (linear zs)) (append_assoc l (x ∷ y ∷ a) b) (moves.backward l a b
        (subst (λ (zs : List ℕ). IsChain old (linear zs)) (sym (append_assoc l (x ∷ a) (y ∷ b))) (subst (λ (zs : List ℕ). IsChain old (linear (l ++ x ∷ zs))) e chain))))
        (λ none chain. moves.to_linear l r chain none)

    moved_in_cyclic : IsChain old (cyclic (l ++ x ∷ r)) → Moved (λ zs. cyclic zs)
    moved_in_cyclic = moved_one (λ zs. cyclic zs) from_left from_right (λ none chain. moves.to_cyclic l r chain none)
      where
        from_left : (a b : List ℕ) → l ≡ a ++ y ∷ b → IsChain old (cyclic (l ++ x ∷ r)) → IsChain new (cyclic (a ++ b ++ x ∷ y ∷ r))
        from_left a b e chain =
            let at_y = rotated old a (y ∷ b ++ x ∷ r) (subst (λ (zs : List ℕ). IsChain old (cyclic zs)) (ap (λ (zs : List ℕ). zs ++ x ∷ r) e ∙ append_assoc a (y ∷ b) (x ∷ r)) chain) in
            let after = moves.around b (r ++ a) (subst (λ (zs : List ℕ). IsChain old (cyclic zs)) (append_assoc (y ∷ b) (x ∷ r) a) at_y) in
            subst (λ (zs : List ℕ). IsChain new (cyclic zs)) (sym (append_assoc a b (x ∷ y ∷ r)))
            (rotated new (b ++ x ∷ y ∷ r) a (subst (λ (zs : List ℕ). IsChain new (cyclic zs)) (sym (append_assoc b (x ∷ y ∷ r) a)) after))

        from_right : (a b : List ℕ) → r ≡ a ++ y ∷ b → IsChain old (cyclic (l ++ x ∷ r)) → IsChain new (cyclic (l ++ x ∷ y ∷ (a ++ b)))
        from_right a b e chain =
            let at_y = rotated old (l ++ x ∷ a) (y ∷ b) (subst (λ (zs : List ℕ). IsChain old (cyclic zs)) (ap (λ (zs : List ℕ). l ++ x ∷ zs) e ∙ sym (append_assoc l (x ∷ a) (y ∷ b))) chain) in
            let after = moves.around (b ++ l) a (subst (λ (zs : List ℕ). IsChain old (cyclic zs)) (sym (append_assoc (y ∷ b) l (x ∷ a))) at_y) in
            subst (λ (zs : List ℕ). IsChain new (cyclic zs)) (append_assoc l (x ∷ y ∷ a) b)
            (rotated new b (l ++ x ∷ y ∷ a) (subst (λ (zs : List ℕ). IsChain new (cyclic zs)) (append_assoc b l (x ∷ y ∷ a)) after))

  module _ (kind : List ℕ → Chain)
      (leaves : (a b : List ℕ) → IsChain old (kind (a ++ y ∷ b)) → (IsMember (a ++ b) x → ⊥) → a ++ b ≢ [] → IsChain new (kind (a ++ b)))
      (stays : (zs : List ℕ) → (IsMember zs y → ⊥) → (IsMember zs x → ⊥) → IsChain old (kind zs) → IsChain new (kind zs))
      (once : (zs : List ℕ) → IsChain old (kind zs) → AreDistinct zs) where
    left_by_one : (xs : List ℕ) → IsChain old (kind xs) → (IsMember xs x → ⊥) → list_without xs y ≢ [] → IsChain new (kind (list_without xs y))
    left_by_one xs chain none filled = by (IsMember-or_not xs y)
      where
        of_parts : (a b : List ℕ) → xs ≡ a ++ y ∷ b → IsChain new (kind (list_without xs y))
        of_parts a b e =
            let same : list_without xs y ≡ a ++ b = ap (λ (zs : List ℕ). list_without zs y) e ∙ list_without-middle a b y (subst AreDistinct e (once xs chain)) in
            subst (λ (zs : List ℕ). IsChain new (kind zs)) (sym same)
            (leaves a b (subst (λ (zs : List ℕ). IsChain old (kind zs)) e chain)
            (λ h. none (list_without-has xs y x (subst (λ (zs : List ℕ). IsMember zs x) (sym same) h)).0) (λ f. filled (same ∙ f)))

        by : IsMember xs y ⊎ (IsMember xs y → ⊥) → IsChain new (kind (list_without xs y))
        by (inl h) = let w = IsMember-written xs y h in of_parts w.0 w.1 w.2
        by (inr no_y) = subst (λ (zs : List ℕ). IsChain new (kind zs)) (sym (list_without-none xs y no_y)) (stays xs no_y none chain)

pub record CanFollow (link_map : LinkMap) (x : ℕ) (followers : List ℕ) : Type 0 where
  pub agrees : IsWellLinked link_map
  pub valid : (i : ℕ) → IsMember (x ∷ followers) i → HasLink link_map i
  pub once : AreDistinct (x ∷ followers)

module _ (link_map : LinkMap) (x y : ℕ) (followers : List ℕ) (can : CanFollow link_map x (y ∷ followers)) where
  abbrev pub next : LinkMap
  next = with_move_after link_map y x

  apart : y ≢ x
  apart e = can.once.0 (inl e)

  first_moves : MovesAfter link_map next y x
  first_moves = move_moves link_map y x can.agrees (can.valid y (inr (inl refl))) (can.valid x (inl refl)) apart

  can_go_on : CanFollow next y followers
  can_go_on = record {
    agrees = move_agrees link_map y x can.agrees (can.valid y (inr (inl refl))) (can.valid x (inl refl)) apart;
    valid = λ i h. (first_moves.links i).1 (can.valid i (inr h));
    once = can.once.1;
  }

module _ (kind : List ℕ → Chain)
    (one : (old new : LinkMap) (x y : ℕ) → MovesAfter old new y x → (l r : List ℕ) → y ≢ x → IsChain old (kind (l ++ x ∷ r)) → IsChain new (kind (list_without l y ++ x ∷ y ∷ list_without r y))) where
  placed : (followers : List ℕ) (link_map : LinkMap) (x : ℕ) (l r : List ℕ) → CanFollow link_map x followers → IsChain link_map (kind (l ++ x ∷ r))
      → IsChain (with_followers link_map x followers) (kind (list_without_all l followers ++ x ∷ followers ++ list_without_all r followers))
  placed [] link_map x l r can chain = subst (λ (zs : List ℕ). IsChain link_map (kind zs)) (sym (append_assoc l (x ∷ []) r)) chain
  placed (y ∷ followers) link_map x l r can chain =
      subst (λ (zs : List ℕ). IsChain (with_followers link_map x (y ∷ followers)) (kind (zs ++ list_without_all (list_without r y) followers))) same
      (placed followers (next link_map x y followers can) y (list_without l y ++ x ∷ []) (list_without r y) (can_go_on link_map x y followers can)
      (subst (λ (zs : List ℕ). IsChain (next link_map x y followers can) (kind zs)) (sym (append_assoc (list_without l y) (x ∷ []) (y ∷ list_without r y)))
      (one link_map (next link_map x y followers can) x y (first_moves link_map x y followers can) l r (apart link_map x y followers can) chain)))
    where
      before : list_without_all (list_without l y ++ x ∷ []) followers ≡ list_without_all (list_without l y) followers ++ x ∷ []
      before =
          list_without_all-append (list_without l y) (x ∷ []) followers
          ∙ ap (λ (zs : List ℕ). list_without_all (list_without l y) followers ++ zs) (list_without_all-one x followers (λ h. can.once.0 (inr h)))

      same : list_without_all (list_without l y ++ x ∷ []) followers ++ y ∷ followers ≡ list_without_all (list_without l y) followers ++ x ∷ y ∷ followers
      same = ap (λ (zs : List ℕ). zs ++ y ∷ followers) before ∙ append_assoc (list_without_all (list_without l y) followers) (x ∷ []) (y ∷ followers)

  placed_all : (followers : List ℕ) (link_map : LinkMap) (x : ℕ) (xs : List ℕ) → CanFollow link_map x followers → IsChain link_map (kind xs) → AreDistinct xs
      → ((i : ℕ) → IsMember xs i ↔ IsMember (x ∷ followers) i) → IsChain (with_followers link_map x followers) (kind (x ∷ followers))
  placed_all followers link_map x xs can chain once same = let w = IsMember-written xs x ((same x).1 (inl refl)) in by w.0 w.1 w.2
    where
      by : (l r : List ℕ) → xs ≡ l ++ x ∷ r → IsChain (with_followers link_map x followers) (kind (x ∷ followers))
      by l r e =
          let whole : AreDistinct (l ++ x ∷ r) = subst AreDistinct e once in
          let left : list_without_all l followers ≡ [] = list_without_all-none l followers (λ i h.
          ⊎_elim (λ s. absurd (AreDistinct-apart l (x ∷ r) i whole h (inl s))) (λ k. k) ((same i).0 (subst (λ (zs : List ℕ). IsMember zs i) (sym e) (IsMember-left l (x ∷ r) i h)))) in
          let right : list_without_all r followers ≡ [] = list_without_all-none r followers (λ i h.
          ⊎_elim (λ s. absurd ((AreDistinct-right l (x ∷ r) whole).0 (subst (IsMember r) (sym s) h))) (λ k. k)
          ((same i).0 (subst (λ (zs : List ℕ). IsMember zs i) (sym e) (IsMember-right l (x ∷ r) i (inr h))))) in
          let here = placed followers link_map x l r can (subst (λ (zs : List ℕ). IsChain link_map (kind zs)) e chain) in
          subst (λ (zs : List ℕ). IsChain (with_followers link_map x followers) (kind zs)) (append-nil (x ∷ followers))
          (subst (λ (zs : List ℕ). IsChain (with_followers link_map x followers) (kind (x ∷ followers ++ zs))) right
          (subst (λ (zs : List ℕ). IsChain (with_followers link_map x followers) (kind (zs ++ x ∷ followers ++ list_without_all r followers))) left here))

module _ (kind : List ℕ → Chain)
    (one : (old new : LinkMap) (x y : ℕ) → MovesAfter old new y x → (xs : List ℕ) → IsChain old (kind xs) → (IsMember xs x → ⊥) → list_without xs y ≢ [] → IsChain new (kind (list_without xs y))) where
  left : (followers : List ℕ) (link_map : LinkMap) (x : ℕ) (xs : List ℕ) → CanFollow link_map x followers → IsChain link_map (kind xs) → (IsMember xs x → ⊥) → list_without_all xs followers ≢ []
      → IsChain (with_followers link_map x followers) (kind (list_without_all xs followers))
  left [] link_map x xs can chain none filled = chain
  left (y ∷ followers) link_map x xs can chain none filled =
      left followers (next link_map x y followers can) y (list_without xs y) (can_go_on link_map x y followers can)
      (one link_map (next link_map x y followers can) x y (first_moves link_map x y followers can) xs chain none
      (λ e. filled (ap (λ (zs : List ℕ). list_without_all zs followers) e ∙ list_without_all-empty followers)))
      (λ h. (list_without-has xs y y h).1 refl) filled

kept : (followers : List ℕ) (link_map : LinkMap) (x : ℕ) (c : Chain) → CanFollow link_map x followers → ((i : ℕ) → IsMember (items c) i → IsMember (x ∷ followers) i → ⊥)
    → IsChain link_map c → IsChain (with_followers link_map x followers) c
kept [] link_map x c can none chain = chain
kept (y ∷ followers) link_map x c can none chain =
    kept followers (next link_map x y followers can) y c (can_go_on link_map x y followers can) (λ i h k. none i h (inr k))
    ((first_moves link_map x y followers can).rest c (λ h. none y h (inr (inl refl))) (λ h. none x h (inl refl)) chain)

same_links : (followers : List ℕ) (link_map : LinkMap) (x i : ℕ) → CanFollow link_map x followers → HasLink (with_followers link_map x followers) i ↔ HasLink link_map i
same_links [] link_map x i can = (λ h. h, λ h. h)
same_links (y ∷ followers) link_map x i can =
    let later = same_links followers (next link_map x y followers can) y i (can_go_on link_map x y followers can) in
    let first = (first_moves link_map x y followers can).links i in
    (λ h. first.0 (later.0 h), λ h. later.1 (first.1 h))

one_in_linear : (old new : LinkMap) (x y : ℕ) → MovesAfter old new y x → (l r : List ℕ) → y ≢ x → IsChain old (linear (l ++ x ∷ r)) → IsChain new (linear (list_without l y ++ x ∷ y ∷ list_without r y))
one_in_linear old new x y moves l r apart chain = moved_in_linear old new x y moves l r apart (chain_once old (linear (l ++ x ∷ r)) chain) chain

one_in_cyclic : (old new : LinkMap) (x y : ℕ) → MovesAfter old new y x → (l r : List ℕ) → y ≢ x → IsChain old (cyclic (l ++ x ∷ r)) → IsChain new (cyclic (list_without l y ++ x ∷ y ∷ list_without r y))
one_in_cyclic old new x y moves l r apart chain = moved_in_cyclic old new x y moves l r apart (chain_once old (cyclic (l ++ x ∷ r)) chain) chain

one_from_linear : (old new : LinkMap) (x y : ℕ) → MovesAfter old new y x → (xs : List ℕ) → IsChain old (linear xs) → (IsMember xs x → ⊥) → list_without xs y ≢ [] → IsChain new (linear (list_without xs y))
one_from_linear old new x y moves =
    left_by_one old new x y moves (λ zs. linear zs) moves.from_linear (λ zs no_y no_x chain. moves.rest (linear zs) no_y no_x chain) (λ zs chain. chain_once old (linear zs) chain)

one_from_cyclic : (old new : LinkMap) (x y : ℕ) → MovesAfter old new y x → (xs : List ℕ) → IsChain old (cyclic xs) → (IsMember xs x → ⊥) → list_without xs y ≢ [] → IsChain new (cyclic (list_without xs y))
one_from_cyclic old new x y moves =
    left_by_one old new x y moves (λ zs. cyclic zs) moves.from_cyclic (λ zs no_y no_x chain. moves.rest (cyclic zs) no_y no_x chain) (λ zs chain. chain_once old (cyclic zs) chain)

pub order_puts_in_order : OrderPutsInOrder
order_puts_in_order link_map x followers agrees valid once = record {
  all_linear = λ xs chain same. placed_all (λ zs. linear zs) one_in_linear followers link_map x xs can chain (chain_once link_map (linear xs) chain) same;
  all_cyclic = λ xs chain same. placed_all (λ zs. cyclic zs) one_in_cyclic followers link_map x xs can chain (chain_once link_map (cyclic xs) chain) same;
  to_linear = λ y z chain. placed (λ zs. linear zs) one_in_linear followers link_map x y z can chain;
  to_cyclic = λ y z chain. placed (λ zs. cyclic zs) one_in_cyclic followers link_map x y z can chain;
  from_linear = λ xs chain none filled. left (λ zs. linear zs) one_from_linear followers link_map x xs can chain none filled;
  from_cyclic = λ xs chain none filled. left (λ zs. cyclic zs) one_from_cyclic followers link_map x xs can chain none filled;
  rest = λ c none chain. kept followers link_map x c can none chain;
  links = λ i. same_links followers link_map x i can;
}
  where
    can : CanFollow link_map x followers
    can = record { agrees = agrees; valid = valid; once = once }

pub order_agrees : OrderAgrees
order_agrees link_map [] agrees valid beside = agrees
order_agrees link_map (x ∷ followers) agrees valid beside = go followers link_map x agrees valid beside
  where
    go : (followers : List ℕ) (link_map : LinkMap) (x : ℕ) → IsWellLinked link_map → ((i : ℕ) → IsMember (x ∷ followers) i → HasLink link_map i) → AreApart (x ∷ followers)
        → IsWellLinked (with_followers link_map x followers)
    go [] link_map x agrees valid beside = agrees
    go (y ∷ followers) link_map x agrees valid beside =
        let other : y ≢ x = λ e. beside.0 (ap (λ k. Some k) e) in
        let at_y = valid y (inr (inl refl)) in
        let at_x = valid x (inl refl) in
        let moves = move_moves link_map y x agrees at_y at_x other in
        go followers (with_move_after link_map y x) y (move_agrees link_map y x agrees at_y at_x other) (λ i h. (moves.links i).1 (valid i (inr h))) beside.1

module _ (kind : List ℕ → Chain)
    (follows : (link_map : LinkMap) (l r : List ℕ) (x y : ℕ) → IsChain link_map (kind (l ++ x ∷ y ∷ r)) → next_of link_map x ≡ Some y) where
  stays : (followers l : List ℕ) (link_map : LinkMap) (x : ℕ) → IsWellLinked link_map → AreDistinct (l ++ x ∷ followers) → IsChain link_map (kind (l ++ x ∷ followers))
      → with_followers link_map x followers ≡ link_map
  stays [] l link_map x agrees once chain = refl
  stays (y ∷ followers) l link_map x agrees once chain =
      ap (λ (m : LinkMap). with_followers m y followers)
      (moved_same link_map y x agrees valid_y valid_x apart x ((agrees.both x y).0 after) (λ e. apart (sym e)))
      ∙ stays followers (l ++ x ∷ []) link_map y agrees (subst AreDistinct (sym (append_assoc l (x ∷ []) (y ∷ followers))) once)
      (subst (λ (zs : List ℕ). IsChain link_map (kind zs)) (sym (append_assoc l (x ∷ []) (y ∷ followers))) chain)
    where
      after : next_of link_map x ≡ Some y
      after = follows link_map l followers x y chain

      apart : y ≢ x
      apart e = (AreDistinct-right l (x ∷ y ∷ followers) once).0 (inl e)

      valid_x : HasLink link_map x
      valid_x = next_valid link_map x y after

      valid_y : HasLink link_map y
      valid_y = prev_valid link_map y x ((agrees.both x y).0 after)

pub own_order_stays : OwnOrderStays
own_order_stays link_map (linear []) agrees chain = refl
own_order_stays link_map (linear (x ∷ xs)) agrees chain =
    stays (λ zs. linear zs) (λ m l r i j is. ap next_in (places_in_a_line m l (j ∷ r) i is)) xs [] link_map x agrees (chain_once link_map (linear (x ∷ xs)) chain) chain
own_order_stays link_map (cyclic []) agrees chain = refl
own_order_stays link_map (cyclic (x ∷ xs)) agrees chain =
    stays (λ zs. cyclic zs) (λ m l r i j is. ap next_in (places_in_a_ring m l (j ∷ r) i is)) xs [] link_map x agrees (chain_once link_map (cyclic (x ∷ xs)) chain) chain
