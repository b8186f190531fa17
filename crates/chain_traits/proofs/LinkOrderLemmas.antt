-- Links that may be put in an order.
use Rattle.std.proofs.Common.{◌≡◌, ◌≢◌, ℕ, ◌+◌, ◌<◌, ◌≤◌, List, [], ◌∷◌, length, get_or, drop, map, Bool, true, false, Option, None, Some, refl, ap, sym, ◌∙◌, subst, inl, inr}
use Rattle.std.specs.Prelude.{◌↔◌, is_some, All, OnSome}
use Rattle.std.proofs.lemmas.List.{at_drop_more, at_drop_all}
use Rattle.std.proofs.lemmas.List.Elements.{All-cons, All-nil, All-head, All-tail}
use Rattle.chain_laws.proofs.InterlinkLemmas.Inverses.{one_some}
use Rattle.chain_laws.specs.Chains.{LinkMap, IsMember, AreDistinct, HasLink, IsWellLinked}
use Rattle.chain_laws.specs.Orders.{with_followers, with_order, PutsInOrder}
use Rattle.chain_laws.proofs.OrderLemmas.{order_puts_in_order}
use Rattle.arena_traits.specs.Arena.{IsValid}
use Rattle.arena_traits.specs.Entries.{ArenaView, ArenaState, found}
use Rattle.chain_links.specs.CallEffects.{MovesLinkAfter, AreMovedAfter, IsPutInOrder}
use Rattle.chain_links.specs.ChainArena.{CanPutInOrder, CanMove}
use Rattle.chain_traits.proofs.GenericArenaLemmas.{valid_link}

module _ {Gen T : Type 0} (entry : ℕ → Option (Gen × T)) where
  pub arrange_one : (p : ℕ × Gen) → IsValid entry p → CanPutInOrder entry (p ∷ [])
  arrange_one p valid = record { valid = All-cons (IsValid entry) p [] valid (All-nil (IsValid entry)); apart = (λ e. cc, tt) }

  pub arrange_more : (p q : ℕ × Gen) (order : List (ℕ × Gen)) → IsValid entry p → q.0 ≢ p.0 → CanPutInOrder entry (q ∷ order) → CanPutInOrder entry (p ∷ q ∷ order)
  arrange_more p q order valid other can = record { valid = All-cons (IsValid entry) p (q ∷ order) valid can.valid; apart = (λ e. other (one_some e), can.apart) }

  pub arrange_first : (p : ℕ × Gen) (order : List (ℕ × Gen)) → CanPutInOrder entry (p ∷ order) → IsValid entry p
  arrange_first p order can = All-head (IsValid entry) p order can.valid

  pub arrange_rest : (p : ℕ × Gen) (order : List (ℕ × Gen)) → CanPutInOrder entry (p ∷ order) → CanPutInOrder entry order
  arrange_rest p order can = record { valid = All-tail (IsValid entry) p order can.valid; apart = can.apart.1 }

  pub can_move_second : (p q : ℕ × Gen) (order : List (ℕ × Gen)) → CanPutInOrder entry (p ∷ q ∷ order) → CanMove entry q p
  can_move_second p q order can = record {
    first_valid = arrange_first q order (arrange_rest p (q ∷ order) can);
    second_valid = arrange_first p (q ∷ order) can;
    apart = λ e. can.apart.0 (ap (λ i. Some i) e);
  }

pub at_item : {P : Type 0} (followers : List P) (i : ℕ) (q : P) → i < length followers → q ≡ get_or followers i q → drop i followers ≡ q ∷ drop (i + 1) followers
at_item followers i q low is = at_drop_more (λ l. l) followers i q low ∙ ap (λ p. p ∷ drop (i + 1) followers) (sym is)

pub tested_all : {Gen T P : Type 0} (entry : ℕ → Option (Gen × T)) (key : P → ℕ × Gen) (whole : Type 0) (before : P) (followers : List P) (i : ℕ) → length followers ≤ i
    → (CanPutInOrder entry (map key (before ∷ drop i followers)) ↔ whole) → IsValid entry (key before) → whole
tested_all entry key whole before followers i end same valid =
    same.0 (subst (λ l. CanPutInOrder entry (map key (before ∷ l))) (sym (at_drop_all (λ l. l) followers i end)) (arrange_one entry (key before) valid))

module _ {I : Type 0} (number : I → ℕ) (i j : I) (result test : Bool) (m n : ℕ) (tests : (test ≡ true) ↔ (i ≡ j)) (is : result ≡ test) (at_i : number i ≡ m) (at_j : number j ≡ n) where
  pub are_same : result ≡ true → m ≡ n
  are_same is_true = sym at_i ∙ ap number (tests.0 (sym is ∙ is_true)) ∙ at_j

  pub are_other : (number i ≡ number j → i ≡ j) → result ≡ false → m ≢ n
  are_other one is_false e = not_both result (is ∙ tests.1 (one (at_i ∙ e ∙ sym at_j))) is_false
    where
      not_both : (b : Bool) → b ≡ true → b ≡ false → ⊥
      not_both b e f = cc

module _ {Gen T P : Type 0} (entry : ℕ → Option (Gen × T)) (key : P → ℕ × Gen) (whole : Type 0) (before q : P) (followers : List P) (i : ℕ) (low : i < length followers) (is : q ≡ get_or followers i q)
    (same : CanPutInOrder entry (map key (before ∷ drop i followers)) ↔ whole) where
  here : map key (before ∷ drop i followers) ≡ key before ∷ key q ∷ map key (drop (i + 1) followers)
  here = ap (λ l. map key (before ∷ l)) (at_item followers i q low is)

  pub test_goes_on : IsValid entry (key before) → (key q).0 ≢ (key before).0 → CanPutInOrder entry (map key (q ∷ drop (i + 1) followers)) ↔ whole
  test_goes_on valid other = (
    λ can. same.0 (subst (CanPutInOrder entry) (sym here) (arrange_more entry (key before) (key q) _ valid other can)),
    λ all. arrange_rest entry (key before) _ (subst (CanPutInOrder entry) here (same.1 all)),
  )

  pub test_fails : (IsValid entry (key q) → (key q).0 ≡ (key before).0) → whole → ⊥
  test_fails wrong all =
      let can = can_move_second entry (key before) (key q) _ (subst (CanPutInOrder entry) here (same.1 all)) in
      can.apart (wrong can.first_valid)

same_order : {Gen T : Type 0} (entry other : ℕ → Option (Gen × T)) (order : List (ℕ × Gen)) → ((i : ℕ) → other i ≡ entry i) → CanPutInOrder entry order → CanPutInOrder other order
same_order entry other order same can = record {
  valid = λ k d low. let here = can.valid k d low in record { value = here.value; stored = same _ ∙ here.stored };
  apart = can.apart;
}

module _ {A Gen T P : Type 0} {view : A → ArenaView Gen T} {entry : A → ℕ → Option (Gen × T)} (state : (a : A) → ArenaState (view a) (entry a)) (interlinks : A → LinkMap) (key : P → ℕ × Gen)
    (moves : A → P → P → A → Type 0) where
  abbrev pub index : P → ℕ
  index p = (key p).0

  pub record IsPutting (start now : A) (first before : P) (followers left : List P) : Type 0 where
    pub same_view : view now ≡ view start
    pub can : CanPutInOrder (entry now) (map key (before ∷ left))
    pub links : with_followers (interlinks now) (index before) (map index left) ≡ with_followers (interlinks start) (index first) (map index followers)
    pub moved : (end : A) → AreMovedAfter moves now before left end → AreMovedAfter moves start first followers end

  same_entry : (old new : A) → view new ≡ view old → (i : ℕ) → entry new i ≡ entry old i
  same_entry old new same i = sym ((state new).finds i) ∙ ap (λ (v : ArenaView Gen T). found i v.entries) same ∙ (state old).finds i

  pub puts_next : (start now next : A) (first before q : P) (followers left : List P) (done : Option Unit) → IsPutting start now first before followers (q ∷ left)
      → MovesLinkAfter state interlinks key now q before done next → OnSome done (moves now q before next) → IsPutting start next first q followers left
  puts_next start now next first before q followers left None at not_moved implementation = absurd (not_moved (can_move_second (entry now) (key before) (key q) (map key left) at.can))
  puts_next start now next first before q followers left (Some done) at moved implementation = record {
    same_view = moved.1.view_after ∙ at.same_view;
    can = same_order (entry now) (entry next) (map key (q ∷ left)) (same_entry now next moved.1.view_after) (arrange_rest (entry now) (key before) (map key (q ∷ left)) at.can);
    links = ap (λ (m : LinkMap). with_followers m (index q) (map index left)) moved.1.moved ∙ at.links;
    moved = λ end later. at.moved end (next, implementation, later);
  }

  pub put : (start now : A) (first before : P) (followers : List P) → IsPutting start now first before followers []
      → (interlinks now ≡ with_followers (interlinks start) (index first) (map index followers)) × (view now ≡ view start) × AreMovedAfter moves start first followers now
  put start now first before followers at = (at.links, at.same_view, at.moved now refl)

  pub is_put : (old new : A) (order : List P) → ((i : ℕ) → is_some (interlinks old i) ≡ is_some (entry old i)) → IsWellLinked (interlinks old) → CanPutInOrder (entry old) (map key order)
      → interlinks new ≡ with_order (interlinks old) (map index order) → view new ≡ view old → IsPutInOrder state interlinks old new (map index order)
  is_put old new order stored agrees can links same = record {
    ordered = links;
    chains = λ x followers e once.
        subst (λ (m : LinkMap). PutsInOrder (interlinks old) m x followers) (ap (with_order (interlinks old)) (sym e) ∙ sym links)
        (order_puts_in_order (interlinks old) x followers agrees (λ i has. have_links order can.valid i (subst (λ l. IsMember l i) (sym e) has)) (subst AreDistinct e once));
    view_after = same;
  }
    where
      have_links : (order : List P) → All (IsValid (entry old)) (map key order) → (i : ℕ) → IsMember (map index order) i → HasLink (interlinks old) i
      have_links [] valid i has = absurd has
      have_links (p ∷ order) valid i (inl e) =
          subst (HasLink (interlinks old)) e (valid_link (interlinks old) (entry old) (view old).entries stored (state old).finds (key p) (All-head (IsValid (entry old)) (key p) (map key order) valid))
      have_links (p ∷ order) valid i (inr has) = have_links order (All-tail (IsValid (entry old)) (key p) (map key order) valid) i has
