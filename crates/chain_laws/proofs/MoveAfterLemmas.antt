-- A link moved after another one, as a removal and an insertion.
use Rattle.std.specs.Prelude.{◌≡◌, ◌≢◌, ℕ, ◌⊎◌, List, [], ◌∷◌, ◌++◌, Option, None, Some}
use Rattle.std.proofs.Common.{sym, refl, ap, ◌∙◌, subst, inl, inr, ⊎_elim}
use Rattle.std.proofs.lemmas.Bool.{cases_eq}
use Rattle.std.proofs.lemmas.List.{append_assoc}
use Rattle.chain_laws.specs.Chains.{LinkMap, Chain, linear, cyclic, items, IsChain, HasLink, IsWellLinked, IsMember, AreDistinct, prev_of, next_of}
use Rattle.chain_laws.specs.Neighbors.{AreNeighbors}
use Rattle.chain_laws.specs.Removals.{with_removal, Removes, RemovesPairs}
use Rattle.chain_laws.specs.Insertions.{with_insertion, Inserts, InsertsPairs, HasIndex}
use Rattle.chain_laws.specs.MoveAfter.{with_move_after, MovesAfter, MoveAgrees, MoveMoves, MoveBackRestores}
use Rattle.chain_laws.proofs.ListLemmas.Members.{IsMember-parts, IsMember-left, IsMember-right, IsMember-middle, IsMember-filled, AreDistinct-right, AreDistinct-apart}
use Rattle.chain_laws.proofs.ChainLemmas.LinkedLists.{next_valid}
use Rattle.chain_laws.proofs.ChainLemmas.Uniqueness.{chain_closed, chain_once}
use Rattle.chain_laws.proofs.InterlinkLemmas.Inverses.{one_some}
use Rattle.chain_laws.proofs.RemovalLemmas.Pairs.{removed-at, HasLink-removed, removed_agrees, removed_in_pairs, next_skips}
use Rattle.chain_laws.proofs.RemovalLemmas.Chains.{removed_removes}
use Rattle.chain_laws.proofs.InsertionLemmas.Chains.{inserted_inserts}
use Rattle.chain_laws.proofs.InsertionLemmas.Pairs.{HasLink-inserted, inserted_agrees, insertion_is_determined_by_pairs, position_after}
use Rattle.chain_laws.proofs.InsertionLemmas.Undo.{removed_of_inserted_restores}

module _ (link_map : LinkMap) (p q : ℕ) (agrees : IsWellLinked link_map) (valid_p : HasLink link_map p) (valid : HasLink link_map q) (apart : p ≢ q) where
  abbrev pub rest : LinkMap
  rest = with_removal link_map p

  abbrev pub new : LinkMap
  new = with_move_after link_map p q

  rest_agrees : IsWellLinked rest
  rest_agrees = removed_agrees link_map p agrees

  free : rest p ≡ None
  free = removed-at link_map p

  still_valid : HasLink rest q
  still_valid = (HasLink-removed link_map p q).1 (valid, λ e. apart (sym e))

  pub moved_agrees : IsWellLinked new
  moved_agrees = inserted_agrees rest p (Some q) (next_of rest q) rest_agrees free (position_after rest q p (next_of rest q) still_valid refl)

  removes : Removes link_map rest p
  removes = removed_removes link_map p agrees

  inserts : Inserts rest new p (Some q) (next_of rest q)
  inserts = inserted_inserts rest p (Some q) (next_of rest q) free

  kept : (c : Chain) → (IsMember (items c) p → ⊥) → (IsMember (items c) q → ⊥) → IsChain rest c → IsChain new c
  kept c no_p no_q chain = (inserts.rest c no_p no_q (no_after (next_of rest q) refl)).0 chain
    where
      no_after : (o : Option ℕ) → next_of rest q ≡ o → HasIndex c o → ⊥
      no_after None is h = h
      no_after (Some k) is h = no_q ((chain_closed rest c chain).back k q h ((rest_agrees.both q k).0 is))

  out : (x y : List ℕ) → AreDistinct (x ++ p ∷ y) → IsMember (x ++ y) p → ⊥
  out x y once h = ⊎_elim (λ k. AreDistinct-apart x (p ∷ y) p once k (inl refl)) (λ k. (AreDistinct-right x (p ∷ y) once).0 k) (IsMember-parts x y p h)

  pub moved_moves : MovesAfter link_map new p q
  moved_moves = record {
    onward = λ x y z chain. (inserts.after q refl refl (x ++ y) z).0
        (subst (λ (zs : List ℕ). IsChain rest (linear zs)) (sym (append_assoc x y (q ∷ z)))
        (removes.from_linear x (y ++ q ∷ z) (subst (λ (zs : List ℕ). IsChain link_map (linear zs)) (append_assoc x (p ∷ y) (q ∷ z)) chain)
        (IsMember-filled _ q (IsMember-right x (y ++ q ∷ z) q (IsMember-middle y z q)))));
    backward = λ x y z chain. subst (λ (zs : List ℕ). IsChain new (linear zs)) (sym (append_assoc x (q ∷ p ∷ y) z))
        ((inserts.after q refl refl x (y ++ z)).0
        (subst (λ (zs : List ℕ). IsChain rest (linear zs)) (append_assoc x (q ∷ y) z)
        (removes.from_linear (x ++ q ∷ y) z chain
        (IsMember-filled _ q (IsMember-left (x ++ q ∷ y) z q (IsMember-middle x y q))))));
    around = λ x y chain. (inserts.after q refl refl x y).1 (removes.from_cyclic [] (x ++ q ∷ y) chain (IsMember-filled _ q (IsMember-middle x y q)));
    from_linear = λ x y chain no_q filled. kept (linear (x ++ y)) (out x y (chain_once link_map (linear (x ++ p ∷ y)) chain)) no_q (removes.from_linear x y chain filled);
    from_cyclic = λ x y chain no_q filled. kept (cyclic (x ++ y)) (out x y (chain_once link_map (cyclic (x ++ p ∷ y)) chain)) no_q (removes.from_cyclic x y chain filled);
    to_linear = λ x y chain no_p. (inserts.after q refl refl x y).0 (removes.rest (linear (x ++ q ∷ y)) no_p chain);
    to_cyclic = λ x y chain no_p. (inserts.after q refl refl x y).1 (removes.rest (cyclic (x ++ q ∷ y)) no_p chain);
    rest = λ c no_p no_q chain. kept c no_p no_q (removes.rest c no_p chain);
    links = λ i. (λ h. there i ((HasLink-inserted rest p (Some q) (next_of rest q) i).0 h), λ h. (HasLink-inserted rest p (Some q) (next_of rest q) i).1 (back i h (cases_eq i p)));
  }
    where
      there : (i : ℕ) → HasLink rest i ⊎ (i ≡ p) → HasLink link_map i
      there i (inl h) = ((HasLink-removed link_map p i).0 h).0
      there i (inr e) = subst (HasLink link_map) (sym e) valid_p

      back : (i : ℕ) → HasLink link_map i → (i ≡ p) ⊎ (i ≢ p) → HasLink rest i ⊎ (i ≡ p)
      back i h (inl e) = inr e
      back i h (inr ne) = inl ((HasLink-removed link_map p i).1 (h, ne))

  module _ (a : ℕ) (before : prev_of link_map p ≡ Some a) (other : a ≢ p) where
    followed : next_of link_map a ≡ Some p
    followed = (agrees.both a p).1 before

    after_a : next_of rest a ≡ next_of link_map p
    after_a = (next_skips link_map p agrees).past a other followed

    valid_a : HasLink rest a
    valid_a = (HasLink-removed link_map p a).1 (next_valid link_map a p followed, other)

    removes_pairs : RemovesPairs link_map rest p
    removes_pairs = removed_in_pairs link_map p agrees

    reinserts : InsertsPairs rest link_map p (Some a) (next_of rest a)
    reinserts = record {
      pairs = λ i j. (λ e. there i j e (cases_eq i p) (cases_eq j p), λ e. back i j e);
      links = λ i. (λ h. valid_there i h (cases_eq i p), λ h. ⊎_elim (λ k. ((HasLink-removed link_map p i).0 k).0) (λ e. subst (HasLink link_map) (sym e) valid_p) h);
    }
      where
        valid_there : (i : ℕ) → HasLink link_map i → (i ≡ p) ⊎ (i ≢ p) → HasLink rest i ⊎ (i ≡ p)
        valid_there i h (inl e) = inr e
        valid_there i h (inr ne) = inl ((HasLink-removed link_map p i).1 (h, ne))

        there : (i j : ℕ) → AreNeighbors link_map i j → (i ≡ p) ⊎ (i ≢ p) → (j ≡ p) ⊎ (j ≢ p)
            → (AreNeighbors rest i j × ((Some a ≡ Some i) × (next_of rest a ≡ Some j) → ⊥)) ⊎ ((Some a ≡ Some i) × (j ≡ p)) ⊎ ((i ≡ p) × (next_of rest a ≡ Some j))
        there i j e (inl at_p) _ = inr (inr (at_p, after_a ∙ subst (λ k. next_of link_map k ≡ Some j) at_p e))
        there i j e (inr not_p) (inl at_p) = inr (inl (sym before ∙ subst (λ k. prev_of link_map k ≡ Some i) at_p ((agrees.both i j).0 e), at_p))
        there i j e (inr not_p) (inr j_not_p) =
            inl ((removes_pairs.pairs i j).1 (inl (e, not_p, j_not_p)), λ h. j_not_p (one_some (sym e ∙ ap (next_of link_map) (sym (one_some h.0)) ∙ followed)))

        back : (i j : ℕ) → (AreNeighbors rest i j × ((Some a ≡ Some i) × (next_of rest a ≡ Some j) → ⊥)) ⊎ ((Some a ≡ Some i) × (j ≡ p)) ⊎ ((i ≡ p) × (next_of rest a ≡ Some j)) → AreNeighbors link_map i j
        back i j (inl e) = ⊎_elim (λ h. h.0) (λ h. absurd (e.1 (sym before ∙ h.0, after_a ∙ h.1))) ((removes_pairs.pairs i j).0 e.0)
        back i j (inr (inl e)) = ap (next_of link_map) (sym (one_some e.0)) ∙ followed ∙ ap (λ k. Some k) (sym e.1)
        back i j (inr (inr e)) = ap (next_of link_map) e.0 ∙ sym after_a ∙ e.1

    pub moved_same : with_move_after link_map p a ≡ link_map
    moved_same = sym (insertion_is_determined_by_pairs rest link_map p (Some a) (next_of rest a) rest_agrees agrees free (position_after rest a p (next_of rest a) valid_a refl) reinserts)

    pub moved_back : with_move_after new p a ≡ link_map
    moved_back = ap (λ (m : LinkMap). with_insertion m p (Some a) (next_of m a)) ((removed_of_inserted_restores rest q p rest_agrees still_valid free).0) ∙ moved_same

pub move_agrees : MoveAgrees
move_agrees link_map p q agrees valid_p valid apart = moved_agrees link_map p q agrees valid_p valid apart

pub move_moves : MoveMoves
move_moves link_map p q agrees valid_p valid apart = moved_moves link_map p q agrees valid_p valid apart

pub move_back_restores : MoveBackRestores
move_back_restores link_map p q a agrees valid_p valid apart before other = moved_back link_map p q agrees valid_p valid apart a before other
