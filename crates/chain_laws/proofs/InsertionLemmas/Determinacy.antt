-- The chains after an insertion are determined: that of the new link, and the unchanged ones.
use Rattle.std.specs.Prelude.{◌≡◌, ℕ, ◌⊎◌, List, [], ◌∷◌, ◌++◌, Option, None, Some}
use Rattle.std.proofs.Common.{sym, refl, ap, ◌∙◌, subst, inl, inr, ⊎_elim}
use Rattle.chain_laws.specs.Chains.{LinkMap, Chain, linear, cyclic, items, IsChain, HasLinksWithin, IsWellLinked, IsMember, prev_of, next_of, first_or}
use Rattle.chain_laws.specs.Insertions.{with_insertion, IsInsertPosition, HasIndex, Inserts, InsertionIsDetermined}
use Rattle.chain_laws.proofs.InterlinkLemmas.Inverses.{one_some}
use Rattle.chain_laws.proofs.ListLemmas.Members.{IsMember-left, IsMember-right, IsMember-middle, IsMember-written, IsMember-or_not, last_or-append}
use Rattle.chain_laws.proofs.ChainLemmas.LinkedLists.{prev_valid}
use Rattle.chain_laws.proofs.ChainLemmas.Uniqueness.{chain_closed, one_linear}
use Rattle.chain_laws.proofs.ChainLemmas.Existence.{ChainOf, stored_in, has_chain}
use Rattle.chain_laws.proofs.ChainLemmas.Determinacy.{chain_elsewhere, end_chain, start_chain}
use Rattle.chain_laws.proofs.InsertionLemmas.Chains.{inserted_inserts}

record Lengthened (old : LinkMap) (q : ℕ) (u v : Option ℕ) : Type 0 where
  chain : Chain
  has_new : IsMember (items chain) q
  has_before : (i : ℕ) → u ≡ Some i → IsMember (items chain) i
  has_after : (i : ℕ) → v ≡ Some i → IsMember (items chain) i
  stored : (new : LinkMap) → Inserts old new q u v → IsChain new chain

IsMember-Some : (xs : List ℕ) (a i : ℕ) → IsMember xs a → Some a ≡ Some i → IsMember xs i
IsMember-Some xs a i h e = subst (IsMember xs) (one_some e) h

IsMember-inserted : (xs ys : List ℕ) (q i : ℕ) → IsMember (xs ++ ys) i → IsMember (xs ++ q ∷ ys) i
IsMember-inserted [] ys q i h = inr h
IsMember-inserted (x ∷ xs) ys q i (inl e) = inl e
IsMember-inserted (x ∷ xs) ys q i (inr h) = inr (IsMember-inserted xs ys q i h)

lengthened_end : (old : LinkMap) (a q : ℕ) → next_of old a ≡ None → (x : List ℕ) → IsChain old (linear (x ++ a ∷ [])) → Lengthened old q (Some a) None
lengthened_end old a q end x chain =
    record {
      chain = linear (x ++ a ∷ q ∷ []);
      has_new = IsMember-right x (a ∷ q ∷ []) q (inr (inl refl));
      has_before = λ i e. IsMember-Some (x ++ a ∷ q ∷ []) a i (IsMember-middle x (q ∷ []) a) e;
      has_after = λ i e. absurd (cc);
      stored = λ new inserts. (inserts.after a refl (sym end) x []).0 chain;
    }

lengthened_start : (old : LinkMap) (b q : ℕ) → prev_of old b ≡ None → (y : List ℕ) → IsChain old (linear (b ∷ y)) → Lengthened old q None (Some b)
lengthened_start old b q start y chain =
    record {
      chain = linear (q ∷ b ∷ y);
      has_new = inl refl;
      has_before = λ i e. absurd (cc);
      has_after = λ i e. IsMember-Some (q ∷ b ∷ y) b i (inr (inl refl)) e;
      stored = λ new inserts. (inserts.before b refl (sym start) [] y).0 chain;
    }

lengthened_list : (old : LinkMap) (a b q : ℕ) (x y : List ℕ) → IsMember (x ++ b ∷ y) a → (c : Chain) → items c ≡ x ++ q ∷ b ∷ y
    → ((new : LinkMap) → Inserts old new q (Some a) (Some b) → IsChain new c) → Lengthened old q (Some a) (Some b)
lengthened_list old a b q x y has_a c same stored =
    let has : (k : ℕ) → IsMember (x ++ q ∷ b ∷ y) k → IsMember (items c) k = λ k h. subst (λ (zs : List ℕ). IsMember zs k) (sym same) h in
    record {
      chain = c;
      has_new = has q (IsMember-middle x (b ∷ y) q);
      has_before = λ i e. IsMember-Some (items c) a i (has a (IsMember-inserted x (b ∷ y) q a has_a)) e;
      has_after = λ i e. IsMember-Some (items c) b i (has b (IsMember-right x (q ∷ b ∷ y) b (inr (inl refl)))) e;
      stored = stored;
    }

lengthened_pair : (old : LinkMap) (a b q : ℕ) → prev_of old b ≡ Some a → ChainOf old b → Lengthened old q (Some a) (Some b)
lengthened_pair old a b q before (stored_in (linear xs) chain has) = let w = IsMember-written xs b has in by w.0 w.1 w.2
  where
    by : (x y : List ℕ) → xs ≡ x ++ b ∷ y → Lengthened old q (Some a) (Some b)
    by x y e =
        let here : IsChain old (linear (x ++ b ∷ y)) = subst (λ (zs : List ℕ). IsChain old (linear zs)) e chain in
        let has_a : IsMember (x ++ b ∷ y) a = (chain_closed old (linear (x ++ b ∷ y)) here).back b a (IsMember-middle x y b) before in
        lengthened_list old a b q x y has_a (linear (x ++ q ∷ b ∷ y)) refl (λ new inserts. (inserts.before b refl (sym before) x y).0 here)
lengthened_pair old a b q before (stored_in (cyclic xs) chain has) = let w = IsMember-written xs b has in by w.0 w.1 w.2
  where
    by : (x y : List ℕ) → xs ≡ x ++ b ∷ y → Lengthened old q (Some a) (Some b)
    by x y e =
        let here : IsChain old (cyclic (x ++ b ∷ y)) = subst (λ (zs : List ℕ). IsChain old (cyclic zs)) e chain in
        let has_a : IsMember (x ++ b ∷ y) a = (chain_closed old (cyclic (x ++ b ∷ y)) here).back b a (IsMember-middle x y b) before in
        lengthened_list old a b q x y has_a (cyclic (x ++ q ∷ b ∷ y)) refl (λ new inserts. (inserts.before b refl (sym before) x y).1 here)

lengthened_bridge : (old : LinkMap) (a b q : ℕ) (x y : List ℕ) → IsChain old (linear (x ++ a ∷ [])) → IsChain old (linear (b ∷ y))
    → Lengthened old q (Some a) (Some b)
lengthened_bridge old a b q x y left right = by (IsMember-or_not (x ++ a ∷ []) b)
  where
    by : IsMember (x ++ a ∷ []) b ⊎ (IsMember (x ++ a ∷ []) b → ⊥) → Lengthened old q (Some a) (Some b)
    by (inl h) =
        let xs = x ++ a ∷ [] in
        let same : xs ≡ b ∷ y = one_linear old xs (b ∷ y) b left right h (inl refl) in
        let starts : first_or xs None ≡ Some b = ap (λ (zs : List ℕ). first_or zs None) same in
        record {
          chain = cyclic (xs ++ q ∷ []);
          has_new = IsMember-middle xs [] q;
          has_before = λ i e. IsMember-Some (xs ++ q ∷ []) a i (IsMember-left xs (q ∷ []) a (IsMember-middle x [] a)) e;
          has_after = λ i e. IsMember-Some (xs ++ q ∷ []) b i (IsMember-left xs (q ∷ []) b h) e;
          stored = λ new inserts. inserts.one a b refl refl xs left starts (last_or-append x (a ∷ []) None);
        }
    by (inr none) =
        let xs = x ++ a ∷ q ∷ [] in
        record {
          chain = linear (xs ++ b ∷ y);
          has_new = IsMember-left xs (b ∷ y) q (IsMember-right x (a ∷ q ∷ []) q (inr (inl refl)));
          has_before = λ i e. IsMember-Some (xs ++ b ∷ y) a i (IsMember-left xs (b ∷ y) a (IsMember-middle x (q ∷ []) a)) e;
          has_after = λ i e. IsMember-Some (xs ++ b ∷ y) b i (IsMember-middle xs y b) e;
          stored = λ new inserts. inserts.two a b refl refl x y left right none;
        }

lengthened : (old : LinkMap) (slots q : ℕ) (u v : Option ℕ) → IsWellLinked old → HasLinksWithin old slots → IsInsertPosition old q u v → Lengthened old q u v
lengthened old slots q None None agrees within position =
    record {
      chain = linear (q ∷ []);
      has_new = inl refl;
      has_before = λ i e. absurd (cc);
      has_after = λ i e. absurd (cc);
      stored = λ new inserts. inserts.alone refl refl;
    }
lengthened old slots q (Some a) None agrees within position =
    let x = end_chain old a (has_chain old slots agrees within a position.0) position.1 in
    lengthened_end old a q position.1 x.0 x.1
lengthened old slots q None (Some b) agrees within position =
    let y = start_chain old b (has_chain old slots agrees within b position.0) position.1 in
    lengthened_start old b q position.1 y.0 y.1
lengthened old slots q (Some a) (Some b) agrees within (inl pair) =
    let before : prev_of old b ≡ Some a = (agrees.both a b).0 pair in
    lengthened_pair old a b q before (has_chain old slots agrees within b (prev_valid old b a before))
lengthened old slots q (Some a) (Some b) agrees within (inr (inl ends)) =
    let x = end_chain old a (has_chain old slots agrees within a ends.valid_end) ends.end in
    let y = start_chain old b (has_chain old slots agrees within b ends.valid_start) ends.start in
    lengthened_bridge old a b q x.0 y.0 x.1 y.1
lengthened old slots q (Some a) (Some b) agrees within (inr (inr ring)) =
    record {
      chain = cyclic (q ∷ []);
      has_new = inl refl;
      has_before = λ i e. inl (sym ring.0 ∙ one_some e);
      has_after = λ i e. inl (sym ring.1 ∙ one_some e);
      stored = λ new inserts. inserts.ring (ap Some ring.0) (ap Some ring.1);
    }

HasIndex-or_not : (c : Chain) (u : Option ℕ) → ((i : ℕ) × (u ≡ Some i) × IsMember (items c) i) ⊎ (HasIndex c u → ⊥)
HasIndex-or_not c None = inr (λ h. h)
HasIndex-or_not c (Some i) = ⊎_elim (λ h. inl (i, refl, h)) (λ none. inr none) (IsMember-or_not (items c) i)

inserted_alike : (old left right : LinkMap) (q : ℕ) (u v : Option ℕ) → Lengthened old q u v → Inserts old left q u v → Inserts old right q u v
    → (c : Chain) → IsChain left c → IsChain right c
inserted_alike old left right q u v longer l r c chain = by (IsMember-or_not (items c) q) (HasIndex-or_not c u) (HasIndex-or_not c v)
  where
    shared : (i : ℕ) → IsMember (items c) i → IsMember (items longer.chain) i → IsChain right c
    shared i h k = chain_elsewhere left right c longer.chain i chain (longer.stored left l) (longer.stored right r) h k

    by : IsMember (items c) q ⊎ (IsMember (items c) q → ⊥) → ((i : ℕ) × (u ≡ Some i) × IsMember (items c) i) ⊎ (HasIndex c u → ⊥)
        → ((i : ℕ) × (v ≡ Some i) × IsMember (items c) i) ⊎ (HasIndex c v → ⊥) → IsChain right c
    by (inl h) _ _ = shared q h longer.has_new
    by (inr none_q) (inl s) _ = shared s.0 s.2 (longer.has_before s.0 s.1)
    by (inr none_q) (inr none_u) (inl t) = shared t.0 t.2 (longer.has_after t.0 t.1)
    by (inr none_q) (inr none_u) (inr none_v) = (r.rest c none_q none_u none_v).0 ((l.rest c none_q none_u none_v).1 chain)

pub insertion_is_determined : InsertionIsDetermined
insertion_is_determined old new slots q u v agrees within free position inserts c =
    let longer = lengthened old slots q u v agrees within position in
    let that = inserted_inserts old q u v free in (
      inserted_alike old new (with_insertion old q u v) q u v longer inserts that c,
      inserted_alike old (with_insertion old q u v) new q u v longer that inserts c,
    )
