-- The chains after an exchange are determined: those of the two links, and the unchanged ones.
use Rattle.std.specs.Prelude.{◌≡◌, ◌≢◌, ◌↔◌, ℕ, ◌⊎◌, List, [], ◌∷◌, ◌++◌}
use Rattle.std.proofs.Common.{sym, refl, ap, ◌∙◌, subst, inl, inr, ⊎_elim}
use Rattle.std.proofs.lemmas.Bool.{cases_eq}
use Rattle.std.proofs.lemmas.List.{append_assoc}
use Rattle.chain_laws.specs.Chains.{LinkMap, Chain, linear, cyclic, items, IsChain, IsMember}
use Rattle.chain_laws.specs.Exchanges.{with_exchange, Exchanges, ExchangesInOrder, ExchangeIsDetermined, ExchangeSplitsACycle, ExchangeMergesCycles}
use Rattle.chain_laws.proofs.ListLemmas.Members.{IsMember-left, IsMember-parts, IsMember-middle, IsMember-written, IsMember-or_not}
use Rattle.chain_laws.proofs.ChainLemmas.Uniqueness.{chain_valid}
use Rattle.chain_laws.proofs.ChainLemmas.Rotations.{rotated, rotated_to, one_ring}
use Rattle.chain_laws.proofs.ChainLemmas.Existence.{ChainOf, stored_in, has_chain}
use Rattle.chain_laws.proofs.ChainLemmas.Determinacy.{NamesChains, settled}
use Rattle.chain_laws.proofs.ExchangeLemmas.Chains.{exchanged_exchanges}

abbrev Crosses : LinkMap → ℕ → ℕ → LinkMap → Type 0
Crosses old p q new = Exchanges old new p q

abbrev Crossed : LinkMap → ℕ → ℕ → Type 0
Crossed old p q = NamesChains (Crosses old p q) p q

settles_mutually : (Holds : LinkMap → Type 0) (a b : ℕ) → NamesChains Holds a b → NamesChains Holds b a
settles_mutually Holds a b settles =
    record {
      left = settles.right;
      right = settles.left;
      has_a = settles.has_b;
      has_b = settles.has_a;
      left_stored = settles.right_stored;
      right_stored = settles.left_stored;
    }

taken_out_settles : (old : LinkMap) (Holds : LinkMap → Type 0) (a b : ℕ) → ((new : LinkMap) → Holds new → ExchangesInOrder old new a b)
    → (x m y : List ℕ) → IsChain old (linear (x ++ a ∷ m ++ b ∷ y)) → NamesChains Holds a b
taken_out_settles old Holds a b in_order x m y chain =
    record {
      left = linear (x ++ a ∷ y);
      right = cyclic (m ++ b ∷ []);
      has_a = IsMember-middle x y a;
      has_b = IsMember-middle m [] b;
      left_stored = λ new holds. ((in_order new holds).taken_out x m y chain).0;
      right_stored = λ new holds. ((in_order new holds).taken_out x m y chain).1;
    }

taken_in_settles : (old : LinkMap) (Holds : LinkMap → Type 0) (a b : ℕ) → ((new : LinkMap) → Holds new → ExchangesInOrder old new a b)
    → (xs ys : List ℕ) → IsChain old (linear xs) → IsChain old (cyclic ys) → IsMember xs a → IsMember ys b → NamesChains Holds a b
taken_in_settles old Holds a b in_order xs ys left right has_a has_b =
    let w = IsMember-written xs a has_a in
    let t = rotated_to old ys b right has_b in
    let whole = w.0 ++ a ∷ t.0 ++ b ∷ w.1 in
    let stored : (new : LinkMap) → Holds new → IsChain new (linear whole) = λ new holds.
    (in_order new holds).taken_in w.0 w.1 t.0 (subst (λ (zs : List ℕ). IsChain old (linear zs)) w.2 left) (rotated old (b ∷ []) t.0 t.1) in
    record {
      left = linear whole;
      right = linear whole;
      has_a = IsMember-left (w.0 ++ a ∷ t.0) (b ∷ w.1) a (IsMember-middle w.0 t.0 a);
      has_b = IsMember-middle (w.0 ++ a ∷ t.0) w.1 b;
      left_stored = stored;
      right_stored = stored;
    }

two_linear_settle : (old : LinkMap) (p q : ℕ) (xs ys : List ℕ) → IsChain old (linear xs) → IsChain old (linear ys) → IsMember xs p → IsMember ys q
    → (IsMember xs q → ⊥) → Crossed old p q
two_linear_settle old p q xs ys left right has_p has_q none =
    let v = IsMember-written xs p has_p in
    let w = IsMember-written ys q has_q in
    let parts : (new : LinkMap) → Exchanges old new p q → IsChain new (linear (v.0 ++ p ∷ w.1)) × IsChain new (linear (w.0 ++ q ∷ v.1)) = λ new exchanges.
    exchanges.two_linear v.0 v.1 w.0 w.1
    (subst (λ (zs : List ℕ). IsChain old (linear zs)) v.2 left) (subst (λ (zs : List ℕ). IsChain old (linear zs)) w.2 right)
    (λ h. none (subst (λ (zs : List ℕ). IsMember zs q) (sym v.2) h)) in
    record {
      left = linear (v.0 ++ p ∷ w.1);
      right = linear (w.0 ++ q ∷ v.1);
      has_a = IsMember-middle v.0 w.1 p;
      has_b = IsMember-middle w.0 v.1 q;
      left_stored = λ new exchanges. (parts new exchanges).0;
      right_stored = λ new exchanges. (parts new exchanges).1;
    }

two_cyclic_settle : (old : LinkMap) (p q : ℕ) (xs ys : List ℕ) → IsChain old (cyclic xs) → IsChain old (cyclic ys) → IsMember xs p → IsMember ys q
    → (IsMember xs q → ⊥) → Crossed old p q
two_cyclic_settle old p q xs ys left right has_p has_q none =
    let v = rotated_to old xs p left has_p in
    let w = rotated_to old ys q right has_q in
    let ring = p ∷ w.0 ++ q ∷ v.0 in
    let stored : (new : LinkMap) → Exchanges old new p q → IsChain new (cyclic ring) = λ new exchanges.
    exchanges.two_cyclic v.0 w.0 v.1 w.1 (λ h. none ((v.2 q).1 h)) in
    record {
      left = cyclic ring;
      right = cyclic ring;
      has_a = inl refl;
      has_b = IsMember-middle (p ∷ w.0) v.0 q;
      left_stored = stored;
      right_stored = stored;
    }

written_cyclic : (link_map : LinkMap) (p q : ℕ) (xs : List ℕ) → p ≢ q → IsChain link_map (cyclic xs) → IsMember xs p → IsMember xs q
    → (x : List ℕ) × (y : List ℕ) × IsChain link_map (cyclic (p ∷ x ++ q ∷ y))
written_cyclic link_map p q xs ne chain has_p has_q = by ((t.2 q).0 has_q)
  where
    t : (rest : List ℕ) × IsChain link_map (cyclic (p ∷ rest)) × ((y : ℕ) → IsMember xs y ↔ IsMember (p ∷ rest) y)
    t = rotated_to link_map xs p chain has_p

    by : IsMember (p ∷ t.0) q → (x : List ℕ) × (y : List ℕ) × IsChain link_map (cyclic (p ∷ x ++ q ∷ y))
    by (inl e) = absurd (ne e)
    by (inr h) = let w = IsMember-written t.0 q h in (w.0, w.1, subst (λ (zs : List ℕ). IsChain link_map (cyclic (p ∷ zs))) w.2 t.1)

one_cyclic_settles : (old : LinkMap) (p q : ℕ) (xs : List ℕ) → p ≢ q → IsChain old (cyclic xs) → IsMember xs p → IsMember xs q → Crossed old p q
one_cyclic_settles old p q xs ne chain has_p has_q =
    let w = written_cyclic old p q xs ne chain has_p has_q in
    record {
      left = cyclic (p ∷ w.1);
      right = cyclic (q ∷ w.0);
      has_a = inl refl;
      has_b = inl refl;
      left_stored = λ new exchanges. (exchanges.one_cyclic w.0 w.1 w.2).0;
      right_stored = λ new exchanges. (exchanges.one_cyclic w.0 w.1 w.2).1;
    }

one_linear_settles : (old : LinkMap) (p q : ℕ) (xs : List ℕ) → p ≢ q → IsChain old (linear xs) → IsMember xs p → IsMember xs q → Crossed old p q
one_linear_settles old p q xs ne chain has_p has_q = let w = IsMember-written xs p has_p in by w.0 w.1 w.2
  where
    by : (before after : List ℕ) → xs ≡ before ++ p ∷ after → Crossed old p q
    by before after e = side (IsMember-parts before (p ∷ after) q (subst (λ (zs : List ℕ). IsMember zs q) e has_q))
      where
        side : IsMember before q ⊎ IsMember (p ∷ after) q → Crossed old p q
        side (inl h) =
            let v = IsMember-written before q h in
            settles_mutually (Crosses old p q) q p
            (taken_out_settles old (Crosses old p q) q p (λ new exchanges. exchanges.in_other_order) v.0 v.1 after
            (subst (λ (zs : List ℕ). IsChain old (linear zs)) (e ∙ ap (λ (zs : List ℕ). zs ++ p ∷ after) v.2) chain))
        side (inr (inl s)) = absurd (ne s)
        side (inr (inr h)) =
            let v = IsMember-written after q h in
            taken_out_settles old (Crosses old p q) p q (λ new exchanges. exchanges.in_order) before v.0 v.1
            (subst (λ (zs : List ℕ). IsChain old (linear zs))
            (e ∙ ap (λ (zs : List ℕ). before ++ p ∷ zs) v.2 ∙ sym (append_assoc before (p ∷ v.0) (q ∷ v.1))) chain)

crossed_apart : (old : LinkMap) (p q : ℕ) → p ≢ q → ChainOf old p → ChainOf old q → Crossed old p q
crossed_apart old p q ne (stored_in (linear xs) left has_p) (stored_in d right has_q) = by d right has_q (IsMember-or_not xs q)
  where
    by : (d : Chain) → IsChain old d → IsMember (items d) q → IsMember xs q ⊎ (IsMember xs q → ⊥) → Crossed old p q
    by d right has_q (inl h) = one_linear_settles old p q xs ne left has_p h
    by (linear ys) right has_q (inr none) = two_linear_settle old p q xs ys left right has_p has_q none
    by (cyclic ys) right has_q (inr none) =
        taken_in_settles old (Crosses old p q) p q (λ new exchanges. exchanges.in_order) xs ys left right has_p has_q
crossed_apart old p q ne (stored_in (cyclic xs) left has_p) (stored_in d right has_q) = by d right has_q (IsMember-or_not xs q)
  where
    by : (d : Chain) → IsChain old d → IsMember (items d) q → IsMember xs q ⊎ (IsMember xs q → ⊥) → Crossed old p q
    by d right has_q (inl h) = one_cyclic_settles old p q xs ne left has_p h
    by (linear ys) right has_q (inr none) =
        settles_mutually (Crosses old p q) q p
        (taken_in_settles old (Crosses old p q) q p (λ new exchanges. exchanges.in_other_order) ys xs right left has_q has_p)
    by (cyclic ys) right has_q (inr none) = two_cyclic_settle old p q xs ys left right has_p has_q none

crossed_itself : (old : LinkMap) (p q : ℕ) → p ≡ q → ChainOf old p → Crossed old p q
crossed_itself old p q e (stored_in c chain has) =
    record {
      left = c;
      right = c;
      has_a = has;
      has_b = subst (IsMember (items c)) e has;
      left_stored = λ new exchanges. (exchanges.itself e c).0 chain;
      right_stored = λ new exchanges. (exchanges.itself e c).0 chain;
    }

pub exchange_is_determined : ExchangeIsDetermined
exchange_is_determined old new slots p q agrees within valid_p valid_q exchanges =
    let of_p = has_chain old slots agrees within p valid_p in
    let of_q = has_chain old slots agrees within q valid_q in
    let crossed : Crossed old p q = ⊎_elim (λ e. crossed_itself old p q e of_p) (λ ne. crossed_apart old p q ne of_p of_q) (cases_eq p q) in
    settled old new (with_exchange old p q) (Crosses old p q) p q (λ s made. made.rest)
    crossed exchanges (exchanged_exchanges old p q agrees valid_p valid_q)

pub exchange_splits : ExchangeSplitsACycle
exchange_splits link_map p q xs agrees ne chain has_p has_q =
    let w = written_cyclic link_map p q xs ne chain has_p has_q in
    let exchanges = exchanged_exchanges link_map p q agrees (chain_valid link_map (cyclic xs) p chain has_p) (chain_valid link_map (cyclic xs) q chain has_q) in
    let parts = exchanges.one_cyclic w.0 w.1 w.2 in
    (w.0, w.1, one_ring link_map xs (p ∷ w.0 ++ q ∷ w.1) p chain w.2 has_p (inl refl), parts.0, parts.1)

pub exchange_merges : ExchangeMergesCycles
exchange_merges link_map p q xs ys agrees left right has_p has_q none =
    let v = rotated_to link_map xs p left has_p in
    let w = rotated_to link_map ys q right has_q in
    let exchanges = exchanged_exchanges link_map p q agrees (chain_valid link_map (cyclic xs) p left has_p) (chain_valid link_map (cyclic ys) q right has_q) in (
      v.0,
      w.0,
      one_ring link_map xs (p ∷ v.0) p left v.1 has_p (inl refl),
      one_ring link_map ys (q ∷ w.0) q right w.1 has_q (inl refl),
      exchanges.two_cyclic v.0 w.0 v.1 w.1 (λ h. none ((v.2 q).1 h)),
    )
