-- Neighbor pairs in a list, in a chain, in all chains and in the arena.
use Rattle.std.proofs.Common.{◌≡◌, ◌≢◌, ◌↔◌, ℕ, inl, inr, ⊎_elim, List, [], ◌∷◌, ◌++◌, Option, None, Some, refl, sym, ap, ◌∙◌, subst, append_assoc}
use Rattle.chain_laws.specs.Chains.{LinkMap, IsWellLinked, IsMember, AreDistinct, Chain, linear, cyclic, items, first_or, last_or, prev_in, next_in, prev_of, next_of, AreLinked, IsChain, HasChain, AreChains}
use Rattle.chain_laws.specs.Neighbors.{IsBeside, AreNeighborsIn, Partition, HasInterlinks}
use Rattle.chain_laws.proofs.ListLemmas.Members.{IsMember-right, IsMember-middle, IsMember-written, AreDistinct-right, first_or-IsMember, last_or-IsMember, last_or-append, last_apart, written_once}
use Rattle.chain_laws.proofs.InterlinkLemmas.Inverses.{one_some}
use Rattle.chain_laws.proofs.ChainLemmas.LinkedLists.{link, reports_both, next_valid, prev_valid, AreLinked-at, AreLinked-each}
use Rattle.chain_laws.proofs.ChainLemmas.Uniqueness.{chain_once, chain_filled}
use Rattle.chain_laws.proofs.ChainLemmas.ChainLists.{IsMember-all_items, chain_at, once_each, once_chain, all_items_valid}

abbrev pub before_first : Chain → Option ℕ
before_first (linear xs) = None
before_first (cyclic xs) = last_or xs None

abbrev pub after_last : Chain → Option ℕ
after_last (linear xs) = None
after_last (cyclic xs) = first_or xs None

pub chain_stored : (link_map : LinkMap) (c : Chain) → IsChain link_map c → AreLinked link_map (before_first c) (items c) (after_last c)
chain_stored link_map (linear xs) h = h.2
chain_stored link_map (cyclic xs) h = h.2

pub stored_chain : (link_map : LinkMap) (c : Chain) → items c ≢ [] → AreDistinct (items c) → AreLinked link_map (before_first c) (items c) (after_last c) → IsChain link_map c
stored_chain link_map (linear xs) filled once s = (filled, once, s)
stored_chain link_map (cyclic xs) filled once s = (filled, once, s)

pub last_or-written : (xs : List ℕ) (a : ℕ) → last_or xs None ≡ Some a → (before : List ℕ) × (xs ≡ before ++ a ∷ [])
last_or-written [] a e = absurd (cc)
last_or-written (x ∷ xs) a e =
    let l = last_apart x xs in
    let named : last_or (x ∷ xs) None ≡ Some l.1 = ap (λ (zs : List ℕ). last_or zs None) l.2 ∙ last_or-append l.0 (l.1 ∷ []) None in
    (l.0, l.2 ∙ ap (λ (k : ℕ). l.0 ++ k ∷ []) (one_some (sym named ∙ e)))

pub beside_next : (xs before after : List ℕ) (i j : ℕ) → xs ≡ before ++ i ∷ after → first_or after None ≡ Some j → IsBeside xs i j
beside_next xs before [] i j e n = absurd (cc)
beside_next xs before (y ∷ ys) i j e n =
    let same : y ≡ j = cc in
    (before, ys, e ∙ ap (λ (z : ℕ). before ++ i ∷ z ∷ ys) same)

pub next_beside : (xs before after : List ℕ) (i j : ℕ) → AreDistinct xs → xs ≡ before ++ i ∷ after → IsBeside xs i j
    → (others : Option ℕ) → first_or after others ≡ Some j
next_beside xs before after i j once e b others =
    let same = written_once before after b.0 (j ∷ b.1) i (subst AreDistinct e once) (sym e ∙ b.2) in
    ap (λ (zs : List ℕ). first_or zs others) same.1

pub beside_prev : (xs before after : List ℕ) (i j : ℕ) → xs ≡ before ++ i ∷ after → last_or before None ≡ Some j → IsBeside xs j i
beside_prev xs before after i j e p =
    let w = last_or-written before j p in
    (w.0, after, e ∙ (ap (λ (zs : List ℕ). zs ++ i ∷ after) w.1 ∙ append_assoc w.0 (j ∷ []) (i ∷ after)))

pub prev_beside : (xs before after : List ℕ) (i j : ℕ) → AreDistinct xs → xs ≡ before ++ i ∷ after → IsBeside xs j i
    → (others : Option ℕ) → last_or before others ≡ Some j
prev_beside xs before after i j once e b others =
    let same = written_once before after (b.0 ++ j ∷ []) b.1 i (subst AreDistinct e once) (sym e ∙ (b.2 ∙ sym (append_assoc b.0 (j ∷ []) (i ∷ b.1)))) in
    ap (λ (zs : List ℕ). last_or zs others) same.0 ∙ last_or-append b.0 (j ∷ []) others

pub last_ends : (xs before : List ℕ) (i y : ℕ) (ys : List ℕ) → AreDistinct xs → xs ≡ before ++ i ∷ y ∷ ys → last_or xs None ≡ Some i → ⊥
last_ends xs before i y ys once e l =
    let parts : AreDistinct (i ∷ y ∷ ys) = AreDistinct-right before (i ∷ y ∷ ys) (subst AreDistinct e once) in
    let end : last_or ys (Some y) ≡ Some i = sym (ap (λ (zs : List ℕ). last_or zs None) e ∙ last_or-append before (i ∷ y ∷ ys) None) ∙ l in
    parts.0 (⊎_elim (λ (h : IsMember ys i). let k : IsMember (y ∷ ys) i = inr h in k) (λ (f : Some y ≡ Some i). let same : y ≡ i = cc in inl same) (last_or-IsMember ys (Some y) i end))

pub first_begins : (xs : List ℕ) (b : ℕ) (before after : List ℕ) (i : ℕ) → AreDistinct xs → xs ≡ b ∷ before ++ i ∷ after → first_or xs None ≡ Some i → ⊥
first_begins xs b before after i once e f =
    let parts : AreDistinct (b ∷ before ++ i ∷ after) = subst AreDistinct e once in
    let start : Some b ≡ Some i = sym (ap (λ (zs : List ℕ). first_or zs None) e) ∙ f in
    let same : b ≡ i = cc in
    parts.0 (subst (IsMember (before ++ i ∷ after)) (sym same) (IsMember-middle before after i))

pub after_neighbors : (c : Chain) (before after : List ℕ) (i j : ℕ) → items c ≡ before ++ i ∷ after → first_or after (after_last c) ≡ Some j → AreNeighborsIn c i j
after_neighbors (linear xs) before after i j e n = beside_next xs before after i j e n
after_neighbors (cyclic xs) before [] i j e n = inr (ap (λ (zs : List ℕ). last_or zs None) e ∙ last_or-append before (i ∷ []) None, n)
after_neighbors (cyclic xs) before (y ∷ ys) i j e n = inl (beside_next xs before (y ∷ ys) i j e n)

pub neighbors_after : (c : Chain) (before after : List ℕ) (i j : ℕ) → AreDistinct (items c) → items c ≡ before ++ i ∷ after → AreNeighborsIn c i j
    → first_or after (after_last c) ≡ Some j
neighbors_after (linear xs) before after i j once e b = next_beside xs before after i j once e b None
neighbors_after (cyclic xs) before after i j once e (inl b) = next_beside xs before after i j once e b (first_or xs None)
neighbors_after (cyclic xs) before [] i j once e (inr w) = w.1
neighbors_after (cyclic xs) before (y ∷ ys) i j once e (inr w) = absurd (last_ends xs before i y ys once e w.0)

pub before_neighbors : (c : Chain) (before after : List ℕ) (i j : ℕ) → items c ≡ before ++ i ∷ after → last_or before (before_first c) ≡ Some j → AreNeighborsIn c j i
before_neighbors (linear xs) before after i j e p = beside_prev xs before after i j e p
before_neighbors (cyclic xs) [] after i j e p = inr (p, ap (λ (zs : List ℕ). first_or zs None) e)
before_neighbors (cyclic xs) (b ∷ before) after i j e p = inl (beside_prev xs (b ∷ before) after i j e p)

pub neighbors_before : (c : Chain) (before after : List ℕ) (i j : ℕ) → AreDistinct (items c) → items c ≡ before ++ i ∷ after → AreNeighborsIn c j i
    → last_or before (before_first c) ≡ Some j
neighbors_before (linear xs) before after i j once e b = prev_beside xs before after i j once e b None
neighbors_before (cyclic xs) before after i j once e (inl b) = prev_beside xs before after i j once e b (last_or xs None)
neighbors_before (cyclic xs) [] after i j once e (inr w) = w.0
neighbors_before (cyclic xs) (b ∷ before) after i j once e (inr w) = absurd (first_begins xs b before after i once e w.1)

pub beside_members : (xs : List ℕ) (i j : ℕ) → IsBeside xs i j → IsMember xs i × IsMember xs j
beside_members xs i j b = (
  subst (λ (zs : List ℕ). IsMember zs i) (sym b.2) (IsMember-middle b.0 (j ∷ b.1) i),
  subst (λ (zs : List ℕ). IsMember zs j) (sym b.2) (IsMember-right b.0 (i ∷ j ∷ b.1) j (inr (inl refl))),
)

pub neighbor_members : (c : Chain) (i j : ℕ) → AreNeighborsIn c i j → IsMember (items c) i × IsMember (items c) j
neighbor_members (linear xs) i j b = beside_members xs i j b
neighbor_members (cyclic xs) i j (inl b) = beside_members xs i j b
neighbor_members (cyclic xs) i j (inr w) = (
  ⊎_elim (λ (h : IsMember xs i). h) (λ (n : None ≡ Some i). absurd (cc)) (last_or-IsMember xs None i w.0),
  ⊎_elim (λ (h : IsMember xs j). h) (λ (n : None ≡ Some j). absurd (cc)) (first_or-IsMember xs None j w.1),
)

pub chain_reports : (link_map : LinkMap) (c : Chain) (before after : List ℕ) (i : ℕ) → IsChain link_map c → items c ≡ before ++ i ∷ after
    → link_map i ≡ Some (link (last_or before (before_first c)) (first_or after (after_last c)))
chain_reports link_map c before after i h e =
    AreLinked-at link_map (before_first c) before after (after_last c) i (subst (λ (zs : List ℕ). AreLinked link_map (before_first c) zs (after_last c)) e (chain_stored link_map c h))

pub chain_next : (link_map : LinkMap) (c : Chain) (i j : ℕ) → IsChain link_map c → IsMember (items c) i → (next_of link_map i ≡ Some j) ↔ AreNeighborsIn c i j
chain_next link_map c i j h m =
    let w = IsMember-written (items c) i m in
    let links : next_of link_map i ≡ first_or w.1 (after_last c) = ap next_in (chain_reports link_map c w.0 w.1 i h w.2) in (
      (λ e. after_neighbors c w.0 w.1 i j w.2 (sym links ∙ e)),
      (λ n. links ∙ neighbors_after c w.0 w.1 i j (chain_once link_map c h) w.2 n),
    )

pub chain_prev : (link_map : LinkMap) (c : Chain) (i j : ℕ) → IsChain link_map c → IsMember (items c) i → (prev_of link_map i ≡ Some j) ↔ AreNeighborsIn c j i
chain_prev link_map c i j h m =
    let w = IsMember-written (items c) i m in
    let links : prev_of link_map i ≡ last_or w.0 (before_first c) = ap prev_in (chain_reports link_map c w.0 w.1 i h w.2) in (
      (λ e. before_neighbors c w.0 w.1 i j w.2 (sym links ∙ e)),
      (λ n. links ∙ neighbors_before c w.0 w.1 i j (chain_once link_map c h) w.2 n),
    )

pub partitions : (link_map : LinkMap) (chains : List Chain) → AreChains link_map chains → Partition link_map chains
partitions link_map chains are = record {
  filled = λ c m. chain_filled link_map c (are.each c m);
  once = are.once;
  valid = λ i. (are.all i, all_items_valid link_map chains i are.each);
}

pub interlinks : (link_map : LinkMap) (chains : List Chain) → AreChains link_map chains → HasInterlinks link_map chains
interlinks link_map chains are = record {
  next = λ a b. (
    (λ e. let w = chain_at chains a (are.all a (next_valid link_map a b e)) in (w.0, w.1, (chain_next link_map w.0 a b (are.each w.0 w.1) w.2).0 e)),
    (λ n. (chain_next link_map n.0 a b (are.each n.0 n.1) (neighbor_members n.0 a b n.2).0).1 n.2),
  );
  prev = λ a b. (
    (λ e. let w = chain_at chains b (are.all b (prev_valid link_map b a e)) in (w.0, w.1, (chain_prev link_map w.0 b a (are.each w.0 w.1) w.2).0 e)),
    (λ n. (chain_prev link_map n.0 b a (are.each n.0 n.1) (neighbor_members n.0 a b n.2).1).1 n.2),
  );
}

pub same_named : (o p : Option ℕ) → ((j : ℕ) → (o ≡ Some j) ↔ (p ≡ Some j)) → o ≡ p
same_named None None same = refl
same_named None (Some j) same = (same j).1 refl
same_named (Some j) p same = sym ((same j).0 refl)

pub chains_from_pairs : (link_map : LinkMap) (chains : List Chain) → Partition link_map chains → HasInterlinks link_map chains → AreChains link_map chains
chains_from_pairs link_map chains partition pairs = record {
  each = λ c m. stored_chain link_map c (partition.filled c m) (once_each chains c partition.once m)
      (AreLinked-each link_map (before_first c) (items c) (after_last c) (λ left right i e. links c m left right i e));
  once = partition.once;
  all = λ i v. (partition.valid i).0 v;
}
  where
    member : (c : Chain) (left right : List ℕ) (i : ℕ) → items c ≡ left ++ i ∷ right → IsMember (items c) i
    member c left right i e = subst (λ (zs : List ℕ). IsMember zs i) (sym e) (IsMember-middle left right i)

    same_chain : (c d : Chain) (i : ℕ) → HasChain chains c → HasChain chains d → IsMember (items c) i → IsMember (items d) i → d ≡ c
    same_chain c d i m n h k = once_chain chains d c i partition.once n m k h

    next_is : (c : Chain) → HasChain chains c → (left right : List ℕ) (i : ℕ) → items c ≡ left ++ i ∷ right → (j : ℕ)
        → (next_of link_map i ≡ Some j) ↔ (first_or right (after_last c) ≡ Some j)
    next_is c m left right i e j = (
      (λ n. let w = (pairs.next i j).0 n in
          neighbors_after c left right i j (once_each chains c partition.once m) e
          (subst (λ (d : Chain). AreNeighborsIn d i j) (same_chain c w.0 i m w.1 (member c left right i e) (neighbor_members w.0 i j w.2).0) w.2)),
      (λ n. (pairs.next i j).1 (c, m, after_neighbors c left right i j e n)),
    )

    prev_is : (c : Chain) → HasChain chains c → (left right : List ℕ) (i : ℕ) → items c ≡ left ++ i ∷ right → (j : ℕ)
        → (prev_of link_map i ≡ Some j) ↔ (last_or left (before_first c) ≡ Some j)
    prev_is c m left right i e j = (
      (λ n. let w = (pairs.prev j i).0 n in
          neighbors_before c left right i j (once_each chains c partition.once m) e
          (subst (λ (d : Chain). AreNeighborsIn d j i) (same_chain c w.0 i m w.1 (member c left right i e) (neighbor_members w.0 j i w.2).1) w.2)),
      (λ n. (pairs.prev j i).1 (c, m, before_neighbors c left right i j e n)),
    )

    links : (c : Chain) → HasChain chains c → (left right : List ℕ) (i : ℕ) → items c ≡ left ++ i ∷ right
        → link_map i ≡ Some (link (last_or left (before_first c)) (first_or right (after_last c)))
    links c m left right i e =
        reports_both link_map i (last_or left (before_first c)) (first_or right (after_last c))
        ((partition.valid i).1 (IsMember-all_items chains c i m (member c left right i e)))
        (same_named (prev_of link_map i) (last_or left (before_first c)) (prev_is c m left right i e))
        (same_named (next_of link_map i) (first_or right (after_last c)) (next_is c m left right i e))

pub agrees_from_pairs : (link_map : LinkMap) (chains : List Chain) → HasInterlinks link_map chains → IsWellLinked link_map
agrees_from_pairs link_map chains pairs = record {
  both = λ i j. ((λ e. (pairs.prev i j).1 ((pairs.next i j).0 e)), (λ e. (pairs.next i j).1 ((pairs.prev i j).0 e)));
}

pub agrees_from_chains : (link_map : LinkMap) (chains : List Chain) → AreChains link_map chains → IsWellLinked link_map
agrees_from_chains link_map chains are = agrees_from_pairs link_map chains (interlinks link_map chains are)

pub chains_by_pairs : (link_map : LinkMap) (chains : List Chain) → AreChains link_map chains ↔ (Partition link_map chains × HasInterlinks link_map chains)
chains_by_pairs link_map chains = ((λ are. (partitions link_map chains are, interlinks link_map chains are)), (λ both. chains_from_pairs link_map chains both.0 both.1))
