-- A join keeps interlinks in agreement, adds one pair, and makes two chains one.
use Rattle.std.specs.Prelude.{◌≡◌, ◌≢◌, ℕ, ◌⊎◌, List, [], ◌∷◌, ◌++◌, None, Some}
use Rattle.std.proofs.Common.{sym, ap, ◌∙◌, subst, subst₂, inl, inr, ⊎_elim}
use Rattle.std.proofs.lemmas.Bool.{cases_eq}
use Rattle.chain_laws.specs.Chains.{LinkMap, linear, cyclic, items, IsChain, prev_of, next_of, HasLink, IsWellLinked, IsMember, AreLinked, first_or, last_or}
use Rattle.chain_laws.specs.Neighbors.{AreNeighbors}
use Rattle.chain_laws.specs.Joins.{with_join, with_neighbors, AddsPair, Connects, AreEndAndStart}
use Rattle.chain_laws.proofs.InterlinkLemmas.Inverses.{altered, altered-same, altered-other, join_undoes, Undoes-at, one_some, not_both_ways}
use Rattle.chain_laws.proofs.InterlinkLemmas.Linked.{next_of-linked, prev_of-linked, IsValidAt-Some, HasLink-linked}
use Rattle.chain_laws.proofs.JoinLemmas.Lists.{IsOutside, IsOutside-Some, AreLinked-glued, AreLinked-ringed, IsChain-linked}
use Rattle.chain_laws.proofs.ChainLemmas.Uniqueness.{chain_closed, reaches_first}
use Rattle.chain_laws.proofs.ListLemmas.Members.{IsMember-middle, IsMember-filled, AreDistinct-append, last_or-append}

pub next_of-joined : (link_map : LinkMap) (a b : ℕ) → HasLink link_map a → (j : ℕ) → next_of (with_join link_map a b) j ≡ altered (next_of link_map) a (Some b) j
next_of-joined link_map a b valid j = next_of-linked link_map (Some a) (Some b) j (IsValidAt-Some link_map a valid)

pub prev_of-joined : (link_map : LinkMap) (a b : ℕ) → HasLink link_map b → (j : ℕ) → prev_of (with_join link_map a b) j ≡ altered (prev_of link_map) b (Some a) j
prev_of-joined link_map a b valid j = prev_of-linked link_map (Some a) (Some b) j (IsValidAt-Some link_map b valid)

pub joined_agrees : (link_map : LinkMap) (a b : ℕ) → IsWellLinked link_map → AreEndAndStart link_map a b → IsWellLinked (with_join link_map a b)
joined_agrees link_map a b agrees ends =
    record {
      both = Undoes-at (altered (next_of link_map) a (Some b)) (altered (prev_of link_map) b (Some a)) (next_of (with_join link_map a b)) (prev_of (with_join link_map a b))
          (next_of-joined link_map a b ends.valid_end) (prev_of-joined link_map a b ends.valid_start)
          (join_undoes (next_of link_map) (prev_of link_map) a b agrees.both ends.end ends.start);
    }

pub joined_adds_a_pair : (link_map : LinkMap) (a b : ℕ) → AreEndAndStart link_map a b → AddsPair link_map (with_join link_map a b) a b
joined_adds_a_pair link_map a b ends =
    record {
      pairs = λ i j. (there i j, back i j);
      links = λ i. HasLink-linked link_map (Some a) (Some b) i;
    }
  where
    there : (i j : ℕ) → AreNeighbors (with_join link_map a b) i j → AreNeighbors link_map i j ⊎ ((i ≡ a) × (j ≡ b))
    there i j e = ⊎_elim
        (λ s. let to_b : Some b ≡ Some j = sym (altered-same (next_of link_map) a (Some b) i s) ∙ sym (next_of-joined link_map a b ends.valid_end i) ∙ e in inr (s, sym (one_some to_b)))
        (λ ne. inl (sym (altered-other (next_of link_map) a (Some b) i ne) ∙ sym (next_of-joined link_map a b ends.valid_end i) ∙ e))
        (cases_eq i a)

    back : (i j : ℕ) → AreNeighbors link_map i j ⊎ ((i ≡ a) × (j ≡ b)) → AreNeighbors (with_join link_map a b) i j
    back i j (inl e) =
        let ne : i ≢ a = λ s. let at_a : next_of link_map a ≡ Some j = subst (λ k. next_of link_map k ≡ Some j) s e in
        not_both_ways (next_of link_map a) j ends.end at_a in
        next_of-joined link_map a b ends.valid_end i ∙ altered-other (next_of link_map) a (Some b) i ne ∙ e
    back i j (inr (s, t)) = next_of-joined link_map a b ends.valid_end i ∙ altered-same (next_of link_map) a (Some b) i s ∙ ap Some (sym t)

pub joined_two : (link_map : LinkMap) (a b : ℕ) (x y : List ℕ) → IsChain link_map (linear (x ++ a ∷ [])) → IsChain link_map (linear (b ∷ y)) → (IsMember (x ++ a ∷ []) b → ⊥)
    → IsChain (with_join link_map a b) (linear ((x ++ a ∷ []) ++ b ∷ y))
joined_two link_map a b x y left right none =
    let xs = x ++ a ∷ [] in
    let apart : (k : ℕ) → IsMember xs k → IsMember (b ∷ y) k → ⊥ = λ k h g.
    none (reaches_first link_map (IsMember xs) None b y None k (chain_closed link_map (linear xs) left) right.2 g h) in
    let ends : last_or xs None ≡ Some a = last_or-append x (a ∷ []) None in
    let glued : AreLinked (with_neighbors link_map (last_or xs None) (Some b)) None (xs ++ b ∷ y) None =
    AreLinked-glued link_map None xs None None (b ∷ y) None left.1 right.1
    (subst (λ u. IsOutside u (b ∷ y)) (sym ends) (IsOutside-Some a (b ∷ y) (apart a (IsMember-middle x [] a))))
    (IsOutside-Some b xs none) left.2 right.2 in
    (IsMember-filled (xs ++ b ∷ y) b (IsMember-middle xs y b), AreDistinct-append xs (b ∷ y) left.1 right.1 apart, subst (λ u. AreLinked (with_neighbors link_map u (Some b)) None (xs ++ b ∷ y) None) ends glued)

pub joined_one : (link_map : LinkMap) (a b : ℕ) (xs : List ℕ) → IsChain link_map (linear xs) → first_or xs None ≡ Some b → last_or xs None ≡ Some a → IsChain (with_join link_map a b) (cyclic xs)
joined_one link_map a b xs chain starts ends =
    (chain.0, chain.1, subst₂ (λ u v. AreLinked (with_neighbors link_map u v) (last_or xs None) xs (first_or xs None)) ends starts (AreLinked-ringed link_map None xs None chain.1 chain.2))

pub joined_connects : (link_map : LinkMap) (a b : ℕ) → Connects link_map (with_join link_map a b) a b
joined_connects link_map a b =
    record {
      two = joined_two link_map a b;
      one = joined_one link_map a b;
      rest = λ c none_a none_b. IsChain-linked link_map (Some a) (Some b) c (IsOutside-Some a (items c) none_a) (IsOutside-Some b (items c) none_b);
    }
