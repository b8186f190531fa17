-- The interlinks after a cut.
use Rattle.std.specs.Prelude.{◌≡◌, ◌≢◌, ◌↔◌, ℕ, ◌==◌, if◌then◌else◌, ◌⊎◌, None, Some}
use Rattle.std.proofs.Common.{sym, refl, ap, ◌∙◌, inl, inr}
use Rattle.std.proofs.lemmas.Bool.{cases_eq}
use Rattle.chain_laws.specs.Chains.{LinkMap, HasLink, IsWellLinked, prev_of, next_of}
use Rattle.chain_laws.specs.Neighbors.{AreNeighbors}
use Rattle.chain_laws.specs.Joins.{with_neighbors, with_join, AddsPair, AreEndAndStart}
use Rattle.chain_laws.specs.Cuts.{without_pair, TakesPair, CutIsDeterminedByPairs, JoinOfCutRestores, CutOfJoinRestores}
use Rattle.chain_laws.proofs.InterlinkLemmas.Inverses.{altered, altered-same, altered-other, cut_undoes, Undoes-at, one_some, not_both_ways}
use Rattle.chain_laws.proofs.ChainLemmas.LinkedLists.{next_valid, prev_valid}
use Rattle.chain_laws.proofs.InterlinkLemmas.Linked.{IsValidAt, IsValidAt-Some, next_of-linked, prev_of-linked, prev_of-with_next_at, HasLink-linked}
use Rattle.chain_laws.proofs.JoinLemmas.Chains.{next_of-joined, joined_agrees, joined_adds_a_pair}
use Rattle.chain_laws.proofs.ChainLemmas.Determinacy.{pairs_decide}

nowhere_valid : (link_map : LinkMap) → IsValidAt link_map None
nowhere_valid link_map i e = absurd (cc)

pub next_of-cut : (link_map : LinkMap) (a b : ℕ) → HasLink link_map a → (j : ℕ) → next_of (without_pair link_map a b) j ≡ altered (next_of link_map) a None j
next_of-cut link_map a b valid j =
    next_of-linked (with_neighbors link_map (Some a) None) None (Some b) j (nowhere_valid (with_neighbors link_map (Some a) None))
    ∙ next_of-linked link_map (Some a) None j (IsValidAt-Some link_map a valid)

pub prev_of-cut : (link_map : LinkMap) (a b : ℕ) → HasLink link_map b → (j : ℕ) → prev_of (without_pair link_map a b) j ≡ altered (prev_of link_map) b None j
prev_of-cut link_map a b valid j =
    let ended = with_neighbors link_map (Some a) None in
    prev_of-linked ended None (Some b) j (IsValidAt-Some ended b ((HasLink-linked link_map (Some a) None b).1 valid))
    ∙ ap (λ o. if j == b then None else o) (prev_of-with_next_at link_map (Some a) None j)

pub HasLink-cut : (link_map : LinkMap) (a b j : ℕ) → HasLink (without_pair link_map a b) j ↔ HasLink link_map j
HasLink-cut link_map a b j =
    let ended = with_neighbors link_map (Some a) None in
    let outer = HasLink-linked ended None (Some b) j in
    let inner = HasLink-linked link_map (Some a) None j in
    (λ v. inner.0 (outer.0 v), λ v. outer.1 (inner.1 v))

HasLink-joined : (link_map : LinkMap) (a b j : ℕ) → HasLink (with_join link_map a b) j ↔ HasLink link_map j
HasLink-joined link_map a b j = HasLink-linked link_map (Some a) (Some b) j

pub cut_agrees : (link_map : LinkMap) (a b : ℕ) → IsWellLinked link_map → AreNeighbors link_map a b → IsWellLinked (without_pair link_map a b)
cut_agrees link_map a b agrees pair =
    let back : prev_of link_map b ≡ Some a = (agrees.both a b).0 pair in
    record {
      both = Undoes-at (altered (next_of link_map) a None) (altered (prev_of link_map) b None) (next_of (without_pair link_map a b)) (prev_of (without_pair link_map a b))
          (next_of-cut link_map a b (next_valid link_map a b pair)) (prev_of-cut link_map a b (prev_valid link_map b a back))
          (cut_undoes (next_of link_map) (prev_of link_map) a b agrees.both pair);
    }

pub cut_takes_a_pair : (link_map : LinkMap) (a b : ℕ) → AreNeighbors link_map a b → TakesPair link_map (without_pair link_map a b) a b
cut_takes_a_pair link_map a b pair =
    record {
      pairs = λ i j. (λ e. there i j e (cases_eq i a), λ p. back i j p (cases_eq i a));
      links = HasLink-cut link_map a b;
    }
  where
    after : (i : ℕ) → next_of (without_pair link_map a b) i ≡ altered (next_of link_map) a None i
    after i = next_of-cut link_map a b (next_valid link_map a b pair) i

    there : (i j : ℕ) → AreNeighbors (without_pair link_map a b) i j → (i ≡ a) ⊎ (i ≢ a) → AreNeighbors link_map i j × ((i ≡ a) × (j ≡ b) → ⊥)
    there i j e (inl s) = absurd (not_both_ways (altered (next_of link_map) a None i) j (altered-same (next_of link_map) a None i s) (sym (after i) ∙ e))
    there i j e (inr ne) = (sym (altered-other (next_of link_map) a None i ne) ∙ sym (after i) ∙ e, λ p. ne p.0)

    back : (i j : ℕ) → AreNeighbors link_map i j × ((i ≡ a) × (j ≡ b) → ⊥) → (i ≡ a) ⊎ (i ≢ a) → AreNeighbors (without_pair link_map a b) i j
    back i j p (inl s) = absurd (p.1 (s, one_some (sym p.0 ∙ ap (next_of link_map) s ∙ pair)))
    back i j p (inr ne) = after i ∙ altered-other (next_of link_map) a None i ne ∙ p.0

pub cut_is_determined_by_pairs : CutIsDeterminedByPairs
cut_is_determined_by_pairs old new a b agrees agrees_new pair takes =
    let that = cut_takes_a_pair old a b pair in
    pairs_decide new (without_pair old a b) agrees_new (cut_agrees old a b agrees pair)
    (λ i. (λ v. (that.links i).1 ((takes.links i).0 v), λ v. (takes.links i).1 ((that.links i).0 v)))
    (λ i j. (λ e. (that.pairs i j).1 ((takes.pairs i j).0 e), λ e. (takes.pairs i j).1 ((that.pairs i j).0 e)))

pub cut_ends : (link_map : LinkMap) (a b : ℕ) → IsWellLinked link_map → AreNeighbors link_map a b → AreEndAndStart (without_pair link_map a b) a b
cut_ends link_map a b agrees pair =
    let valid_a = next_valid link_map a b pair in
    let valid_b = prev_valid link_map b a ((agrees.both a b).0 pair) in
    record {
      valid_end = (HasLink-cut link_map a b a).1 valid_a;
      valid_start = (HasLink-cut link_map a b b).1 valid_b;
      end = next_of-cut link_map a b valid_a a ∙ altered-same (next_of link_map) a None a refl;
      start = prev_of-cut link_map a b valid_b b ∙ altered-same (prev_of link_map) b None b refl;
    }

join_of_cut_pairs : (link_map : LinkMap) (a b : ℕ) → IsWellLinked link_map → AreNeighbors link_map a b → (i j : ℕ)
    → AreNeighbors (with_join (without_pair link_map a b) a b) i j ↔ AreNeighbors link_map i j
join_of_cut_pairs link_map a b agrees pair i j =
    (λ e. there ((adds.pairs i j).0 e), λ e. (adds.pairs i j).1 (back e (cases_eq i a)))
  where
    adds : AddsPair (without_pair link_map a b) (with_join (without_pair link_map a b) a b) a b
    adds = joined_adds_a_pair (without_pair link_map a b) a b (cut_ends link_map a b agrees pair)

    takes : TakesPair link_map (without_pair link_map a b) a b
    takes = cut_takes_a_pair link_map a b pair

    there : AreNeighbors (without_pair link_map a b) i j ⊎ ((i ≡ a) × (j ≡ b)) → AreNeighbors link_map i j
    there (inl e) = ((takes.pairs i j).0 e).0
    there (inr s) = ap (next_of link_map) s.0 ∙ pair ∙ ap Some (sym s.1)

    back : AreNeighbors link_map i j → (i ≡ a) ⊎ (i ≢ a) → AreNeighbors (without_pair link_map a b) i j ⊎ ((i ≡ a) × (j ≡ b))
    back e (inl s) = inr (s, one_some (sym e ∙ ap (next_of link_map) s ∙ pair))
    back e (inr ne) = inl ((takes.pairs i j).1 (e, λ p. ne p.0))

pub join_of_cut : JoinOfCutRestores
join_of_cut link_map a b agrees pair =
    let ends = cut_ends link_map a b agrees pair in
    let valid = HasLink-joined (without_pair link_map a b) a b in
    let valid_cut = HasLink-cut link_map a b in (
      ends,
      pairs_decide (with_join (without_pair link_map a b) a b) link_map (joined_agrees (without_pair link_map a b) a b (cut_agrees link_map a b agrees pair) ends) agrees
          (λ i. (λ v. (valid_cut i).0 ((valid i).0 v), λ v. (valid i).1 ((valid_cut i).1 v)))
          (join_of_cut_pairs link_map a b agrees pair),
    )

pub joined_neighbors : (link_map : LinkMap) (a b : ℕ) → HasLink link_map a → AreNeighbors (with_join link_map a b) a b
joined_neighbors link_map a b valid = next_of-joined link_map a b valid a ∙ altered-same (next_of link_map) a (Some b) a refl

cut_of_join_pairs : (link_map : LinkMap) (a b : ℕ) → AreEndAndStart link_map a b → (i j : ℕ)
    → AreNeighbors (without_pair (with_join link_map a b) a b) i j ↔ AreNeighbors link_map i j
cut_of_join_pairs link_map a b ends i j =
    (λ e. there ((takes.pairs i j).0 e), λ e. (takes.pairs i j).1 ((adds.pairs i j).1 (inl e), λ p. not_before e p.0))
  where
    adds : AddsPair link_map (with_join link_map a b) a b
    adds = joined_adds_a_pair link_map a b ends

    takes : TakesPair (with_join link_map a b) (without_pair (with_join link_map a b) a b) a b
    takes = cut_takes_a_pair (with_join link_map a b) a b (joined_neighbors link_map a b ends.valid_end)

    not_before : AreNeighbors link_map i j → i ≡ a → ⊥
    not_before e s = not_both_ways (next_of link_map i) j (ap (next_of link_map) s ∙ ends.end) e

    by : AreNeighbors link_map i j ⊎ ((i ≡ a) × (j ≡ b)) → ((i ≡ a) × (j ≡ b) → ⊥) → AreNeighbors link_map i j
    by (inl e) other = e
    by (inr s) other = absurd (other s)

    there : AreNeighbors (with_join link_map a b) i j × ((i ≡ a) × (j ≡ b) → ⊥) → AreNeighbors link_map i j
    there p = by ((adds.pairs i j).0 p.0) p.1

pub cut_of_join : CutOfJoinRestores
cut_of_join link_map a b agrees ends =
    let pair = joined_neighbors link_map a b ends.valid_end in
    let valid = HasLink-joined link_map a b in
    let valid_cut = HasLink-cut (with_join link_map a b) a b in (
      pair,
      pairs_decide (without_pair (with_join link_map a b) a b) link_map (cut_agrees (with_join link_map a b) a b (joined_agrees link_map a b agrees ends) pair) agrees
          (λ i. (λ v. (valid i).0 ((valid_cut i).0 v), λ v. (valid_cut i).1 ((valid i).1 v)))
          (cut_of_join_pairs link_map a b ends),
    )
