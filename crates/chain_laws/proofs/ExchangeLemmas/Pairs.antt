-- Interlinks after an exchange: two links exchange their next, and all still agree.
use Rattle.std.specs.Prelude.{◌≡◌, ◌≢◌, ◌↔◌, ℕ, ◌⊎◌, Option, Some}
use Rattle.std.proofs.Common.{sym, refl, ap, ◌∙◌, inl, inr}
use Rattle.std.proofs.lemmas.Bool.{cases_eq}
use Rattle.chain_laws.specs.Chains.{LinkMap, HasLink, IsWellLinked, prev_of, next_of}
use Rattle.chain_laws.specs.Neighbors.{AreNeighbors}
use Rattle.chain_laws.specs.Joins.{with_neighbors}
use Rattle.chain_laws.specs.Exchanges.{with_exchange, ExchangeAgrees, ExchangeInPairs, ExchangeIsDeterminedByPairs}
use Rattle.chain_laws.specs.Exchanges.{ExchangeTwiceRestores, ExchangeWithItselfKeeps, ExchangeIsMutual}
use Rattle.chain_laws.proofs.InterlinkLemmas.Inverses.{altered, altered-same, altered-other}
use Rattle.chain_laws.proofs.ChainLemmas.LinkedLists.{prev_valid}
use Rattle.chain_laws.proofs.InterlinkLemmas.Linked.{IsValidAt, IsValidAt-Some, put_at, next_of-linked, prev_of-linked, HasLink-linked}
use Rattle.chain_laws.proofs.InterlinkLemmas.Skips.{names_or_not}
use Rattle.chain_laws.proofs.InsertionLemmas.Pairs.{put_at-same, put_at-other}
use Rattle.chain_laws.proofs.ChainLemmas.Determinacy.{pairs_decide}
use Rattle.chain_laws.proofs.ExchangeLemmas.Swaps.{swapped, swapped_in, is_either_or_neither, swapped-first, swapped-second, swapped-other, swapped-twice}
use Rattle.chain_laws.proofs.ExchangeLemmas.Swaps.{swapped-mutual, swapped_in-mutual, swapped-itself, swapped_in-other, swapped_in-twice}

pub record AreExchanged (old new : LinkMap) (p q : ℕ) : Type 0 where
  pub forward : (i : ℕ) → next_of new i ≡ next_of old (swapped p q i)
  pub back : (i : ℕ) → prev_of new i ≡ swapped_in p q (prev_of old i)
  pub links : (i : ℕ) → HasLink new i ↔ HasLink old i

pub are_exchanged_back : (old new : LinkMap) (p q : ℕ) → AreExchanged old new p q → AreExchanged new old p q
are_exchanged_back old new p q are =
    record {
      forward = λ i. sym (are.forward (swapped p q i) ∙ ap (next_of old) (swapped-twice p q i));
      back = λ i. sym (ap (swapped_in p q) (are.back i) ∙ swapped_in-twice p q (prev_of old i));
      links = λ i. ((are.links i).1, (are.links i).0);
    }

pub are_exchanged_mutually : (old new : LinkMap) (p q : ℕ) → AreExchanged old new p q → AreExchanged old new q p
are_exchanged_mutually old new p q are =
    record {
      forward = λ i. are.forward i ∙ ap (next_of old) (swapped-mutual p q i);
      back = λ i. are.back i ∙ swapped_in-mutual p q (prev_of old i);
      links = are.links;
    }

pub exchanged_are : (link_map : LinkMap) (p q : ℕ) → IsWellLinked link_map → HasLink link_map p → HasLink link_map q → AreExchanged link_map (with_exchange link_map p q) p q
exchanged_are link_map p q agrees valid_p valid_q =
    record {
      forward = λ i. outer_next i ∙ next_by i (cases_eq i q) (cases_eq i p);
      back = λ i. outer_prev i ∙ prev_by i (names_or_not a i) (names_or_not b i);
      links = λ i.
          let outer = HasLink-linked half (Some q) a i in
          let inner = HasLink-linked link_map (Some p) b i in
          (λ v. inner.0 (outer.0 v), λ v. outer.1 (inner.1 v));
    }
  where
    a : Option ℕ
    a = next_of link_map p

    b : Option ℕ
    b = next_of link_map q

    half : LinkMap
    half = with_neighbors link_map (Some p) b

    named_valid : (k : ℕ) → IsValidAt link_map (next_of link_map k)
    named_valid k i e = prev_valid link_map i k ((agrees.both k i).0 e)

    outer_next : (i : ℕ) → next_of (with_exchange link_map p q) i ≡ altered (next_of half) q a i
    outer_next i = next_of-linked half (Some q) a i (IsValidAt-Some half q ((HasLink-linked link_map (Some p) b q).1 valid_q))

    inner_next : (i : ℕ) → next_of half i ≡ altered (next_of link_map) p b i
    inner_next i = next_of-linked link_map (Some p) b i (IsValidAt-Some link_map p valid_p)

    next_by : (i : ℕ) → (i ≡ q) ⊎ (i ≢ q) → (i ≡ p) ⊎ (i ≢ p) → altered (next_of half) q a i ≡ next_of link_map (swapped p q i)
    next_by i (inl e) _ = altered-same (next_of half) q a i e ∙ ap (next_of link_map) (sym (swapped-second p q i e))
    next_by i (inr not_q) (inl e) =
        altered-other (next_of half) q a i not_q ∙ inner_next i ∙ altered-same (next_of link_map) p b i e ∙ ap (next_of link_map) (sym (swapped-first p q i e))
    next_by i (inr not_q) (inr not_p) =
        altered-other (next_of half) q a i not_q ∙ inner_next i ∙ altered-other (next_of link_map) p b i not_p
        ∙ ap (next_of link_map) (sym (swapped-other p q i not_p not_q))

    outer_prev : (i : ℕ) → prev_of (with_exchange link_map p q) i ≡ put_at (prev_of half) a (Some q) i
    outer_prev i = prev_of-linked half (Some q) a i (λ k e. (HasLink-linked link_map (Some p) b k).1 (named_valid p k e))

    inner_prev : (i : ℕ) → prev_of half i ≡ put_at (prev_of link_map) b (Some p) i
    inner_prev i = prev_of-linked link_map (Some p) b i (named_valid q)

    prev_by : (i : ℕ) → (a ≡ Some i) ⊎ (a ≢ Some i) → (b ≡ Some i) ⊎ (b ≢ Some i)
        → put_at (prev_of half) a (Some q) i ≡ swapped_in p q (prev_of link_map i)
    prev_by i (inl e) _ =
        put_at-same (prev_of half) a (Some q) i e ∙ ap Some (sym (swapped-first p q p refl)) ∙ ap (swapped_in p q) (sym ((agrees.both p i).0 e))
    prev_by i (inr not_a) (inl e) =
        put_at-other (prev_of half) a (Some q) i not_a ∙ inner_prev i ∙ put_at-same (prev_of link_map) b (Some p) i e
        ∙ ap Some (sym (swapped-second p q q refl)) ∙ ap (swapped_in p q) (sym ((agrees.both q i).0 e))
    prev_by i (inr not_a) (inr not_b) =
        put_at-other (prev_of half) a (Some q) i not_a ∙ inner_prev i ∙ put_at-other (prev_of link_map) b (Some p) i not_b
        ∙ sym (swapped_in-other p q (prev_of link_map i) (λ e. not_a ((agrees.both p i).1 e)) (λ e. not_b ((agrees.both q i).1 e)))

pub exchanged_agrees : ExchangeAgrees
exchanged_agrees link_map p q agrees valid_p valid_q =
    record {
      both = λ i j. (
        λ e. are.back j ∙ ap (swapped_in p q) ((agrees.both (swapped p q i) j).0 (sym (are.forward i) ∙ e)) ∙ ap Some (swapped-twice p q i),
        λ e. are.forward i ∙ (agrees.both (swapped p q i) j).1 (there.back j ∙ ap (swapped_in p q) e),
      );
    }
  where
    are : AreExchanged link_map (with_exchange link_map p q) p q
    are = exchanged_are link_map p q agrees valid_p valid_q

    there : AreExchanged (with_exchange link_map p q) link_map p q
    there = are_exchanged_back link_map (with_exchange link_map p q) p q are

pub exchanged_in_pairs : ExchangeInPairs
exchanged_in_pairs link_map p q agrees valid_p valid_q =
    record {
      pairs = λ i j. (λ e. there i j (sym (are.forward i) ∙ e) (is_either_or_neither p q i), λ s. are.forward i ∙ back i j s);
      links = are.links;
    }
  where
    are : AreExchanged link_map (with_exchange link_map p q) p q
    are = exchanged_are link_map p q agrees valid_p valid_q

    there : (i j : ℕ) → AreNeighbors link_map (swapped p q i) j → (i ≡ p) ⊎ (i ≡ q) ⊎ ((i ≢ p) × (i ≢ q))
        → (AreNeighbors link_map i j × (i ≢ p) × (i ≢ q)) ⊎ ((i ≡ p) × AreNeighbors link_map q j) ⊎ ((i ≡ q) × AreNeighbors link_map p j)
    there i j e (inl s) = inr (inl (s, ap (next_of link_map) (sym (swapped-first p q i s)) ∙ e))
    there i j e (inr (inl s)) = inr (inr (s, ap (next_of link_map) (sym (swapped-second p q i s)) ∙ e))
    there i j e (inr (inr ne)) = inl (ap (next_of link_map) (sym (swapped-other p q i ne.0 ne.1)) ∙ e, ne.0, ne.1)

    back : (i j : ℕ) → (AreNeighbors link_map i j × (i ≢ p) × (i ≢ q)) ⊎ ((i ≡ p) × AreNeighbors link_map q j) ⊎ ((i ≡ q) × AreNeighbors link_map p j)
        → AreNeighbors link_map (swapped p q i) j
    back i j (inl s) = ap (next_of link_map) (swapped-other p q i s.1 s.2) ∙ s.0
    back i j (inr (inl s)) = ap (next_of link_map) (swapped-first p q i s.0) ∙ s.1
    back i j (inr (inr s)) = ap (next_of link_map) (swapped-second p q i s.0) ∙ s.1

pub exchange_is_determined_by_pairs : ExchangeIsDeterminedByPairs
exchange_is_determined_by_pairs old new p q agrees agrees_new valid_p valid_q exchanges =
    let that = exchanged_in_pairs old p q agrees valid_p valid_q in
    pairs_decide new (with_exchange old p q) agrees_new (exchanged_agrees old p q agrees valid_p valid_q)
    (λ i. (λ v. (that.links i).1 ((exchanges.links i).0 v), λ v. (exchanges.links i).1 ((that.links i).0 v)))
    (λ i j. (λ e. (that.pairs i j).1 ((exchanges.pairs i j).0 e), λ e. (exchanges.pairs i j).1 ((that.pairs i j).0 e)))

same_after : (left right : LinkMap) → IsWellLinked left → IsWellLinked right → ((i : ℕ) → HasLink left i ↔ HasLink right i)
    → ((i : ℕ) → next_of left i ≡ next_of right i) → left ≡ right
same_after left right agrees_left agrees_right links same =
    pairs_decide left right agrees_left agrees_right links (λ i j. (λ e. sym (same i) ∙ e, λ e. same i ∙ e))

pub exchanged_with_itself : ExchangeWithItselfKeeps
exchanged_with_itself link_map p agrees valid =
    let are = exchanged_are link_map p p agrees valid valid in
    same_after (with_exchange link_map p p) link_map (exchanged_agrees link_map p p agrees valid valid) agrees are.links
    (λ i. are.forward i ∙ ap (next_of link_map) (swapped-itself p i))

pub exchanged_mutually : ExchangeIsMutual
exchanged_mutually link_map p q agrees valid_p valid_q =
    let are = exchanged_are link_map p q agrees valid_p valid_q in
    let that = exchanged_are link_map q p agrees valid_q valid_p in
    same_after (with_exchange link_map p q) (with_exchange link_map q p)
    (exchanged_agrees link_map p q agrees valid_p valid_q) (exchanged_agrees link_map q p agrees valid_q valid_p)
    (λ i. (λ v. (that.links i).1 ((are.links i).0 v), λ v. (are.links i).1 ((that.links i).0 v)))
    (λ i. are.forward i ∙ ap (next_of link_map) (swapped-mutual p q i) ∙ sym (that.forward i))

pub exchanged_twice : ExchangeTwiceRestores
exchanged_twice link_map p q agrees valid_p valid_q =
    let once = with_exchange link_map p q in
    let are = exchanged_are link_map p q agrees valid_p valid_q in
    let agrees_once = exchanged_agrees link_map p q agrees valid_p valid_q in
    let valid_p_once = (are.links p).1 valid_p in
    let valid_q_once = (are.links q).1 valid_q in
    let again = exchanged_are once p q agrees_once valid_p_once valid_q_once in
    same_after (with_exchange once p q) link_map (exchanged_agrees once p q agrees_once valid_p_once valid_q_once) agrees
    (λ i. (λ v. (are.links i).0 ((again.links i).0 v), λ v. (again.links i).1 ((are.links i).1 v)))
    (λ i. again.forward i ∙ are.forward (swapped p q i) ∙ ap (next_of link_map) (swapped-twice p q i))
