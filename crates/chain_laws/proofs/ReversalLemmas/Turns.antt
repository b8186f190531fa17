-- Links turned, and what names them.
use Rattle.std.proofs.Common.{◌≡◌, ℕ, ◌⊎◌, inl, inr, List, [], ◌∷◌, Option, None, Some, refl, sym, ap, ◌∙◌, subst}
use Rattle.std.specs.Option.{option_map}
use Rattle.chain_laws.specs.Chains.{LinkMap, Interlinks, IsMember, AreDistinct, prev_in, next_in, prev_of, next_of}
use Rattle.chain_laws.specs.Walks.{IsWalk}
use Rattle.chain_laws.specs.Reversals.{turned, with_turn, with_turns, ReversalAgrees}
use Rattle.chain_laws.proofs.ListLemmas.Members.{IsMember-or_not}
use Rattle.chain_laws.proofs.InterlinkLemmas.Inverses.{if_same, if_other}
use Rattle.chain_laws.proofs.ChainLemmas.Uniqueness.{HasAllNeighbors, chain_closed}
use Rattle.chain_laws.proofs.WalkLemmas.Members.{walk_once, walk_chain}

pub turns-elsewhere : (link_map : LinkMap) (xs : List ℕ) (j : ℕ) → (IsMember xs j → ⊥) → with_turns link_map xs j ≡ link_map j
turns-elsewhere link_map [] j out = refl
turns-elsewhere link_map (x ∷ xs) j out =
    turns-elsewhere (with_turn link_map x) xs j (λ h. out (inr h)) ∙ if_other j x _ _ (λ e. out (inl (sym e)))

pub turns-at : (link_map : LinkMap) (xs : List ℕ) (j : ℕ) → AreDistinct xs → IsMember xs j → with_turns link_map xs j ≡ option_map turned (link_map j)
turns-at link_map [] j once h = elim h [ ]
turns-at link_map (x ∷ xs) j once (inl e) =
    turns-elsewhere (with_turn link_map x) xs j (λ h. once.0 (subst (IsMember xs) (sym e) h)) ∙ if_same j x _ _ (sym e)
turns-at link_map (x ∷ xs) j once (inr h) =
    turns-at (with_turn link_map x) xs j once.1 h ∙ ap (option_map turned) (if_other j x _ _ (λ e. once.0 (subst (IsMember xs) e h)))

pub turned-names : (old new : LinkMap) (j : ℕ) → new j ≡ option_map turned (old j) → (next_of new j ≡ prev_of old j) × (prev_of new j ≡ next_of old j)
turned-names old new j e = (ap next_in e ∙ next_by (old j), ap prev_in e ∙ prev_by (old j))
  where
    next_by : (o : Option Interlinks) → next_in (option_map turned o) ≡ prev_in o
    next_by None = refl
    next_by (Some l) = refl

    prev_by : (o : Option Interlinks) → prev_in (option_map turned o) ≡ next_in o
    prev_by None = refl
    prev_by (Some l) = refl

walk_closed : (link_map : LinkMap) (i : ℕ) (walk : List ℕ) → IsWalk link_map i walk → HasAllNeighbors link_map (IsMember walk)
walk_closed link_map i walk is_walk =
    let own = walk_chain link_map i walk is_walk in
    let closed = chain_closed link_map own.0 own.1 in record {
      forward = λ j k h e. (own.2 k).1 (closed.forward j k ((own.2 j).0 h) e);
      back = λ j k h e. (own.2 k).1 (closed.back j k ((own.2 j).0 h) e);
    }

pub reversal_agrees : ReversalAgrees
reversal_agrees link_map i walk agrees is_walk =
    record { both = λ j k. (there j k (IsMember-or_not walk j), back j k (IsMember-or_not walk k)) }
  where
    new : LinkMap
    new = with_turns link_map walk

    closed : HasAllNeighbors link_map (IsMember walk)
    closed = walk_closed link_map i walk is_walk

    names : (j : ℕ) → IsMember walk j → (next_of new j ≡ prev_of link_map j) × (prev_of new j ≡ next_of link_map j)
    names j h = turned-names link_map new j (turns-at link_map walk j (walk_once link_map i walk is_walk) h)

    stays : (j : ℕ) → (IsMember walk j → ⊥) → new j ≡ link_map j
    stays j out = turns-elsewhere link_map walk j out

    there : (j k : ℕ) → IsMember walk j ⊎ (IsMember walk j → ⊥) → next_of new j ≡ Some k → prev_of new k ≡ Some j
    there j k (inl h) e =
        let before : prev_of link_map j ≡ Some k = sym (names j h).0 ∙ e in
        (names k (closed.back j k h before)).1 ∙ (agrees.both k j).1 before
    there j k (inr out) e =
        let after : prev_of link_map k ≡ Some j = (agrees.both j k).0 (sym (ap next_in (stays j out)) ∙ e) in
        ap prev_in (stays k (λ h. out (closed.back k j h after))) ∙ after

    back : (j k : ℕ) → IsMember walk k ⊎ (IsMember walk k → ⊥) → prev_of new k ≡ Some j → next_of new j ≡ Some k
    back j k (inl h) e =
        let after : next_of link_map k ≡ Some j = sym (names k h).1 ∙ e in
        (names j (closed.forward k j h after)).0 ∙ (agrees.both k j).0 after
    back j k (inr out) e =
        let before : next_of link_map j ≡ Some k = (agrees.both j k).1 (sym (ap prev_in (stays k out)) ∙ e) in
        ap next_in (stays j (λ h. out (closed.forward j k h before))) ∙ before
