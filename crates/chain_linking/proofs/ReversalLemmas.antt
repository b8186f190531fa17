-- The links of a walk are turned one after another.
use Rattle.std.specs.Prelude.{◌≡◌, ℕ, suc, ◌<◌, ◌≤◌, eqb, List, [], ◌∷◌, length, Option, None, Some}
use Rattle.std.specs.Option.{option_map}
use Rattle.std.proofs.Common.{refl, ap, sym, ◌∙◌, subst, inl, inr, arith}
use Rattle.chain_laws.specs.Chains.{LinkMap, IsWellLinked, HasLink, HasLinksWithin, IsMember, AreDistinct, prev_in, next_in, prev_of, next_of}
use Rattle.chain_laws.specs.Reversals.{turned, with_turn, with_turns}
use Rattle.chain_laws.specs.Walks.{IsWalk, walk_ahead, step_forward, step_back}
use Rattle.chain_laws.proofs.InterlinkLemmas.Inverses.{if_other, if_same, one_some}
use Rattle.chain_laws.proofs.WalkLemmas.Ahead.{IsAhead, is_ahead, passes_list}
use Rattle.chain_laws.proofs.WalkLemmas.Walker.{walk_passed}
use Rattle.chain_laws.proofs.WalkLemmas.Members.{walks_ahead, walk_once, walk_valid, walk_bound}
use Rattle.arena_traits.specs.Arena.{Arena, entry_at}
use Rattle.chain_links.specs.ChainArena.{LinkView, link_map, with_link_map, interlinks_of}
use Rattle.chain_links.specs.Links.{links_view, pair_view}
use Rattle.chain_links.specs.declared.links.RawLink.{RawLink}
use Rattle.chain_links.proofs.ArenaInsertionLemmas.{slots-within}
use Rattle.chain_links.proofs.LinkStateLemmas.{entry_at-links_view}
use Rattle.chain_linking.specs.ChainReversals.{arena_with_turn, arena_with_turns, walk_at}
use Rattle.chain_linking.proofs.LinkWriteLemmas.{FitsLinks, FitsLinks-link_map, is_some-if, link_map-with_link_map, with_link_map-again, with_link_map-own}

pub steps_unless : (start : ℕ) (next back : Option ℕ) → (next ≡ Some start → ⊥) → (next ≡ step_forward start next) × (back ≡ step_back start next back)
steps_unless start None back apart = (refl, refl)
steps_unless start (Some k) back apart = (sym (if_other k start _ _ other), sym (if_other k start _ _ other))
  where
    other : (k ≡ start) → ⊥
    other same = apart (ap Some same)

pub steps_nowhere : (start : ℕ) (next back : Option ℕ) → next ≡ Some start → (None ≡ step_forward start next) × (None ≡ step_back start next back)
steps_nowhere start next back is = rw is (sym (if_same start start _ _ refl), sym (if_same start start _ _ refl))

module _ {Gen K T : Type 0} (number : K → Option ℕ) (a : Arena Gen (RawLink K T)) (i : ℕ) (link : RawLink K T) (stored : option_map (λ (e : Gen × RawLink K T). e.1) (entry_at a i) ≡ Some link) where
  prev_by : (o : Option (Gen × RawLink K T)) → option_map (λ (e : Gen × RawLink K T). e.1) o ≡ Some link → prev_in (option_map interlinks_of (option_map (pair_view number) o)) ≡ number link.prev
  prev_by None is = absurd (let h = is in cc)
  prev_by (Some e) is = ap (λ (l : RawLink K T). number l.prev) (one_some is)

  next_by : (o : Option (Gen × RawLink K T)) → option_map (λ (e : Gen × RawLink K T). e.1) o ≡ Some link → next_in (option_map interlinks_of (option_map (pair_view number) o)) ≡ number link.next
  next_by None is = absurd (let h = is in cc)
  next_by (Some e) is = ap (λ (l : RawLink K T). number l.next) (one_some is)

  pub prev_read : prev_of (link_map (links_view number a)) i ≡ number link.prev
  prev_read = ap (λ (o : Option (Gen × LinkView T)). prev_in (option_map interlinks_of o)) (entry_at-links_view number a i) ∙ prev_by (entry_at a i) stored

  pub next_read : next_of (link_map (links_view number a)) i ≡ number link.next
  next_read = ap (λ (o : Option (Gen × LinkView T)). next_in (option_map interlinks_of o)) (entry_at-links_view number a i) ∙ next_by (entry_at a i) stored

module _ {Gen T : Type 0} where
  pub FitsLinks-with_turns : (a : Arena Gen (LinkView T)) (interlinks : LinkMap) (xs : List ℕ) → FitsLinks interlinks a → FitsLinks (with_turns interlinks xs) a
  FitsLinks-with_turns a interlinks [] fits = fits
  FitsLinks-with_turns a interlinks (i ∷ rest) fits = FitsLinks-with_turns a (with_turn interlinks i) rest (λ j. is_some-if (eqb j i) turned (interlinks j) ∙ fits j)

  FitsLinks-with_turn : (a : Arena Gen (LinkView T)) (i : ℕ) → FitsLinks (with_turn (link_map a) i) a
  FitsLinks-with_turn a i j = is_some-if (eqb j i) turned (link_map a j) ∙ FitsLinks-link_map a j

  turned_more : (a b : Arena Gen (LinkView T)) (i : ℕ) (rest : List ℕ) → b ≡ arena_with_turn a i → arena_with_turns b rest ≡ arena_with_turns a (i ∷ rest)
  turned_more a b i rest is =
      ap (λ (x : Arena Gen (LinkView T)). arena_with_turns x rest) is
      ∙ (ap (λ (m : LinkMap). with_link_map (arena_with_turn a i) (with_turns m rest)) (link_map-with_link_map a (with_turn (link_map a) i) (FitsLinks-with_turn a i))
      ∙ with_link_map-again a (with_turn (link_map a) i) (with_turns (with_turn (link_map a) i) rest) (FitsLinks-with_turn a i))

  -- The links of `rest` are still to be turned.
  pub record IsTurning (old now : Arena Gen (LinkView T)) (start : ℕ) (forward back : Option ℕ) : Type 0 where
    pub rest : List ℕ
    pub ahead : IsAhead (link_map old) start forward back rest
    pub short : length rest ≤ length old.slots
    pub once : AreDistinct rest
    pub valid : (j : ℕ) → IsMember rest j → HasLink (link_map old) j
    pub stays : (j : ℕ) → IsMember rest j → link_map now j ≡ link_map old j
    pub turns : arena_with_turns now rest ≡ arena_with_turns old (walk_at old start)

  -- How many that are.
  abbrev pub left_to_turn : Arena Gen (LinkView T) → ℕ → Option ℕ → Option ℕ → ℕ
  left_to_turn old start forward back = length (walk_ahead (length old.slots) (link_map old) start forward back)

  module _ (old : Arena Gen (LinkView T)) (start : ℕ) (agrees : IsWellLinked (link_map old)) (starts : HasLink (link_map old) start) where
    pub turning_begins : IsTurning old old start (Some start) (prev_of (link_map old) start)
    turning_begins = record {
      rest = walk_at old start;
      ahead = is_ahead (suc (length old.slots)) (link_map old) start (Some start) (prev_of (link_map old) start) (walk_at old start)
          (walk_passed (suc (length old.slots)) (link_map old) start (walk_at old start) is_walk (omega (arith, short))) (omega (arith, short));
      short = short;
      once = walk_once (link_map old) start (walk_at old start) is_walk;
      valid = walk_valid (link_map old) start (walk_at old start) is_walk;
      stays = λ j h. refl;
      turns = refl;
    }
      where
        within : HasLinksWithin (link_map old) (length old.slots)
        within = slots-within interlinks_of old.slots

        is_walk : IsWalk (link_map old) start (walk_at old start)
        is_walk = walks_ahead (link_map old) (length old.slots) start agrees within starts

        short : length (walk_at old start) ≤ length old.slots
        short = walk_bound (link_map old) (length old.slots) start (walk_at old start) within is_walk

  module _ (old now : Arena Gen (LinkView T)) (start : ℕ) where
    next_valid : (i : ℕ) (forward back : Option ℕ) → IsTurning old now start forward back → ((rest : List ℕ) → IsAhead (link_map old) start forward back rest → IsMember rest i) → HasLink (link_map now) i
    next_valid i forward back at first =
        let has = first at.rest at.ahead in
        record { link = (at.valid i has).link; links = at.stays i has ∙ (at.valid i has).links }

    pub forward_valid : (i : ℕ) (back : Option ℕ) → IsTurning old now start (Some i) back → HasLink (link_map now) i
    forward_valid i back at = next_valid i (Some i) back at first
      where
        first : (rest : List ℕ) → IsAhead (link_map old) start (Some i) back rest → IsMember rest i
        first [] ahead = absurd ahead
        first (j ∷ rest) ahead = inl (sym ahead.0)

    pub back_valid : (i : ℕ) → IsTurning old now start None (Some i) → HasLink (link_map now) i
    back_valid i at = next_valid i None (Some i) at first
      where
        first : (rest : List ℕ) → IsAhead (link_map old) start None (Some i) rest → IsMember rest i
        first [] ahead = absurd ahead
        first (j ∷ rest) ahead = inl (sym ahead.0)

    pub turning_ends : IsTurning old now start None None → now ≡ arena_with_turns old (walk_at old start)
    turning_ends at = ends at.rest at.ahead at.turns
      where
        ends : (rest : List ℕ) → IsAhead (link_map old) start None None rest → arena_with_turns now rest ≡ arena_with_turns old (walk_at old start) → now ≡ arena_with_turns old (walk_at old start)
        ends [] ahead turns = with_link_map-own now ∙ turns
        ends (i ∷ rest) ahead turns = absurd ahead

    module _ (new : Arena Gen (LinkView T)) (i : ℕ) (is : new ≡ arena_with_turn now i) where
      turned_first : (forward back onward behind : Option ℕ) (rest : List ℕ) → (at : IsTurning old now start forward back) → at.rest ≡ i ∷ rest → IsAhead (link_map old) start onward behind rest → IsTurning old new start onward behind
      turned_first forward back onward behind rest at same ahead = record {
        rest = rest;
        ahead = ahead;
        short = let s = at.short in let l = ap (length {A = ℕ}) same in omega (arith, s, l);
        once = once.1;
        valid = λ j h. at.valid j (subst (λ zs. IsMember zs j) (sym same) (inr h));
        stays = λ j h. ap (λ (x : Arena Gen (LinkView T)). link_map x j) is
            ∙ (ap (λ (m : LinkMap). m j) (link_map-with_link_map now (with_turn (link_map now) i) (FitsLinks-with_turn now i))
            ∙ (if_other j i _ _ (λ e. once.0 (subst (IsMember rest) e h)) ∙ at.stays j (subst (λ zs. IsMember zs j) (sym same) (inr h))));
        turns = turned_more now new i rest is ∙ (ap (arena_with_turns now) (sym same) ∙ at.turns);
      }
        where
          once : AreDistinct (i ∷ rest)
          once = subst AreDistinct same at.once

      fewer : (forward back onward behind : Option ℕ) (rest : List ℕ) → (at : IsTurning old now start forward back) → at.rest ≡ i ∷ rest → IsAhead (link_map old) start onward behind rest
          → left_to_turn old start onward behind < left_to_turn old start forward back
      fewer forward back onward behind rest at same ahead =
          let short = at.short in
          let long = ap (length {A = ℕ}) same in
          let now_left = ap (length {A = ℕ}) (passes_list (length old.slots) (link_map old) start forward back at.rest at.ahead short) in
          let then_left = ap (length {A = ℕ}) (passes_list (length old.slots) (link_map old) start onward behind rest ahead (omega (arith, short, long))) in
          omega (arith, long, now_left, then_left)

      pub turning_on : (back next onward behind : Option ℕ) → (at : IsTurning old now start (Some i) back) → next ≡ next_of (link_map now) i → onward ≡ step_forward start next → behind ≡ step_back start next back
          → IsTurning old new start onward behind × (left_to_turn old start onward behind < left_to_turn old start (Some i) back)
      turning_on back next onward behind at is_next is_onward is_behind = by at.rest refl at.ahead
        where
          by : (xs : List ℕ) → at.rest ≡ xs → IsAhead (link_map old) start (Some i) back xs → IsTurning old new start onward behind × (left_to_turn old start onward behind < left_to_turn old start (Some i) back)
          by [] same ahead = absurd ahead
          by (j ∷ rest) same ahead =
              let here : at.rest ≡ i ∷ rest = same ∙ ap (λ (k : ℕ). k ∷ rest) (sym ahead.0) in
              let was : next ≡ next_of (link_map old) i = is_next ∙ ap next_in (at.stays i (subst (λ zs. IsMember zs i) (sym here) (inl refl))) in
              let onward_is : onward ≡ step_forward start (next_of (link_map old) i) = is_onward ∙ ap (step_forward start) was in
              let behind_is : behind ≡ step_back start (next_of (link_map old) i) back = is_behind ∙ ap (λ (o : Option ℕ). step_back start o back) was in
              let more : IsAhead (link_map old) start onward behind rest =
              subst (λ (o : Option ℕ). IsAhead (link_map old) start o behind rest) (sym onward_is) (subst (λ (o : Option ℕ). IsAhead (link_map old) start (step_forward start (next_of (link_map old) i)) o rest) (sym behind_is) ahead.1) in
              (turned_first (Some i) back onward behind rest at here more, fewer (Some i) back onward behind rest at here more)

      pub turning_back : (behind : Option ℕ) → (at : IsTurning old now start None (Some i)) → behind ≡ prev_of (link_map now) i
          → IsTurning old new start None behind × (left_to_turn old start None behind < left_to_turn old start None (Some i))
      turning_back behind at is_behind = by at.rest refl at.ahead
        where
          by : (xs : List ℕ) → at.rest ≡ xs → IsAhead (link_map old) start None (Some i) xs → IsTurning old new start None behind × (left_to_turn old start None behind < left_to_turn old start None (Some i))
          by [] same ahead = absurd ahead
          by (j ∷ rest) same ahead =
              let here : at.rest ≡ i ∷ rest = same ∙ ap (λ (k : ℕ). k ∷ rest) (sym ahead.0) in
              let was : behind ≡ prev_of (link_map old) i = is_behind ∙ ap prev_in (at.stays i (subst (λ zs. IsMember zs i) (sym here) (inl refl))) in
              let more : IsAhead (link_map old) start None behind rest = subst (λ (o : Option ℕ). IsAhead (link_map old) start None o rest) (sym was) ahead.1 in
              (turned_first None (Some i) None behind rest at here more, fewer None (Some i) None behind rest at here more)
