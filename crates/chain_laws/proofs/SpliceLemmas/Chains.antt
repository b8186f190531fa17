-- The chains after a run is moved.
use Rattle.std.specs.Prelude.{◌≡◌, ◌≢◌, ℕ, List, [], ◌∷◌, ◌++◌, Option, None, Some}
use Rattle.std.proofs.Common.{sym, refl, ap, ◌∙◌, subst, inl, inr, ⊎_elim}
use Rattle.std.proofs.lemmas.List.{append_assoc}
use Rattle.chain_laws.specs.Chains.{LinkMap, Chain, linear, cyclic, items, IsChain, HasLink, IsWellLinked, IsMember, AreDistinct, AreLinked, first_or, last_or, prev_of, next_of, prev_in}
use Rattle.chain_laws.specs.Splices.{with_splice, IsRun, HasRun, Splices, SpliceSplices}
use Rattle.chain_laws.proofs.ListLemmas.Members.{IsMember-left, IsMember-right, IsMember-middle, IsMember-filled, last_or-append, last_or-IsMember, last_or-filled, AreDistinct-left, AreDistinct-right, AreDistinct-apart}
use Rattle.chain_laws.proofs.ChainLemmas.LinkedLists.{AreLinked-right, first_no_repetition}
use Rattle.chain_laws.proofs.ChainLemmas.Uniqueness.{chain_closed, chain_once, chain_valid, chains_share}
use Rattle.chain_laws.proofs.ChainLemmas.NeighborPairs.{before_first, after_last, chain_stored}
use Rattle.chain_laws.proofs.InterlinkLemmas.Inverses.{one_some, not_both_ways}
use Rattle.chain_laws.proofs.InterlinkLemmas.Skips.{names_or_not}
use Rattle.chain_laws.proofs.InsertionLemmas.Pairs.{put_at-same, put_at-other}
use Rattle.chain_laws.proofs.SpliceLemmas.Interlinks.{next_without_run, beyond, v_past, v_stays, v_not_past, onward_last, onward_p, onward_other, back_other, next_of-rest, next_of-spliced, prev_of-spliced, HasLink-spliced, spliced_agrees}
use Rattle.chain_laws.proofs.SpliceLemmas.Follows.{AreFollowed, AreFollowed-append, AreFollowed-left, AreFollowed-right, AreFollowed-frame, AreFollowed-redirected, AreFollowed-within, AreFollowed-last, first_or-Some, AreLinked-followed, followed-AreLinked}
use Rattle.chain_laws.proofs.SpliceLemmas.Follows.{run_has_first, run_has_last, around_members, run_members, run_once, around_once, run_apart, placed_members, placed_once, placed_first}

record IsFollowedRun (f : ℕ → Option ℕ) (Valid : ℕ → Type 0) (run : List ℕ) : Type 0 where
  pub after : Option ℕ
  pub followed : AreFollowed f run after
  pub once : AreDistinct run
  pub valid : (i : ℕ) → IsMember run i → Valid i

record IsRestOfChain (b : ℕ → Option ℕ) (Valid : ℕ → Type 0) (run xs : List ℕ) (after : Option ℕ) : Type 0 where
  pub followed : AreFollowed b xs after
  pub once : AreDistinct xs
  pub apart : (i : ℕ) → IsMember run i → IsMember xs i → ⊥
  pub valid : (i : ℕ) → IsMember xs i → Valid i

module _ (link_map : LinkMap) (p first last : ℕ) (agrees : IsWellLinked link_map) (valid_p : HasLink link_map p) (valid_first : HasLink link_map first) (valid_last : HasLink link_map last) (apart : p ≢ last) where
  abbrev pub f : ℕ → Option ℕ
  f = next_of link_map

  abbrev pub g : ℕ → Option ℕ
  g = prev_of link_map

  abbrev pub b : ℕ → Option ℕ
  b = next_without_run f g first last

  abbrev pub new : LinkMap
  new = with_splice link_map p first last

  abbrev pub h : ℕ → Option ℕ
  h = next_of new

  abbrev pub k : ℕ → Option ℕ
  k = prev_of new

  abbrev pub v : Option ℕ
  v = beyond link_map p first last agrees valid_p valid_first valid_last apart

  is_v : v ≡ b p
  is_v = next_of-rest link_map p first last agrees valid_p valid_first valid_last apart p

  h_last : h last ≡ b p
  h_last = next_of-spliced link_map p first last agrees valid_p valid_first valid_last apart last ∙ onward_last f g p first last v agrees.both apart is_v last refl ∙ is_v

  h_p : h p ≡ Some first
  h_p = next_of-spliced link_map p first last agrees valid_p valid_first valid_last apart p ∙ onward_p f g p first last v agrees.both apart is_v p apart refl

  h_other : (i : ℕ) → i ≢ last → i ≢ p → h i ≡ b i
  h_other i not_last not_p =
      next_of-spliced link_map p first last agrees valid_p valid_first valid_last apart i ∙ onward_other f g p first last v agrees.both apart is_v i not_last not_p

  b_before : (i : ℕ) → g first ≡ Some i → b i ≡ f last
  b_before i e = put_at-same f (g first) (f last) i e

  b_other : (i : ℕ) → g first ≢ Some i → b i ≡ f i
  b_other i ne = put_at-other f (g first) (f last) i ne

  start_stays : (i : ℕ) → g i ≡ None → i ≢ first → k i ≡ None
  start_stays i none ne =
      prev_of-spliced link_map p first last agrees valid_p valid_first valid_last apart i
      ∙ back_other f g p first last v agrees.both apart is_v i not_v ne ∙ put_at-other g (f last) (g first) i (λ e. not_after last e) ∙ none
    where
      not_after : (j : ℕ) → f j ≡ Some i → ⊥
      not_after j e = not_both_ways (g i) j none ((agrees.both j i).0 e)

      not_v : v ≢ Some i
      not_v w = ⊎_elim
          (λ at_p. not_after last (sym (v_past f g p first last v agrees.both apart is_v at_p) ∙ w))
          (λ other. not_after p (sym (v_stays f g p first last v agrees.both apart is_v other) ∙ w))
          (names_or_not (g first) p)

  start_follows : (i : ℕ) → g first ≡ None → f last ≡ Some i → k i ≡ None
  start_follows i none e =
      prev_of-spliced link_map p first last agrees valid_p valid_first valid_last apart i
      ∙ back_other f g p first last v agrees.both apart is_v i
      (v_not_past f g p first last v agrees.both apart is_v (λ at_p. not_both_ways (g first) p none at_p) i e)
      (λ s. not_both_ways (g first) last none (ap g (sym s) ∙ (agrees.both last i).0 e))
      ∙ put_at-same g (f last) (g first) i e ∙ none

  linear_chain : (xs : List ℕ) → xs ≢ [] → AreFollowed h xs None → ((i : ℕ) → IsMember xs i → HasLink link_map i)
      → ((i : ℕ) → first_or xs None ≡ Some i → k i ≡ None) → IsChain new (linear xs)
  linear_chain xs filled followed valid start = (filled, first_no_repetition new xs None stored, stored)
    where
      stored : AreLinked new None xs None
      stored =
          followed-AreLinked new None xs None (spliced_agrees link_map p first last agrees valid_p valid_first valid_last apart) followed
          (λ i m. (HasLink-spliced link_map p first last agrees valid_p valid_first valid_last apart i).1 (valid i m)) start

  cyclic_chain : (xs : List ℕ) → xs ≢ [] → AreDistinct xs → AreFollowed h xs (first_or xs None) → ((i : ℕ) → IsMember xs i → HasLink link_map i) → IsChain new (cyclic xs)
  cyclic_chain xs filled once followed valid = (
    filled,
    once,
    followed-AreLinked new (last_or xs None) xs (first_or xs None) new_agrees followed
        (λ i m. (HasLink-spliced link_map p first last agrees valid_p valid_first valid_last apart i).1 (valid i m)) (λ i e. start i (last_or xs None) refl e),
  )
    where
      new_agrees : IsWellLinked new
      new_agrees = spliced_agrees link_map p first last agrees valid_p valid_first valid_last apart

      start : (i : ℕ) (o : Option ℕ) → last_or xs None ≡ o → first_or xs None ≡ Some i → k i ≡ last_or xs None
      start i None none e = absurd (empty xs filled none)
        where
          empty : (ys : List ℕ) → ys ≢ [] → last_or ys None ≡ None → ⊥
          empty [] filled none = filled refl
          empty (y ∷ ys) filled none =
              let l = last_or-filled (y ∷ ys) y (inl refl) in
              not_both_ways (last_or ys (Some y)) l.0 none (l.1 None)
      start i (Some l) is e = (new_agrees.both l i).0 (AreFollowed-last h xs (first_or xs None) l followed is ∙ e) ∙ sym is

  placed : (u run w : List ℕ) (after : Option ℕ) → IsRun run first last → IsFollowedRun f (HasLink link_map) run → IsRestOfChain b (HasLink link_map) run (u ++ p ∷ w) after
      → AreFollowed h (u ++ p ∷ run ++ w) after
  placed u run w after is_run its rest =
      AreFollowed-append h (u ++ p ∷ run) w after
      (AreFollowed-append h u (p ∷ run) (first_or w after)
      (AreFollowed-frame b h u (Some p) (λ i m. h_other i (not_last i (IsMember-left u (p ∷ w) i m)) (λ e. AreDistinct-apart u (p ∷ w) i rest.once m (inl (sym e))))
      (AreFollowed-left b u (p ∷ w) after rest.followed))
      (h_p ∙ sym (first_or-Some run (first_or w after) first is_run.0), of_run run is_run its.followed its.once (λ i m. rest.apart i m)))
      (AreFollowed-frame b h w after
      (λ i m. h_other i (not_last i (IsMember-right u (p ∷ w) i (inr m))) (λ e. (AreDistinct-right u (p ∷ w) rest.once).0 (subst (IsMember w) e m)))
      at_p.1)
    where
      at_p : AreFollowed b (p ∷ w) after
      at_p = AreFollowed-right b u (p ∷ w) after rest.followed

      not_last : (i : ℕ) → IsMember (u ++ p ∷ w) i → i ≢ last
      not_last i m e = rest.apart last (run_has_last run first last is_run) (subst (IsMember (u ++ p ∷ w)) e m)

      of_run : (run : List ℕ) → IsRun run first last → AreFollowed f run its.after → AreDistinct run → ((i : ℕ) → IsMember run i → IsMember (u ++ p ∷ w) i → ⊥)
          → AreFollowed h run (first_or w after)
      of_run [] is_run followed once out = absurd (cc)
      of_run (x ∷ xs) is_run followed once out =
          AreFollowed-redirected f h (x ∷ xs) its.after (first_or w after) once
          (λ i e. ap h (one_some (sym e ∙ is_run.1)) ∙ h_last ∙ at_p.0)
          (λ i m ne. h_other i (λ e. ne (is_run.1 ∙ ap Some (sym e))) (λ e. out i m (subst (IsMember (u ++ p ∷ w)) (sym e) (IsMember-middle u w p)))
          ∙ b_other i (λ at_i. not_before i m ne at_i))
          followed
        where
          not_before : (i : ℕ) → IsMember (x ∷ xs) i → last_or (x ∷ xs) None ≢ Some i → g first ≢ Some i
          not_before i m ne at_i =
              let t = AreFollowed-within f x xs its.after i followed m ne in
              let same : first ≡ t.0 = one_some (sym ((agrees.both i first).1 at_i) ∙ t.1) in
              once.0 (subst (IsMember xs) (sym same ∙ sym (one_some is_run.0)) t.2)

  placed_linear : (u run w : List ℕ) → IsRun run first last → IsFollowedRun f (HasLink link_map) run → IsRestOfChain b (HasLink link_map) run (u ++ p ∷ w) None
      → ((i : ℕ) → first_or (u ++ p ∷ w) None ≡ Some i → k i ≡ None) → IsChain new (linear (u ++ p ∷ run ++ w))
  placed_linear u run w is_run its rest start =
      linear_chain (u ++ p ∷ run ++ w) (IsMember-filled _ p (IsMember-left (u ++ p ∷ run) w p (IsMember-middle u run p)))
      (placed u run w None is_run its rest)
      (λ i m. ⊎_elim (rest.valid i) (its.valid i) (placed_members u run w p i m))
      (λ i e. start i (sym (placed_first u run w p) ∙ e))

  placed_cyclic : (u run w : List ℕ) → IsRun run first last → IsFollowedRun f (HasLink link_map) run → IsRestOfChain b (HasLink link_map) run (u ++ p ∷ w) (first_or (u ++ p ∷ w) None)
      → IsChain new (cyclic (u ++ p ∷ run ++ w))
  placed_cyclic u run w is_run its rest =
      cyclic_chain (u ++ p ∷ run ++ w) (IsMember-filled _ p (IsMember-left (u ++ p ∷ run) w p (IsMember-middle u run p)))
      (placed_once u run w p rest.once its.once rest.apart)
      (subst (AreFollowed h (u ++ p ∷ run ++ w)) (sym (placed_first u run w p)) (placed u run w (first_or (u ++ p ∷ w) None) is_run its rest))
      (λ i m. ⊎_elim (rest.valid i) (its.valid i) (placed_members u run w p i m))

  run_of : (c : Chain) (run : List ℕ) → IsChain link_map c → HasRun c run → IsFollowedRun f (HasLink link_map) run
  run_of c run chain has =
      let whole : AreFollowed f (has.0 ++ run ++ has.1) (after_last c) =
      subst (λ (xs : List ℕ). AreFollowed f xs (after_last c)) has.2 (AreLinked-followed link_map (before_first c) (items c) (after_last c) (chain_stored link_map c chain)) in
      record {
        after = first_or has.1 (after_last c);
        followed = AreFollowed-right f has.0 run (first_or has.1 (after_last c)) (AreFollowed-left f (has.0 ++ run) has.1 (after_last c) whole);
        once = run_once has.0 run has.1 (subst AreDistinct has.2 (chain_once link_map c chain));
        valid = λ i m. chain_valid link_map c i chain (subst (λ (xs : List ℕ). IsMember xs i) (sym has.2) (run_members has.0 run has.1 i m));
      }

  run_prev : (before : Option ℕ) (run w : List ℕ) (after : Option ℕ) → IsRun run first last → AreLinked link_map before (run ++ w) after → g first ≡ before
  run_prev before [] w after is_run stored = absurd (cc)
  run_prev before (x ∷ xs) w after is_run stored = ap g (sym (one_some is_run.0)) ∙ ap prev_in stored.0

  run_next : (run w : List ℕ) (after : Option ℕ) → IsRun run first last → AreFollowed f (run ++ w) after → f last ≡ first_or w after
  run_next run w after is_run followed = AreFollowed-last f run (first_or w after) last (AreFollowed-left f run w after followed) is_run.1

  taken_linear : (x run w : List ℕ) → IsRun run first last → IsChain link_map (linear (x ++ run ++ w)) → IsRestOfChain b (HasLink link_map) run (x ++ w) None
  taken_linear x run w is_run chain = record {
    followed = AreFollowed-append b x w None
        (AreFollowed-redirected f b x (first_or run (first_or w None)) (first_or w None) (AreDistinct-left x w once)
        (λ i e. b_before i (before ∙ e) ∙ after)
        (λ i m ne. b_other i (λ at_i. ne (sym before ∙ at_i)))
        (AreFollowed-left f x run (first_or w None) (AreFollowed-left f (x ++ run) w None followed)))
        (AreFollowed-frame f b w None
        (λ i m. b_other i (λ at_i. AreDistinct-apart x w i once (last_member i (sym before ∙ at_i)) m))
        (AreFollowed-right f (x ++ run) w None followed));
    once = once;
    apart = λ i m n. run_apart x run w i chain.1 m n;
    valid = λ i m. chain_valid link_map (linear (x ++ run ++ w)) i chain (around_members x run w i m);
  }
    where
      followed : AreFollowed f (x ++ run ++ w) None
      followed = AreLinked-followed link_map None (x ++ run ++ w) None chain.2

      once : AreDistinct (x ++ w)
      once = around_once x run w chain.1

      before : g first ≡ last_or x None
      before = run_prev (last_or x None) run w None is_run (AreLinked-right link_map None x (run ++ w) None (subst (λ (zs : List ℕ). AreLinked link_map None zs None) (append_assoc x run w) chain.2))

      after : f last ≡ first_or w None
      after = run_next run w None is_run (AreFollowed-right f x (run ++ w) None (subst (λ (zs : List ℕ). AreFollowed f zs None) (append_assoc x run w) followed))

      last_member : (i : ℕ) → last_or x None ≡ Some i → IsMember x i
      last_member i e = ⊎_elim (λ m. m) (λ (n : None ≡ Some i). absurd (cc)) (last_or-IsMember x None i e)

  taken_start : (x run w : List ℕ) → IsRun run first last → IsChain link_map (linear (x ++ run ++ w)) → (i : ℕ) → first_or (x ++ w) None ≡ Some i → k i ≡ None
  taken_start [] run w is_run chain i e =
      start_follows i (run_prev None run w None is_run chain.2) (run_next run w None is_run (AreLinked-followed link_map None (run ++ w) None chain.2) ∙ e)
  taken_start (y ∷ x) run w is_run chain i e =
      start_stays i (ap g (sym (one_some e)) ∙ ap prev_in chain.2.0)
      (λ s. chain.1.0 (subst (IsMember (x ++ run ++ w)) (sym s ∙ sym (one_some e)) (run_members x run w first (run_has_first run first last is_run))))

  taken_cyclic : (run w : List ℕ) → IsRun run first last → w ≢ [] → IsChain link_map (cyclic (run ++ w)) → IsRestOfChain b (HasLink link_map) run w (first_or w None)
  taken_cyclic run [] is_run filled chain = absurd (filled refl)
  taken_cyclic run (y ∷ w) is_run filled chain = record {
    followed = AreFollowed-redirected f b (y ∷ w) _ (Some y) once
        (λ i e. b_before i (before ∙ e) ∙ after)
        (λ i m ne. b_other i (λ at_i. ne (sym before ∙ at_i)))
        (AreFollowed-right f run (y ∷ w) _ followed);
    once = once;
    apart = λ i m n. AreDistinct-apart run (y ∷ w) i chain.1 m n;
    valid = λ i m. chain_valid link_map (cyclic (run ++ y ∷ w)) i chain (IsMember-right run (y ∷ w) i m);
  }
    where
      followed : AreFollowed f (run ++ y ∷ w) (first_or (run ++ y ∷ w) None)
      followed = AreLinked-followed link_map (last_or (run ++ y ∷ w) None) (run ++ y ∷ w) (first_or (run ++ y ∷ w) None) chain.2

      once : AreDistinct (y ∷ w)
      once = AreDistinct-right run (y ∷ w) chain.1

      before : g first ≡ last_or (y ∷ w) None
      before = run_prev (last_or (run ++ y ∷ w) None) run (y ∷ w) (first_or (run ++ y ∷ w) None) is_run chain.2 ∙ last_or-append run (y ∷ w) None

      after : f last ≡ Some y
      after = run_next run (y ∷ w) (first_or (run ++ y ∷ w) None) is_run followed

  other_rest : (c : Chain) (run : List ℕ) → IsChain link_map c → (IsMember (items c) first → ⊥) → ((i : ℕ) → IsMember run i → IsMember (items c) i → ⊥)
      → IsRestOfChain b (HasLink link_map) run (items c) (after_last c)
  other_rest c run chain no_first out = record {
    followed = AreFollowed-frame f b (items c) (after_last c)
        (λ i m. b_other i (λ at_i. no_first ((chain_closed link_map c chain).forward i first m ((agrees.both i first).1 at_i))))
        (AreLinked-followed link_map (before_first c) (items c) (after_last c) (chain_stored link_map c chain));
    once = chain_once link_map c chain;
    apart = out;
    valid = λ i m. chain_valid link_map c i chain m;
  }

  other_start : (xs : List ℕ) → IsChain link_map (linear xs) → (IsMember xs first → ⊥) → (i : ℕ) → first_or xs None ≡ Some i → k i ≡ None
  other_start [] chain no_first i e = absurd (chain.0 refl)
  other_start (x ∷ xs) chain no_first i e =
      start_stays i (ap g (sym (one_some e)) ∙ ap prev_in chain.2.0) (λ s. no_first (inl (one_some e ∙ s)))

  kept : (run xs : List ℕ) (after : Option ℕ) → IsRestOfChain b (HasLink link_map) run xs after → (IsMember xs p → ⊥) → (IsMember xs last → ⊥) → AreFollowed h xs after
  kept run xs after rest no_p no_last =
      AreFollowed-frame b h xs after (λ i m. h_other i (λ e. no_last (subst (IsMember xs) e m)) (λ e. no_p (subst (IsMember xs) e m))) rest.followed

  stays : (c : Chain) → (IsMember (items c) p → ⊥) → (IsMember (items c) first → ⊥) → (IsMember (items c) last → ⊥) → IsChain link_map c → IsChain new c
  stays (linear xs) no_p no_first no_last chain =
      let rest = other_rest (linear xs) [] chain no_first (λ i m n. m) in
      linear_chain xs chain.0 (kept [] xs None rest no_p no_last) rest.valid (other_start xs chain no_first)
  stays (cyclic xs) no_p no_first no_last chain =
      let rest = other_rest (cyclic xs) [] chain no_first (λ i m n. m) in
      cyclic_chain xs chain.0 chain.1 (kept [] xs (first_or xs None) rest no_p no_last) rest.valid

  out_of : (c d : Chain) (run : List ℕ) → IsChain link_map c → IsChain link_map d → HasRun c run → (IsMember (items c) p → ⊥) → IsMember (items d) p
      → (i : ℕ) → IsMember run i → IsMember (items d) i → ⊥
  out_of c d run chain other has no_p has_p i m n =
      no_p (chains_share link_map d c i p other chain n (subst (λ (xs : List ℕ). IsMember xs i) (sym has.2) (run_members has.0 run has.1 i m)) has_p)

  pub spliced_splices : Splices link_map new p first last
  spliced_splices = record {
    onward = λ x run z y is_run chain.
        let whole = subst (λ (zs : List ℕ). IsChain link_map (linear zs)) (append_assoc (x ++ run) z (p ∷ y)) chain in
        placed_linear (x ++ z) run y is_run (run_of (linear (x ++ run ++ (z ++ p ∷ y))) run whole (x, z ++ p ∷ y, refl))
        (subst (λ (zs : List ℕ). IsRestOfChain b (HasLink link_map) run zs None) (sym (append_assoc x z (p ∷ y))) (taken_linear x run (z ++ p ∷ y) is_run whole))
        (subst (λ (zs : List ℕ). (i : ℕ) → first_or zs None ≡ Some i → k i ≡ None) (sym (append_assoc x z (p ∷ y))) (taken_start x run (z ++ p ∷ y) is_run whole));
    backward = λ x z run y is_run chain.
        subst (λ (zs : List ℕ). IsChain new (linear zs)) (sym (append_assoc (x ++ p ∷ run) z y))
        (placed_linear x run (z ++ y) is_run (run_of (linear (x ++ p ∷ z ++ run ++ y)) run chain (x ++ p ∷ z, y, refl))
        (subst (λ (zs : List ℕ). IsRestOfChain b (HasLink link_map) run zs None) (append_assoc x (p ∷ z) y) (taken_linear (x ++ p ∷ z) run y is_run chain))
        (subst (λ (zs : List ℕ). (i : ℕ) → first_or zs None ≡ Some i → k i ≡ None) (append_assoc x (p ∷ z) y) (taken_start (x ++ p ∷ z) run y is_run chain)));
    around = λ run z y is_run chain.
        let whole = subst (λ (zs : List ℕ). IsChain link_map (cyclic zs)) (append_assoc run z (p ∷ y)) chain in
        placed_cyclic z run y is_run (run_of (cyclic (run ++ (z ++ p ∷ y))) run whole ([], z ++ p ∷ y, refl))
        (taken_cyclic run (z ++ p ∷ y) is_run (IsMember-filled _ p (IsMember-middle z y p)) whole);
    from_linear = λ x run y is_run chain no_p filled.
        let rest = taken_linear x run y is_run chain in
        linear_chain (x ++ y) filled
        (kept run (x ++ y) None rest (λ m. no_p (around_members x run y p m)) (λ m. rest.apart last (run_has_last run first last is_run) m))
        rest.valid (taken_start x run y is_run chain);
    from_cyclic = λ run y is_run chain no_p filled.
        let rest = taken_cyclic run y is_run filled chain in
        cyclic_chain y filled rest.once
        (kept run y (first_or y None) rest (λ m. no_p (IsMember-right run y p m)) (λ m. rest.apart last (run_has_last run first last is_run) m))
        rest.valid;
    to_linear = λ c run u w is_run chain has no_p other.
        let out = out_of c (linear (u ++ p ∷ w)) run chain other has no_p (IsMember-middle u w p) in
        let no_first = out first (run_has_first run first last is_run) in
        placed_linear u run w is_run (run_of c run chain has) (other_rest (linear (u ++ p ∷ w)) run other no_first out) (other_start (u ++ p ∷ w) other no_first);
    to_cyclic = λ c run u w is_run chain has no_p other.
        let out = out_of c (cyclic (u ++ p ∷ w)) run chain other has no_p (IsMember-middle u w p) in
        placed_cyclic u run w is_run (run_of c run chain has) (other_rest (cyclic (u ++ p ∷ w)) run other (out first (run_has_first run first last is_run)) out);
    rest = stays;
    links = HasLink-spliced link_map p first last agrees valid_p valid_first valid_last apart;
  }

pub splice_splices : SpliceSplices
splice_splices link_map p first last agrees valid_p valid_first valid_last apart = spliced_splices link_map p first last agrees valid_p valid_first valid_last apart
