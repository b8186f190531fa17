-- Changes of one set, or of two that become one, while every other set stays.
use Rattle.std.proofs.Common.{◌≡◌, ◌≢◌, ℕ, ◌+◌, ◌-◌, ◌<◌, ◌≤◌, inl, inr, ⊎_elim, List, [], ◌∷◌, ◌++◌, length, length-append, Option, None, Some, refl, sym, ap, ◌∙◌, subst, arith}
use Rattle.std.specs.Prelude.{◌↔◌, ◌⊎◌}
use Rattle.std.proofs.lemmas.Bool.{cases_eq}
use Rattle.chain_laws.specs.Chains.{LinkMap, cyclic, IsChain, IsMember, AreDistinct, IsWellLinked, next_of}
use Rattle.chain_laws.specs.Insertions.{Inserts}
use Rattle.chain_laws.specs.declared.insert_kind.InsertKind.TheVariants.{NextTo}
use Rattle.chain_laws.specs.Removals.{Removes}
use Rattle.chain_laws.specs.Exchanges.{Exchanges}
use Rattle.chain_laws.proofs.ListLemmas.Members.{IsMember-written, IsMember-or_not, IsMember-parts, AreDistinct-append}
use Rattle.chain_laws.proofs.ListLemmas.MemberLaws.{member_in_middle, once_in_middle}
use Rattle.chain_laws.proofs.ChainLemmas.Frame.{insertion_keeps_others}
use Rattle.chain_laws.proofs.InsertionLemmas.Growth.{insertion_grows_the_chain}
use Rattle.chain_laws.proofs.ExchangeLemmas.Merges.{merged_cycle_has_both}
use Rattle.chain_laws.proofs.WalkLemmas.WalkBack.{length_among}
use Rattle.surject_arena.specs.Partitions.{IsSet, IsPartition}
use Rattle.surject_arena.proofs.OptionLemmas.{same_some, none_some}

module _ {Gen : Type 0} where
  pub name_is : (u w : ℕ × Gen) → u.0 ≡ w.0 → u.1 ≡ w.1 → u ≡ w
  name_is u w index generation = subst (λ (i : ℕ). u ≡ (i, w.1)) index (subst (λ (g : Gen). u ≡ (u.0, g)) generation refl)

  pub same_size : (size : ℕ → Option (Gen × ℕ)) (u w : ℕ × Gen) (m n : ℕ) → u.0 ≡ w.0 → size u.0 ≡ Some (u.1, m) → size w.0 ≡ Some (w.1, n) → (u ≡ w) × (m ≡ n)
  same_size size u w m n same at_u at_w =
      let pair : (u.1, m) ≡ (w.1, n) = same_some (u.1, m) (w.1, n) (sym at_u ∙ (ap size same ∙ at_w)) in
      (name_is u w same (ap (λ (e : Gen × ℕ). e.0) pair), ap (λ (e : Gen × ℕ). e.1) pair)

module _ {Gen : Type 0} (set after : ℕ → Option (ℕ × Gen)) (links changed : LinkMap) (size resized : ℕ → Option (Gen × ℕ)) (is : IsPartition set links size) where
  pub record KeepsOthers (v w : ℕ × Gen) : Type 0 where
    pub members : (i : ℕ) (u : ℕ × Gen) → after i ≡ Some u → (u ≡ v) ⊎ ((set i ≡ Some u) × (u.0 ≢ v.0) × (u.0 ≢ w.0))
    pub stay : (i : ℕ) (u : ℕ × Gen) → u.0 ≢ v.0 → u.0 ≢ w.0 → set i ≡ Some u → after i ≡ Some u
    pub chains : (u : ℕ × Gen) (n : ℕ) (s : IsSet set links u n) → u.0 ≢ v.0 → u.0 ≢ w.0 → IsChain changed (cyclic s.items)
    pub sizes : (j : ℕ) → j ≢ v.0 → j ≢ w.0 → resized j ≡ size j
    pub dropped : v.0 ≢ w.0 → resized w.0 ≡ None

  abbrev pub IsLeft : ℕ × Gen → Type 0
  IsLeft v = ((m : ℕ) × (resized v.0 ≡ Some (v.1, m)) × IsSet after changed v m) ⊎ ((resized v.0 ≡ None) × ((i : ℕ) → after i ≢ Some v))

  pub changed_partition : (v w : ℕ × Gen) → KeepsOthers v w → IsLeft v → IsPartition after changed resized
  changed_partition v w keeps left = record { valued = valued; sets = sets }
    where
      sized : IsLeft v → (i : ℕ) → after i ≡ Some v → (n : ℕ) × (resized v.0 ≡ Some (v.1, n))
      sized (inl has) i own = (has.0, has.1)
      sized (inr none) i own = absurd (none.1 i own)

      valued : (i : ℕ) (u : ℕ × Gen) → after i ≡ Some u → (n : ℕ) × (resized u.0 ≡ Some (u.1, n))
      valued i u own = by (keeps.members i u own)
        where
          by : (u ≡ v) ⊎ ((set i ≡ Some u) × (u.0 ≢ v.0) × (u.0 ≢ w.0)) → (n : ℕ) × (resized u.0 ≡ Some (u.1, n))
          by (inl same) = subst (λ (x : ℕ × Gen). (n : ℕ) × (resized x.0 ≡ Some (x.1, n))) (sym same) (sized left i (own ∙ ap (λ (x : ℕ × Gen). Some x) same))
          by (inr old) = let known = is.valued i u old.0 in (known.0, keeps.sizes u.0 old.1 old.2 ∙ known.1)

      of_v : IsLeft v → (u : ℕ × Gen) (n : ℕ) → u.0 ≡ v.0 → resized u.0 ≡ Some (u.1, n) → IsSet after changed u n
      of_v (inl has) u n same at =
          let known = same_size resized u v n has.0 same at has.1 in
          subst (λ (x : ℕ × Gen). IsSet after changed x n) (sym known.0) (subst (λ (m : ℕ). IsSet after changed v m) (sym known.1) has.2)
      of_v (inr none) u n same at = absurd (none_some (u.1, n) (resized v.0) none.0 (ap resized (sym same) ∙ at))

      other : (u : ℕ × Gen) (n : ℕ) → u.0 ≢ v.0 → u.0 ≢ w.0 → IsSet set links u n → IsSet after changed u n
      other u n not_v not_w s = record {
        items = s.items;
        chain = keeps.chains u n s not_v not_w;
        size = s.size;
        members = λ i. (
          λ has. keeps.stay i u not_v not_w ((s.members i).0 has),
          λ own. ⊎_elim (λ same. absurd (not_v (ap (λ (x : ℕ × Gen). x.0) same))) (λ old. (s.members i).1 old.0) (keeps.members i u own),
        );
      }

      sets : (u : ℕ × Gen) (n : ℕ) → resized u.0 ≡ Some (u.1, n) → IsSet after changed u n
      sets u n at = by (cases_eq u.0 v.0) (cases_eq u.0 w.0)
        where
          by : (u.0 ≡ v.0) ⊎ (u.0 ≡ v.0 → ⊥) → (u.0 ≡ w.0) ⊎ (u.0 ≡ w.0 → ⊥) → IsSet after changed u n
          by (inl same) any = of_v left u n same at
          by (inr not_v) (inl same) = absurd (none_some (u.1, n) (resized w.0) (keeps.dropped (λ both. not_v (same ∙ sym both))) (ap resized (sym same) ∙ at))
          by (inr not_v) (inr not_w) = other u n not_v not_w (is.sets u n (sym (keeps.sizes u.0 not_v not_w) ∙ at))

  apart : (u w : ℕ × Gen) (n i : ℕ) (s : IsSet set links u n) → u.0 ≢ w.0 → set i ≡ Some w → IsMember s.items i → ⊥
  apart u w n i s other own has = other (ap (λ (x : ℕ × Gen). x.0) (same_some u w (sym ((s.members i).0 has) ∙ own)))

  outside : (u : ℕ × Gen) (n i : ℕ) (s : IsSet set links u n) → set i ≡ None → IsMember s.items i → ⊥
  outside u n i s free has = none_some u (set i) free ((s.members i).0 has)

  module _ (p : ℕ) (w : ℕ × Gen) (free : set p ≡ None) (at : after p ≡ Some w) (rest : (i : ℕ) → i ≢ p → after i ≡ set i) (others : (j : ℕ) → j ≢ w.0 → resized j ≡ size j) where
    old_key : (i : ℕ) (u : ℕ × Gen) → set i ≡ Some u → after i ≡ Some u
    old_key i u own = rest i (λ same. none_some u (set p) free (ap set (sym same) ∙ own)) ∙ own

    joined_members : ((i : ℕ) (u : ℕ × Gen) → set i ≡ Some u → (u ≡ w) ⊎ (u.0 ≢ w.0)) → (i : ℕ) (u : ℕ × Gen) → after i ≡ Some u → (u ≡ w) ⊎ ((set i ≡ Some u) × (u.0 ≢ w.0) × (u.0 ≢ w.0))
    joined_members known i u own = by (cases_eq i p)
      where
        by : (i ≡ p) ⊎ (i ≡ p → ⊥) → (u ≡ w) ⊎ ((set i ≡ Some u) × (u.0 ≢ w.0) × (u.0 ≢ w.0))
        by (inl same) = inl (same_some u w (sym own ∙ (ap after same ∙ at)))
        by (inr other) = let old = sym (rest i other) ∙ own in ⊎_elim (λ same. inl same) (λ differs. inr (old, differs, differs)) (known i u old)

    pub alone_added : Inserts links changed p (Some p) (Some p) → size w.0 ≡ None → resized w.0 ≡ Some (w.1, 1) → IsPartition after changed resized
    alone_added inserts unused there = changed_partition w w (record {
      members = joined_members (λ i u own. inr (differs i u own));
      stay = λ i u not_v not_w own. old_key i u own;
      chains = λ u n s not_v not_w. let no = outside u n p s free in (inserts.rest (cyclic s.items) no no no).0 s.chain;
      sizes = λ j not_v not_w. others j not_v;
      dropped = λ differ. absurd (differ refl);
    }) (inl (1, there, record { items = p ∷ []; chain = inserts.ring refl refl; size = refl; members = only }))
      where
        differs : (i : ℕ) (u : ℕ × Gen) → set i ≡ Some u → u.0 ≢ w.0
        differs i u own same = let known = is.valued i u own in none_some (u.1, known.0) (size w.0) unused (ap size (sym same) ∙ known.1)

        only : (i : ℕ) → IsMember (p ∷ []) i ↔ (after i ≡ Some w)
        only i = (
          ⊎_elim (λ same. ap after (sym same) ∙ at) (λ none. absurd none),
          λ own. ⊎_elim (λ same. inl (sym same)) (λ other. absurd (differs i w (sym (rest i other) ∙ own) refl)) (cases_eq i p),
        )

    pub beside_added : (q n : ℕ) → IsWellLinked links → links p ≡ None → set q ≡ Some w → Inserts links changed p (Some q) (next_of links q) → size w.0 ≡ Some (w.1, n) → resized w.0 ≡ Some (w.1, n + 1) → IsPartition after changed resized
    beside_added q n agrees unlinked own_q inserts was there = changed_partition w w (record {
      members = joined_members named;
      stay = λ i u not_v not_w own. old_key i u own;
      chains = λ u m s not_v not_w. insertion_keeps_others ℕ ℕ (λ i. i) (λ i. i) links changed (NextTo q) p agrees unlinked inserts (cyclic s.items) (apart u w m q s not_v own_q, tt) s.chain;
      sizes = λ j not_v not_w. others j not_v;
      dropped = λ differ. absurd (differ refl);
    }) (inl (n + 1, there, grown))
      where
        named : (i : ℕ) (u : ℕ × Gen) → set i ≡ Some u → (u ≡ w) ⊎ (u.0 ≢ w.0)
        named i u own = let known = is.valued i u own in ⊎_elim (λ same. inl (same_size size u w known.0 n same known.1 was).0) (λ differs. inr differs) (cases_eq u.0 w.0)

        grown : IsSet after changed w (n + 1)
        grown =
            let s = is.sets w n was in
            let more = ((insertion_grows_the_chain links changed q p).0 inserts s.items ((s.members q).1 own_q)).1 s.chain in
            record {
              items = more.grown;
              chain = more.chain;
              size = more.size ∙ ap (λ (m : ℕ). m + 1) s.size;
              members = λ i. (
                λ has. ⊎_elim (λ same. ap after same ∙ at) (λ had. old_key i w ((s.members i).0 had)) ((more.members i).0 has),
                λ own. (more.members i).1 (⊎_elim (λ same. inl same) (λ other. inr ((s.members i).1 (sym (rest i other) ∙ own))) (cases_eq i p)),
              );
            }

  module _ (p : ℕ) (w : ℕ × Gen) (n : ℕ) (own : set p ≡ Some w) (gone : after p ≡ None) (rest : (i : ℕ) → i ≢ p → after i ≡ set i) (removes : Removes links changed p)
      (was : size w.0 ≡ Some (w.1, n)) (others : (j : ℕ) → j ≢ w.0 → resized j ≡ size j) where
    still : (i : ℕ) (u : ℕ × Gen) → after i ≡ Some u → (i ≢ p) × (set i ≡ Some u)
    still i u at =
        let other : i ≢ p = λ same. none_some u (after p) gone (ap after (sym same) ∙ at) in
        (other, sym (rest i other) ∙ at)

    keeps : KeepsOthers w w
    keeps = record {
      members = λ i u at.
          let old = still i u at in
          let known = is.valued i u old.1 in
          ⊎_elim (λ same. inl (same_size size u w known.0 n same known.1 was).0) (λ differs. inr (old.1, differs, differs)) (cases_eq u.0 w.0);
      stay = λ i u not_v not_w at. rest i (λ same. not_v (ap (λ (x : ℕ × Gen). x.0) (same_some u w (sym at ∙ (ap set same ∙ own))))) ∙ at;
      chains = λ u m s not_v not_w. removes.rest (cyclic s.items) (apart u w m p s not_v own) s.chain;
      sizes = λ j not_v not_w. others j not_v;
      dropped = λ differ. absurd (differ refl);
    }

    only_one : (xs : List ℕ) (a b : ℕ) → length xs ≤ 1 → IsMember xs a → IsMember xs b → b ≡ a
    only_one [] a b few has_a has_b = absurd has_a
    only_one (x ∷ []) a b few (inl is_a) (inl is_b) = sym is_b ∙ is_a
    only_one (x ∷ []) a b few (inr has_a) has_b = absurd has_a
    only_one (x ∷ []) a b few (inl is_a) (inr has_b) = absurd has_b
    only_one (x ∷ y ∷ xs) a b few has_a has_b = absurd (omega (arith, few))

    pub last_taken : n ≤ 1 → resized w.0 ≡ None → IsPartition after changed resized
    last_taken few none = changed_partition w w keeps (inr (
      none,
      λ i at.
          let s = is.sets w n was in
          let old = still i w at in
          old.0 (only_one s.items p i (omega (arith, few, s.size)) ((s.members p).1 own) ((s.members i).1 old.1)),
    ))

    pub one_taken : 1 < n → resized w.0 ≡ Some (w.1, n - 1) → IsPartition after changed resized
    one_taken many there = changed_partition w w keeps (inl (n - 1, there, shrunk (is.sets w n was)))
      where
        without : (s : IsSet set links w n) (before more : List ℕ) → s.items ≡ before ++ p ∷ more → IsSet after changed w (n - 1)
        without s before more written =
            let once = (once_in_middle before more p).0 (subst AreDistinct written s.chain.1) in
            record {
              items = before ++ more;
              chain = removes.from_cyclic before more (subst (λ (l : List ℕ). IsChain links (cyclic l)) written s.chain) (λ nil. omega (arith, many, s.size, ap length written, length-append before (p ∷ more), length-append before more, ap length nil));
              size = omega (arith, many, s.size, ap length written, length-append before (p ∷ more), length-append before more);
              members = λ i. (
                λ has. rest i (λ same. once.0 (subst (IsMember (before ++ more)) same has)) ∙ (s.members i).0 (subst (λ (l : List ℕ). IsMember l i) (sym written) ((member_in_middle before more p i).1 (inr has))),
                λ at. let old = still i w at in ⊎_elim (λ same. absurd (old.0 same)) (λ has. has) ((member_in_middle before more p i).0 (subst (λ (l : List ℕ). IsMember l i) written ((s.members i).1 old.1))),
              );
            }

        shrunk : IsSet set links w n → IsSet after changed w (n - 1)
        shrunk s = let split = IsMember-written s.items p ((s.members p).1 own) in without s split.0 split.1 split.2

  module _ (p q : ℕ) (v w : ℕ × Gen) (n m : ℕ) (at_p : set p ≡ Some v) (at_q : set q ≡ Some w) (differ : v ≢ w) (moved : (i : ℕ) → set i ≡ Some w → after i ≡ Some v)
      (kept : (i : ℕ) → set i ≢ Some w → after i ≡ set i) (exchanges : Exchanges links changed p q) (was_v : size v.0 ≡ Some (v.1, n)) (was_w : size w.0 ≡ Some (w.1, m))
      (now_v : resized v.0 ≡ Some (v.1, n + m)) (now_w : resized w.0 ≡ None) (others : (j : ℕ) → j ≢ v.0 → j ≢ w.0 → resized j ≡ size j) where
    of_w : (i : ℕ) → (set i ≡ Some w) ⊎ (set i ≢ Some w)
    of_w i = let s = is.sets w m was_w in ⊎_elim (λ has. inl ((s.members i).0 has)) (λ has_not. inr (λ own. has_not ((s.members i).1 own))) (IsMember-or_not s.items i)

    not_of_w : (i : ℕ) (u : ℕ × Gen) → set i ≡ Some u → u.0 ≢ w.0 → set i ≢ Some w
    not_of_w i u own other at = other (ap (λ (x : ℕ × Gen). x.0) (same_some u w (sym own ∙ at)))

    pub sets_joined : IsPartition after changed resized
    sets_joined = changed_partition v w (record {
      members = members;
      stay = λ i u not_v not_w own. kept i (not_of_w i u own not_w) ∙ own;
      chains = λ u k s not_v not_w. (exchanges.rest (cyclic s.items) (apart u v k p s not_v at_p) (apart u w k q s not_w at_q)).0 s.chain;
      sizes = others;
      dropped = λ apart. now_w;
    }) (inl (n + m, now_v, joined))
      where
        named : (i : ℕ) (u : ℕ × Gen) → set i ≡ Some u → set i ≢ Some w → (u ≡ v) ⊎ ((set i ≡ Some u) × (u.0 ≢ v.0) × (u.0 ≢ w.0))
        named i u own not_w =
            let known = is.valued i u own in
            ⊎_elim (λ same. inl (same_size size u v known.0 n same known.1 was_v).0)
            (λ other. inr (own, other, λ same. not_w (own ∙ ap (λ (x : ℕ × Gen). Some x) (same_size size u w known.0 m same known.1 was_w).0))) (cases_eq u.0 v.0)

        members : (i : ℕ) (u : ℕ × Gen) → after i ≡ Some u → (u ≡ v) ⊎ ((set i ≡ Some u) × (u.0 ≢ v.0) × (u.0 ≢ w.0))
        members i u at = ⊎_elim (λ own. inl (same_some u v (sym at ∙ moved i own))) (λ not_w. named i u (sym (kept i not_w) ∙ at) not_w) (of_w i)

        joined : IsSet after changed v (n + m)
        joined =
            let s = is.sets v n was_v in
            let t = is.sets w m was_w in
            let both = merged_cycle_has_both links changed p q s.items t.items exchanges s.chain t.chain ((s.members p).1 at_p) ((t.members q).1 at_q) (λ has. differ (same_some v w (sym ((s.members q).0 has) ∙ at_q))) in
            record {
              items = both.merged;
              chain = both.chain;
              size = omega (arith, both.size, s.size, t.size);
              members = λ i. (
                λ has. ⊎_elim (λ in_s. let own = (s.members i).0 in_s in kept i (λ at. differ (same_some v w (sym own ∙ at))) ∙ own) (λ in_t. moved i ((t.members i).0 in_t)) ((both.members i).0 has),
                λ at. (both.members i).1 (⊎_elim (λ own. inr ((t.members i).1 own)) (λ not_w. inl ((s.members i).1 (sym (kept i not_w) ∙ at))) (of_w i)),
              );
            }

module _ {Gen : Type 0} (set : ℕ → Option (ℕ × Gen)) (links : LinkMap) (all : List ℕ) (listed : (i : ℕ) (u : ℕ × Gen) → set i ≡ Some u → IsMember all i) where
  pub set_fits : (w : ℕ × Gen) (n : ℕ) → IsSet set links w n → n ≤ length all
  set_fits w n s =
      let few = length_among s.items all s.chain.1 (λ i has. listed i w ((s.members i).0 has)) in
      omega (arith, few, s.size)

  pub sets_fit : (v w : ℕ × Gen) (n m : ℕ) → IsSet set links v n → IsSet set links w m → v ≢ w → n + m ≤ length all
  sets_fit v w n m s t differ =
      let once = AreDistinct-append s.items t.items s.chain.1 t.chain.1 (λ i one two. differ (same_some v w (sym ((s.members i).0 one) ∙ (t.members i).0 two))) in
      let few = length_among (s.items ++ t.items) all once (λ i h. ⊎_elim (λ one. listed i v ((s.members i).0 one)) (λ two. listed i w ((t.members i).0 two)) (IsMember-parts s.items t.items i h)) in
      omega (arith, few, length-append s.items t.items, s.size, t.size)
