-- A key leaves its set for a set of its own.
use Rattle.std.proofs.Common.{◌≡◌, ◌≢◌, ℕ, ◌-◌, ◌<◌, inl, inr, ⊎_elim, List, [], ◌∷◌, ◌++◌, length, length-append, Option, None, Some, refl, sym, ap, ◌∙◌, subst, arith}
use Rattle.std.specs.Prelude.{◌↔◌, ◌⊎◌, is_some, true}
use Rattle.std.specs.Option.{option_map, option_and_then}
use Rattle.std.proofs.lemmas.Bool.{cases_eq}
use Rattle.arena_traits.specs.Arena.{IsInserted, IsValid}
use Rattle.arena_traits.specs.Entries.{ArenaView, ArenaState, view_with_value}
use Rattle.arena_traits.specs.Growth.{GrowsForOneMore}
use Rattle.arena_traits.proofs.EntryChangeLemmas.{value_there, values_elsewhere}
use Rattle.chain_laws.specs.Chains.{LinkMap, cyclic, IsChain, IsMember, HasLink, IsWellLinked, prev_in, prev_of, next_of}
use Rattle.chain_laws.specs.Exchanges.{Exchanges}
use Rattle.chain_laws.proofs.ListLemmas.Members.{IsMember-filled, IsMember-right, IsMember-rotated, last_or-append}
use Rattle.chain_laws.proofs.ChainLemmas.MemberLaws.{rings_are_cyclic, members_are_links, chains_share_each}
use Rattle.chain_laws.proofs.ChainLemmas.Rotations.{rotated_to}
use Rattle.chain_laws.proofs.ExchangeLemmas.Merges.{same_length}
use Rattle.chain_links.specs.CallEffects.{ExchangesNext, IsExchanged}
use Rattle.chain_links.specs.ChainArena.{ptr_at}
use Rattle.surject_arena.specs.Partitions.{member, counted, member_view, counted_view, set_in, size_in, IsSet, IsPartition}
use Rattle.surject_arena.specs.Surjections.{map_view, IsKeyOf, HasValue}
use Rattle.surject_arena.specs.SetCalls.{IsAdded, IsKeySetApart}
use Rattle.surject_arena.specs.declared.members.Member.{Member}
use Rattle.surject_arena.specs.declared.members.Counted.{Counted}
use Rattle.surject_arena.proofs.OptionLemmas.{same_some, none_some, is_there}
use Rattle.surject_arena.proofs.ViewLemmas.{stored-each, written-each}
use Rattle.surject_arena.proofs.PartitionLemmas.{same_size}
use Rattle.surject_arena.proofs.SetReadLemmas.{seen, set_stored, of_key, has_value, size_read, size_stored}
use Rattle.surject_arena.proofs.SetChangeLemmas.{same_entries, value_written, sizes_elsewhere}
use Rattle.surject_arena.proofs.UnionLemmas.{exchange_made}

ends_in : (xs : List ℕ) → xs ≢ [] → (front : List ℕ) × (last : ℕ) × (xs ≡ front ++ last ∷ [])
ends_in [] filled = absurd (filled refl)
ends_in (x ∷ []) filled = ([], x, refl)
ends_in (x ∷ y ∷ xs) filled =
    let rest = ends_in (y ∷ xs) (IsMember-filled (y ∷ xs) y (inl refl)) in
    (x ∷ rest.0, rest.1, ap (λ (l : List ℕ). x ∷ l) rest.2)

module _ {A P Gen T : Type 0} (key : P → ℕ × Gen) {view : A → ArenaView Gen T} {entry : A → ℕ → Option (Gen × T)} (state : (a : A) → ArenaState (view a) (entry a)) (links : A → LinkMap)
    (linked : (a : A) (i : ℕ) → is_some (links a i) ≡ is_some (entry a i)) (a b : A) (p : P) (x : List ℕ) (j : ℕ) (agrees : IsWellLinked (links a)) (ring : IsChain (links a) (cyclic ((key p).0 ∷ x ++ j ∷ []))) where
  prev_is : prev_of (links a) (key p).0 ≡ Some j
  prev_is = ap prev_in ring.2.0 ∙ last_or-append x (j ∷ []) (Some (key p).0)

  pub before_there : (e : Gen × T) × (entry a j ≡ Some e)
  before_there =
      let has : HasLink (links a) j = members_are_links (links a) (cyclic ((key p).0 ∷ x ++ j ∷ [])) j ring (inr (IsMember-right x (j ∷ []) j (inl refl))) in
      is_there (entry a j) (sym (linked a j) ∙ ap is_some has.links)

  pub before_is : option_and_then (ptr_at (entry a)) (prev_of (links a) (key p).0) ≡ Some (j, before_there.0.0)
  before_is = ap (option_and_then (ptr_at (entry a))) prev_is ∙ ap (option_map (λ (e : Gen × T). let q : ℕ × Gen = (j, e.0) in q)) before_there.1

  pub left_ring : IsValid (entry a) (key p) → (q : P) → Some (key q) ≡ option_and_then (ptr_at (entry a)) (prev_of (links a) (key p).0) → (o : Option Unit) → ExchangesNext state links key a p q o b
      → IsExchanged state links a b (key p).0 j
  left_ring valid q is o exchanges =
      let same : key q ≡ (j, before_there.0.0) = same_some (key q) (j, before_there.0.0) (is ∙ before_is) in
      subst (λ (k : ℕ × Gen). IsExchanged state links a b (key p).0 k.0) same (exchange_made state links key a b p q o exchanges (record {
        first_valid = valid;
        second_valid = subst (IsValid (entry a)) (sym same) (record { value = before_there.0.1; stored = before_there.1 });
        first_next = ap is_some ((rings_are_cyclic (links a) ((key p).0 ∷ x ++ j ∷ []) (key p).0 ring (inl refl)).0).1;
        second_next = subst (λ (k : ℕ × Gen). is_some (next_of (links a) k.0) ≡ true) (sym same) (ap is_some ((agrees.both j (key p).0).1 prev_is));
      }))

module _ {Gen : Type 0} (set : ℕ → Option (ℕ × Gen)) (links : LinkMap) (size : ℕ → Option (Gen × ℕ)) (is : IsPartition set links size) (p : ℕ) (w : ℕ × Gen) (n : ℕ) (own : set p ≡ Some w) (was : size w.0 ≡ Some (w.1, n)) (many : 1 < n) where
  whole : IsSet set links w n
  whole = is.sets w n was

  pub ring : (front : List ℕ) × (last : ℕ) × IsChain links (cyclic (p ∷ front ++ last ∷ []))
  ring =
      let turned = rotated_to links whole.items p whole.chain ((whole.members p).1 own) in
      let as_long = same_length whole.items (p ∷ turned.0) whole.chain.1 turned.1.1 turned.2 in
      let end = ends_in turned.0 (λ nil. omega (arith, many, whole.size, as_long, ap length nil)) in
      (end.0, end.1, subst (λ (l : List ℕ). IsChain links (cyclic (p ∷ l))) end.2 turned.1)

  module _ (after : ℕ → Option (ℕ × Gen)) (changed : LinkMap) (resized : ℕ → Option (Gen × ℕ)) (v : ℕ × Gen) (front : List ℕ) (last : ℕ) (chain : IsChain links (cyclic (p ∷ front ++ last ∷ [])))
      (at : after p ≡ Some v) (rest : (i : ℕ) → i ≢ p → after i ≡ set i) (exchanges : Exchanges links changed p last) (unused : size v.0 ≡ None) (there : resized v.0 ≡ Some (v.1, 1))
      (fewer : resized w.0 ≡ Some (w.1, n - 1)) (others : (j : ℕ) → j ≢ v.0 → j ≢ w.0 → resized j ≡ size j) where
    in_ring : (i : ℕ) → IsMember whole.items i ↔ IsMember (p ∷ front ++ last ∷ []) i
    in_ring i = chains_share_each links (cyclic whole.items) (cyclic (p ∷ front ++ last ∷ [])) p i whole.chain chain ((whole.members p).1 own) (inl refl)

    as_many : length whole.items ≡ length (p ∷ front ++ last ∷ [])
    as_many = same_length whole.items (p ∷ front ++ last ∷ []) whole.chain.1 chain.1 in_ring

    parts : IsChain changed (cyclic (p ∷ [])) × IsChain changed (cyclic (last ∷ front))
    parts = exchanges.one_cyclic front [] chain

    unnamed : (i : ℕ) (u : ℕ × Gen) → set i ≡ Some u → u.0 ≢ v.0
    unnamed i u at_i same = let known = is.valued i u at_i in none_some (u.1, known.0) (size v.0) unused (ap size (sym same) ∙ known.1)

    new_or_old : (i : ℕ) (u : ℕ × Gen) → after i ≡ Some u → ((i ≡ p) × (u ≡ v)) ⊎ ((i ≢ p) × (set i ≡ Some u))
    new_or_old i u at_i = ⊎_elim (λ same. inl (same, same_some u v (sym at_i ∙ (ap after same ∙ at)))) (λ other. inr (other, sym (rest i other) ∙ at_i)) (cases_eq i p)

    alone : IsSet after changed v 1
    alone = record {
      items = p ∷ [];
      chain = parts.0;
      size = refl;
      members = λ i. (
        ⊎_elim (λ same. ap after (sym same) ∙ at) (λ none. absurd none),
        λ at_i. ⊎_elim (λ new. inl (sym new.0)) (λ old. absurd (unnamed i v old.1 refl)) (new_or_old i v at_i),
      );
    }

    left : IsSet after changed w (n - 1)
    left = record {
      items = last ∷ front;
      chain = parts.1;
      size = omega (arith, many, whole.size, as_many, length-append front (last ∷ []));
      members = λ i. (
        λ has.
            let in_rest : IsMember (front ++ last ∷ []) i = IsMember-rotated (last ∷ []) front i has in
            rest i (λ same. chain.1.0 (subst (IsMember (front ++ last ∷ [])) same in_rest)) ∙ (whole.members i).0 ((in_ring i).1 (inr in_rest)),
        λ at_i. ⊎_elim (λ new. absurd (unnamed p w own (ap (λ (y : ℕ × Gen). y.0) new.1))) (λ old.
            ⊎_elim (λ same. absurd (old.0 (sym same))) (λ has. IsMember-rotated front (last ∷ []) i has) ((in_ring i).0 ((whole.members i).1 old.1))) (new_or_old i w at_i),
      );
    }

    elsewhere : (u : ℕ × Gen) (m : ℕ) → u.0 ≢ v.0 → u.0 ≢ w.0 → IsSet set links u m → IsSet after changed u m
    elsewhere u m not_v not_w s =
        let outside : (i : ℕ) → set i ≡ Some w → IsMember s.items i → ⊥ = λ i at_w has. not_w (ap (λ (y : ℕ × Gen). y.0) (same_some u w (sym ((s.members i).0 has) ∙ at_w))) in
        let of_last : set last ≡ Some w = (whole.members last).0 ((in_ring last).1 (inr (IsMember-right front (last ∷ []) last (inl refl)))) in
        record {
          items = s.items;
          chain = (exchanges.rest (cyclic s.items) (outside p own) (outside last of_last)).0 s.chain;
          size = s.size;
          members = λ i. (
            λ has. rest i (λ same. outside p own (subst (IsMember s.items) same has)) ∙ (s.members i).0 has,
            λ at_i. ⊎_elim (λ new. absurd (not_v (ap (λ (y : ℕ × Gen). y.0) new.1))) (λ old. (s.members i).1 old.1) (new_or_old i u at_i),
          );
        }

    sized : (u : ℕ × Gen) (m : ℕ) → size u.0 ≡ Some (u.1, m) → u.0 ≢ v.0 → (k : ℕ) × (resized u.0 ≡ Some (u.1, k))
    sized u m known not_v = ⊎_elim
        (λ same. subst (λ (y : ℕ × Gen). (k : ℕ) × (resized y.0 ≡ Some (y.1, k))) (sym (same_size size u w m n same known was).0) (n - 1, fewer))
        (λ other. (m, others u.0 not_v other ∙ known))
        (cases_eq u.0 w.0)

    pub one_apart : IsPartition after changed resized
    one_apart = record {
      valued = λ i u at_i. ⊎_elim
          (λ new. subst (λ (y : ℕ × Gen). (k : ℕ) × (resized y.0 ≡ Some (y.1, k))) (sym new.1) (1, there))
          (λ old. let known = is.valued i u old.1 in sized u known.0 known.1 (unnamed i u old.1))
          (new_or_old i u at_i);
      sets = λ u m at_u. ⊎_elim
          (λ same. let known = same_size resized u v m 1 same at_u there in subst (λ (y : ℕ × Gen). IsSet after changed y m) (sym known.0) (subst (λ (k : ℕ). IsSet after changed v k) (sym known.1) alone))
          (λ not_v. ⊎_elim
          (λ same. let known = same_size resized u w m (n - 1) same at_u fewer in subst (λ (y : ℕ × Gen). IsSet after changed y m) (sym known.0) (subst (λ (k : ℕ). IsSet after changed w k) (sym known.1) left))
          (λ not_w. elsewhere u m not_v not_w (is.sets u m (sym (others u.0 not_v not_w) ∙ at_u)))
          (cases_eq u.0 w.0))
          (cases_eq u.0 v.0);
    }

module _ {A B P Gen K V : Type 0} (key : P → ℕ × Gen) {kview : A → ArenaView Gen (Member P K)} {kentry : A → ℕ → Option (Gen × Member P K)} (kstate : (a : A) → ArenaState (kview a) (kentry a)) (links : A → LinkMap)
    {vview : B → ArenaView Gen (Counted V)} {ventry : B → ℕ → Option (Gen × Counted V)} (vstate : (b : B) → ArenaState (vview b) (ventry b)) (a0 a1 a2 : A) (b0 b1 b2 : B) (r : ℕ)
    (is : IsPartition (set_in key (kentry a0)) (links a0) (size_in (ventry b0))) (p w v : P) (in_set : IsKeyOf (seen key kstate vstate a0 b0 r) (key w) (key p))
    (shared : (t : V) (n : ℕ) → HasValue (seen key kstate vstate a0 b0 r) (key w) t n → 1 < n) (n : ℕ) (reads : (m : ℕ) → size_in (ventry b0) (key w).0 ≡ Some ((key w).1, m) → n ≡ m) where
  in_w : IsValid (kentry a0) (key p) × (set_in key (kentry a0) (key p).0 ≡ Some (key w))
  in_w = of_key key kstate vstate a0 b0 r (key p) (key w) in_set

  value_w : (t : V) × (ventry b0 (key w).0 ≡ Some ((key w).1, counted t n))
  value_w = size_read key kstate vstate a0 b0 r (links a0) is (key p).0 (key w) n in_w.1 reads

  valued_w : HasValue (seen key kstate vstate a0 b0 r) (key w) value_w.0 n
  valued_w = has_value key kstate vstate a0 b0 r (key w) value_w.0 n value_w.1

  pub shares : 1 < n
  shares = shared value_w.0 n valued_w

  was_w : size_in (ventry b0) (key w).0 ≡ Some ((key w).1, n)
  was_w = size_stored (ventry b0) (key w).0 (key w).1 value_w.0 n value_w.1

  module _ (t : V) (inserted : IsInserted (ventry b0) (ventry b1) (key v) (counted t 1))
      (writes : (u : V) (m : ℕ) → ventry b1 (key w).0 ≡ Some ((key w).1, counted u m) → vview b2 ≡ view_with_value (vview b1) (key w).0 (counted u (n - 1)))
      (puts : (m : Member P K) → kentry a0 (key p).0 ≡ Some ((key p).1, m) → (kview a1 ≡ view_with_value (kview a0) (key p).0 (member m.key v)) × (links a1 ≡ links a0))
      (leaves : (x : List ℕ) (j : ℕ) → IsValid (kentry a1) (key p) → IsChain (links a1) (cyclic ((key p).0 ∷ x ++ j ∷ [])) → IsExchanged kstate links a1 a2 (key p).0 j) where
    abbrev m : Member P K
    m = in_w.0.value

    put : (kview a1 ≡ view_with_value (kview a0) (key p).0 (member m.key v)) × (links a1 ≡ links a0)
    put = puts m in_w.0.stored

    stored : kentry a1 (key p).0 ≡ Some ((key p).1, member m.key v)
    stored = value_there kstate a0 a1 (key p).0 (member m.key v) put.0 ∙ ap (option_map (λ e. (e.0, member m.key v))) in_w.0.stored

    around : (front : List ℕ) × (last : ℕ) × IsChain (links a0) (cyclic ((key p).0 ∷ front ++ last ∷ []))
    around = ring (set_in key (kentry a0)) (links a0) (size_in (ventry b0)) is (key p).0 (key w) n in_w.1 was_w shares

    made : IsExchanged kstate links a1 a2 (key p).0 around.1
    made = leaves around.0 around.1 (record { value = member m.key v; stored = stored }) (subst (λ (l : LinkMap). IsChain l (cyclic ((key p).0 ∷ around.0 ++ around.1 ∷ []))) (sym put.1) around.2)

    exchanged : Exchanges (links a0) (links a2) (key p).0 around.1
    exchanged = subst (λ (l : LinkMap). Exchanges l (links a2) (key p).0 around.1) put.1 made.chains

    same : (i : ℕ) → kentry a2 i ≡ kentry a1 i
    same = same_entries kstate a1 a2 (ap (λ (s : ArenaView Gen (Member P K)). s.entries) made.view_after)

    differ : (key v).0 ≢ (key w).0
    differ equal = none_some ((key w).1, counted value_w.0 n) (ventry b0 (key v).0) inserted.free (ap (ventry b0) equal ∙ value_w.1)

    stored_w : ventry b1 (key w).0 ≡ Some ((key w).1, counted value_w.0 n)
    stored_w = inserted.rest (key w).0 (λ equal. differ (sym equal)) ∙ value_w.1

    written : vview b2 ≡ view_with_value (vview b1) (key w).0 (counted value_w.0 (n - 1))
    written = writes value_w.0 n stored_w

    pub partition_apart : IsPartition (set_in key (kentry a2)) (links a2) (size_in (ventry b2))
    partition_apart = one_apart (set_in key (kentry a0)) (links a0) (size_in (ventry b0)) is (key p).0 (key w) n in_w.1 was_w shares
        (set_in key (kentry a2)) (links a2) (size_in (ventry b2)) (key v) around.0 around.1 around.2
        (set_stored key (kentry a2) (key p).0 (key p).1 (member m.key v) (same (key p).0 ∙ stored))
        (λ i other. ap (option_map (λ e. key e.1.set)) (same i ∙ values_elsewhere kstate a0 a1 (key p).0 (member m.key v) put.0 i other))
        exchanged
        (ap (option_map (λ e. (e.0, e.1.size))) inserted.free)
        (sizes_elsewhere vstate b1 b2 (key w) value_w.0 (n - 1) written (key v).0 differ ∙ size_stored (ventry b1) (key v).0 (key v).1 t 1 inserted.stored)
        (size_stored (ventry b2) (key w).0 (key w).1 value_w.0 (n - 1) (value_written vstate b1 b2 (key w) value_w.0 value_w.0 n (n - 1) written stored_w))
        (λ j not_v not_w. sizes_elsewhere vstate b1 b2 (key w) value_w.0 (n - 1) written j not_w ∙ ap (option_map (λ e. (e.0, e.1.size))) (inserted.rest j not_v))

    values_after : map_view counted_view (vview b2) ≡ view_with_value (map_view counted_view (vview b1)) (key w).0 (value_w.0, n - 1)
    values_after = ap (map_view counted_view) written ∙ written-each counted_view (vview b1) (key w).0 (counted value_w.0 (n - 1))

    pub key_set_apart : IsAdded (map_view counted_view (vview b0)) (t, 1) (key v) (map_view counted_view (vview b1)) → IsKeySetApart (seen key kstate vstate a0 b0 r) (seen key kstate vstate a2 b2 r) (key p) t
    key_set_apart added = record {
      set = key w;
      own = key v;
      key = m.key;
      stored = stored-each (member_view key) kstate a0 (key p).0 (key p).1 m in_w.0.stored ∙ ap (λ (u : ℕ × Gen). Some ((key p).1, (m.key, u))) (same_some (key m.set) (key w) (sym (set_stored key (kentry a0) (key p).0 (key p).1 m in_w.0.stored) ∙ in_w.1));
      keys = ap (map_view (member_view key)) (made.view_after ∙ put.0) ∙ written-each (member_view key) (kview a0) (key p).0 (member m.key v);
      value = value_w.0;
      size = n;
      valued = valued_w;
      shared = shares;
      grown = map_view counted_view (vview b1);
      added = added;
      values = values_after;
      redirected = refl;
    }

    pub grows_apart : (greatest : ℕ) → GrowsForOneMore greatest (map_view counted_view (vview b0)) (map_view counted_view (vview b1)) → GrowsForOneMore greatest (map_view counted_view (vview b0)) (map_view counted_view (vview b2))
    grows_apart greatest grows = subst (λ (s : ArenaView Gen (V × ℕ)). GrowsForOneMore greatest (map_view counted_view (vview b0)) s) (sym values_after) grows
