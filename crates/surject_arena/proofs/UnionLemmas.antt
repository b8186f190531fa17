-- Two sets become one: keys are redirected, two cycles are merged, and one value is removed.
use Rattle.std.proofs.Common.{◌≡◌, ◌≢◌, ℕ, ◌+◌, ◌-◌, ◌^◌, ◌≤◌, map, min, Option, None, Some, sym, ap, ◌∙◌, subst}
use Rattle.std.specs.Prelude.{is_some, true}
use Rattle.arena_traits.specs.Arena.{IsValid}
use Rattle.arena_traits.specs.Entries.{ArenaView, ArenaState, count, index_of, view_with_value, view_after_removal}
use Rattle.arena_traits.proofs.EntryChangeLemmas.{values_elsewhere}
use Rattle.chain_laws.specs.Chains.{LinkMap, next_of}
use Rattle.chain_laws.specs.Exchanges.{Exchanges}
use Rattle.chain_links.specs.CallEffects.{ExchangesNext, IsExchanged}
use Rattle.chain_links.specs.ChainArena.{CanExchange}
use Rattle.surject_arena.specs.Partitions.{counted, member_view, counted_view, set_in, size_in, IsSet, IsPartition, AreRedirected, IsRedirection}
use Rattle.surject_arena.specs.Surjections.{map_view, IsKeyOf, HasValue}
use Rattle.surject_arena.specs.SetCalls.{IsAbsorbed}
use Rattle.surject_arena.specs.declared.members.Member.{Member}
use Rattle.surject_arena.specs.declared.members.Counted.{Counted}
use Rattle.surject_arena.proofs.OptionLemmas.{same_some, none_some}
use Rattle.surject_arena.proofs.ViewLemmas.{with_entries, index-each, removed-each, written-each}
use Rattle.surject_arena.proofs.PartitionLemmas.{same_size, sets_joined}
use Rattle.surject_arena.proofs.SetReadLemmas.{seen, set_seen, key_seen, of_key, has_value, size_read, sizes_fit, has_next, size_stored}
use Rattle.surject_arena.proofs.SetChangeLemmas.{same_entries, value_written, sizes_elsewhere, value_gone, sizes_kept}
use Rattle.surject_arena.proofs.RedirectLemmas.{moved, stayed, keys_stayed, still_valid}

pub exchange_made : {A Gen T P : Type 0} {view : A → ArenaView Gen T} {entry : A → ℕ → Option (Gen × T)} (state : (a : A) → ArenaState (view a) (entry a)) (links : A → LinkMap) (key : P → ℕ × Gen) (a b : A) (p q : P) (o : Option Unit)
    → ExchangesNext state links key a p q o b → CanExchange (entry a) (links a) (key p) (key q) → IsExchanged state links a b (key p).0 (key q).0
exchange_made state links key a b p q None is can = absurd (is can)
exchange_made state links key a b p q (Some done) is can = is.1

module _ {A B P Gen K V : Type 0} (key : P → ℕ × Gen) (following : Gen → Gen) {kview : A → ArenaView Gen (Member P K)} {kentry : A → ℕ → Option (Gen × Member P K)} (kstate : (a : A) → ArenaState (kview a) (kentry a)) (links : A → LinkMap)
    {vview : B → ArenaView Gen (Counted V)} {ventry : B → ℕ → Option (Gen × Counted V)} (vstate : (b : B) → ArenaState (vview b) (ventry b)) (a0 a1 a2 : A) (b0 b1 b2 : B) (r : ℕ)
    (is : IsPartition (set_in key (kentry a0)) (links a0) (size_in (ventry b0))) (p q v w : P) (first : IsKeyOf (seen key kstate vstate a0 b0 r) (key v) (key p)) (second : IsKeyOf (seen key kstate vstate a0 b0 r) (key w) (key q)) (differ : key v ≢ key w)
    (n m : ℕ) (reads_n : (x : ℕ) → size_in (ventry b0) (key v).0 ≡ Some ((key v).1, x) → n ≡ x) (reads_m : (x : ℕ) → size_in (ventry b0) (key w).0 ≡ Some ((key w).1, x) → m ≡ x) where
  in_v : IsValid (kentry a0) (key p) × (set_in key (kentry a0) (key p).0 ≡ Some (key v))
  in_v = of_key key kstate vstate a0 b0 r (key p) (key v) first

  in_w : IsValid (kentry a0) (key q) × (set_in key (kentry a0) (key q).0 ≡ Some (key w))
  in_w = of_key key kstate vstate a0 b0 r (key q) (key w) second

  value_v : (t : V) × (ventry b0 (key v).0 ≡ Some ((key v).1, counted t n))
  value_v = size_read key kstate vstate a0 b0 r (links a0) is (key p).0 (key v) n in_v.1 reads_n

  value_w : (t : V) × (ventry b0 (key w).0 ≡ Some ((key w).1, counted t m))
  value_w = size_read key kstate vstate a0 b0 r (links a0) is (key q).0 (key w) m in_w.1 reads_m

  pub both_fit : n + m ≤ count (kview a0)
  both_fit = sizes_fit key kstate vstate a0 b0 r (links a0) is (key v) (key w) value_v.0 value_w.0 n m value_v.1 value_w.1 differ

  was_v : size_in (ventry b0) (key v).0 ≡ Some ((key v).1, n)
  was_v = size_stored (ventry b0) (key v).0 (key v).1 value_v.0 n value_v.1

  was_w : size_in (ventry b0) (key w).0 ≡ Some ((key w).1, m)
  was_w = size_stored (ventry b0) (key w).0 (key w).1 value_w.0 m value_w.1

  apart : (key v).0 ≢ (key w).0
  apart same = differ (same_size (size_in (ventry b0)) (key v) (key w) n m same was_v was_w).0

  set_w : IsSet (set_in key (kentry a0)) (links a0) (key w) m
  set_w = is.sets (key w) m was_w

  module _ (redirection : IsRedirection kstate links key a0 q v a1) (e : Option Unit) (exchanges : ExchangesNext kstate links key a1 p q e a2)
      (writes : (t : V) (x : ℕ) → ventry b0 (key v).0 ≡ Some ((key v).1, counted t x) → vview b1 ≡ view_with_value (vview b0) (key v).0 (counted t (n + m))) (o : Option V)
      (takes : (t : V) (x : ℕ) → ventry b1 (key w).0 ≡ Some ((key w).1, counted t x) → (o ≡ Some t) × (vview b2 ≡ view_after_removal following (vview b1) (key w).0)) where
    can : CanExchange (kentry a1) (links a1) (key p) (key q)
    can = record {
      first_valid = still_valid key (kentry a0) (kentry a1) (links a0) (key q).0 v (key w) m (redirection.redirected in_w.0) set_w in_w.1 (key p) in_v.0;
      second_valid = still_valid key (kentry a0) (kentry a1) (links a0) (key q).0 v (key w) m (redirection.redirected in_w.0) set_w in_w.1 (key q) in_w.0;
      first_next = subst (λ (l : LinkMap). is_some (next_of l (key p).0) ≡ true) (sym redirection.same_links) (has_next key kstate vstate a0 b0 r (links a0) is (key p).0 (key v) in_v.1);
      second_next = subst (λ (l : LinkMap). is_some (next_of l (key q).0) ≡ true) (sym redirection.same_links) (has_next key kstate vstate a0 b0 r (links a0) is (key q).0 (key w) in_w.1);
    }

    made : IsExchanged kstate links a1 a2 (key p).0 (key q).0
    made = exchange_made kstate links key a1 a2 p q e exchanges can

    merged : Exchanges (links a0) (links a2) (key p).0 (key q).0
    merged = subst (λ (l : LinkMap). Exchanges l (links a2) (key p).0 (key q).0) redirection.same_links made.chains

    same : (i : ℕ) → kentry a2 i ≡ kentry a1 i
    same = same_entries kstate a1 a2 (ap (λ (s : ArenaView Gen (Member P K)). s.entries) made.view_after)

    redirected : AreRedirected (kentry a0) (kentry a2) (links a0) (key q).0 v
    redirected = let is_redirected = redirection.redirected in_w.0 in record {
      items = is_redirected.items;
      walk = is_redirected.walk;
      there = λ i has. same i ∙ is_redirected.there i has;
      rest = λ i has_not. same i ∙ is_redirected.rest i has_not;
    }

    written : vview b1 ≡ view_with_value (vview b0) (key v).0 (counted value_v.0 (n + m))
    written = writes value_v.0 n value_v.1

    taken : (o ≡ Some value_w.0) × (vview b2 ≡ view_after_removal following (vview b1) (key w).0)
    taken = takes value_w.0 m (values_elsewhere vstate b0 b1 (key v).0 (counted value_v.0 (n + m)) written (key w).0 (λ is_v. apart (sym is_v)) ∙ value_w.1)

    pub is_returned : o ≡ None → ⊥
    is_returned none = none_some value_w.0 o none taken.0

    pub partition_joined : IsPartition (set_in key (kentry a2)) (links a2) (size_in (ventry b2))
    partition_joined = sets_joined (set_in key (kentry a0)) (set_in key (kentry a2)) (links a0) (links a2) (size_in (ventry b0)) (size_in (ventry b2)) is (key p).0 (key q).0 (key v) (key w) n m in_v.1 in_w.1 differ
        (moved key (kentry a0) (kentry a2) (links a0) (key q).0 v (key w) m redirected set_w in_w.1) (stayed key (kentry a0) (kentry a2) (links a0) (key q).0 v (key w) m redirected set_w in_w.1) merged was_v was_w
        (sizes_kept vstate b1 b2 (key w) following taken.1 (key v).0 apart ∙ size_stored (ventry b1) (key v).0 (key v).1 value_v.0 (n + m) (value_written vstate b0 b1 (key v) value_v.0 value_v.0 n (n + m) written value_v.1))
        (value_gone vstate b1 b2 (key w) following taken.1)
        (λ j not_v not_w. sizes_kept vstate b1 b2 (key w) following taken.1 j not_w ∙ sizes_elsewhere vstate b0 b1 (key v) value_v.0 (n + m) written j not_v)

    pub are_absorbed : (t : V) (s : ℕ) → o ≡ Some t → s ≡ min (r + m) (2 ^ 128 - 1) → IsAbsorbed (seen key kstate vstate a0 b0 r) (seen key kstate vstate a2 b2 s) following (key v) (key w) t
    are_absorbed t s returned counts = record {
      differ = differ;
      moved = λ i at. set_seen key kstate vstate a2 b2 s i ∙ moved key (kentry a0) (kentry a2) (links a0) (key q).0 v (key w) m redirected set_w in_w.1 i (sym (set_seen key kstate vstate a0 b0 r i) ∙ at);
      sets = λ i not_w. set_seen key kstate vstate a2 b2 s i
          ∙ (stayed key (kentry a0) (kentry a2) (links a0) (key q).0 v (key w) m redirected set_w in_w.1 i (λ at. not_w (set_seen key kstate vstate a0 b0 r i ∙ at)) ∙ sym (set_seen key kstate vstate a0 b0 r i));
      keys = λ i. key_seen key kstate vstate a2 b2 s i ∙ (keys_stayed key (kentry a0) (kentry a2) (links a0) (key q).0 v (key w) m redirected set_w in_w.1 i ∙ sym (key_seen key kstate vstate a0 b0 r i));
      indexes = index-each (member_view key) (kview a2).entries ∙ (ap (λ (x : ArenaView Gen (Member P K)). map index_of x.entries) made.view_after ∙ (redirection.indexes ∙ sym (index-each (member_view key) (kview a0).entries)));
      key_sizes = ap (map_view (member_view key)) (made.view_after ∙ (redirection.rest ∙ ap (λ (x : ArenaView Gen (Member P K)). with_entries (kview a0) x.entries) (sym made.view_after)));
      value = value_v.0;
      size = n;
      more = m;
      valued = has_value key kstate vstate a0 b0 r (key v) value_v.0 n value_v.1;
      dropped = subst (λ (x : V). HasValue (seen key kstate vstate a0 b0 r) (key w) x m) (same_some value_w.0 t (sym taken.0 ∙ returned)) (has_value key kstate vstate a0 b0 r (key w) value_w.0 m value_w.1);
      values = ap (map_view counted_view) taken.1
          ∙ (removed-each counted_view following (vview b1) (key w).0
          ∙ ap (λ (x : ArenaView Gen (V × ℕ)). view_after_removal following x (key w).0) (ap (map_view counted_view) written ∙ written-each counted_view (vview b0) (key v).0 (counted value_v.0 (n + m))));
      redirected = counts;
    }
