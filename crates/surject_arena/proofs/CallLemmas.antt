-- The outcomes of calls, by those of the two arenas.
use Rattle.std.proofs.Common.{◌≡◌, ◌≢◌, ℕ, zero, suc, ◌+◌, ◌-◌, ◌<◌, ◌≤◌, ◌⊎◌, inl, inr, ⊎_elim, List, [], ◌∷◌, length, Option, None, Some, Result, Ok, Err, refl, sym, ap, ◌∙◌, subst, arith}
use Rattle.std.proofs.lemmas.Bool.{cases_eq}
use Rattle.arena_core.specs.Errors.{insertion_error}
use Rattle.arena_core.specs.declared.errors.ChainInsertionError.{ChainInsertionError}
use Rattle.arena_core.specs.declared.errors.ChainInsertionError.TheVariants as failed
use Rattle.arena_core.specs.declared.errors.ReallocationError.{ReallocationError}
use Rattle.arena_core.specs.declared.errors.ReallocationError.TheVariants as refused
use Rattle.arena_traits.specs.Arena.{IsCapacityFor}
use Rattle.arena_traits.specs.Entries.{ArenaView, ArenaState, count, with_capacity, view_with_value, view_after_removal}
use Rattle.arena_traits.specs.Growth.{IsGrowthResult, RefusesOneMore, GrowsForOneMore}
use Rattle.arena_traits.proofs.EntryChangeLemmas.{entry_gone, entry_kept}
use Rattle.chain_laws.specs.Chains.{LinkMap, IsWellLinked}
use Rattle.chain_laws.specs.Removals.{with_removal, Removes}
use Rattle.chain_laws.proofs.RemovalLemmas.Chains.{removed_removes}
use Rattle.chain_links.specs.Insertions.{IsInsertionRefusal}
use Rattle.surject_arena.specs.Partitions.{counted, member_view, counted_view, set_in, size_in, IsPartition}
use Rattle.surject_arena.specs.Surjections.{Surjection, map_view}
use Rattle.surject_arena.specs.SetCalls.{IsAdded, GrowsKeys, IsSetAdded, InsertsSet, IsKeyTaken}
use Rattle.surject_arena.specs.declared.members.Member.{Member}
use Rattle.surject_arena.specs.declared.members.Counted.{Counted}
use Rattle.surject_arena.proofs.SetReadLemmas.{seen, set_stored, size_stored, has_value, valued}
use Rattle.surject_arena.proofs.SetChangeLemmas.{value_written, sizes_elsewhere, value_gone, sizes_kept, without_one, without_last}
use Rattle.surject_arena.proofs.ViewLemmas.{stored-each, removed-each, written-each}

pub few_or_many : (n : ℕ) → (n ≤ 1) ⊎ (1 < n)
few_or_many zero = inl (omega arith)
few_or_many (suc zero) = inl (omega arith)
few_or_many (suc (suc n)) = inr (omega arith)

pub at_least_one : (xs : List ℕ) → xs ≢ [] → 1 ≤ length xs
at_least_one [] filled = absurd (filled refl)
at_least_one (x ∷ xs) filled = omega arith

any_capacity : {Gen X : Type 0} (s new : ArenaView Gen X) (n : ℕ) (x : X) (p : ℕ × Gen) → IsAdded (with_capacity s n) x p new → IsAdded s x p new
any_capacity s new n x p is = record { entries = is.entries; more = is.more; generation = is.generation; index = is.index; slots = is.slots; counter = is.counter; maximum = is.maximum }

pub inserts_set : {P Gen K V : Type 0} (key : P → ℕ × Gen) (greatest : ℕ) (old mid new : Surjection Gen K V) (k : K) (t : V) → GrowsKeys old mid → GrowsForOneMore greatest old.keys mid.keys → (result : Result P ReallocationError)
    → IsGrowthResult (RefusesOneMore mid.values) (λ p. IsSetAdded mid new k t (key p) × (new.keys.capacity ≡ mid.keys.capacity) × GrowsForOneMore greatest mid.values new.values) result
    → InsertsSet key greatest old k t result new
inserts_set {Gen = Gen} {K = K} {V = V} key greatest old mid new k t grows grown (Err why) is = inr (subst (λ (s : Surjection Gen K V). RefusesOneMore s.values why) grows.0 is)
inserts_set {Gen = Gen} {K = K} {V = V} key greatest old mid new k t grows grown (Ok p) is = (
  record {
    set = is.0.set;
    key = any_capacity old.keys new.keys mid.keys.capacity (k, is.0.set) (key p) (subst (λ (s : Surjection Gen K V). IsAdded s.keys (k, is.0.set) (key p) new.keys) grows.0 is.0.key);
    value = subst (λ (s : Surjection Gen K V). IsAdded s.values (t, 1) is.0.set new.values) grows.0 is.0.value;
    redirected = is.0.redirected ∙ ap (λ (s : Surjection Gen K V). s.redirected) grows.0;
  },
  (subst (λ (c : ℕ). IsCapacityFor greatest new.keys.maximum (count old.keys + 1) c) (sym is.1) (subst (λ (m : Option ℕ). IsCapacityFor greatest m (count old.keys + 1) mid.keys.capacity) (sym is.0.key.maximum) grown.0), λ fits. is.1 ∙ grown.1 fits),
  subst (λ (s : Surjection Gen K V). GrowsForOneMore greatest s.values new.values) grows.0 is.2,
)

pub refusal_to : (may might : Type 0) (refuses also_refuses : ReallocationError → Type 0) → (may → might) → (might → may) → ((why : ReallocationError) → refuses why → also_refuses why) → (e : ChainInsertionError)
    → IsInsertionRefusal may refuses e → IsInsertionRefusal might also_refuses e
refusal_to may might refuses also_refuses forth back so failed.FailedLinkRequirement is = λ m. is (back m)
refusal_to may might refuses also_refuses forth back so failed.BeyondMaxCapacity is = (forth is.0, so refused.BeyondMaxCapacity is.1)
refusal_to may might refuses also_refuses forth back so failed.AllocError is = (forth is.0, so refused.AllocError is.1)
refusal_to may might refuses also_refuses forth back so failed.NotWithinCapacity is = is

pub refusal_of : (may : Type 0) (refuses : ReallocationError → Type 0) → may → (why : ReallocationError) → refuses why → IsInsertionRefusal may refuses (insertion_error why)
refusal_of may refuses m refused.BeyondMaxCapacity is = (m, is)
refusal_of may refuses m refused.AllocError is = (m, is)

module _ {A B P Gen K V : Type 0} (key : P → ℕ × Gen) (following : Gen → Gen) {kview : A → ArenaView Gen (Member P K)} {kentry : A → ℕ → Option (Gen × Member P K)} (kstate : (a : A) → ArenaState (kview a) (kentry a)) (links : A → LinkMap)
    {vview : B → ArenaView Gen (Counted V)} {ventry : B → ℕ → Option (Gen × Counted V)} (vstate : (b : B) → ArenaState (vview b) (ventry b)) (a c : A) (b d : B) (r : ℕ)
    (is : IsPartition (set_in key (kentry a)) (links a) (size_in (ventry b))) where
  module _ (p : ℕ × Gen) (m : Member P K) (stored : kentry a p.0 ≡ Some (p.1, m)) (removed : kview c ≡ view_after_removal following (kview a) p.0) (relinked : links c ≡ with_removal (links a) p.0) (agrees : IsWellLinked (links a)) (o : Option V)
      (many : (t : V) (n : ℕ) → ventry b (key m.set).0 ≡ Some ((key m.set).1, counted t n) → 1 < n → (o ≡ None) × (vview d ≡ view_with_value (vview b) (key m.set).0 (counted t (n - 1))))
      (last : (t : V) (n : ℕ) → ventry b (key m.set).0 ≡ Some ((key m.set).1, counted t n) → n ≤ 1 → (o ≡ Some t) × (vview d ≡ view_after_removal following (vview b) (key m.set).0)) where
    known : (t : V) × (n : ℕ) × (ventry b (key m.set).0 ≡ Some ((key m.set).1, counted t n))
    known = valued key kstate vstate a b r (links a) is p.0 (key m.set) (set_stored key (kentry a) p.0 p.1 m stored)

    was_sized : size_in (ventry b) (key m.set).0 ≡ Some ((key m.set).1, known.1)
    was_sized = size_stored (ventry b) (key m.set).0 (key m.set).1 known.0 known.1 known.2

    gone : kentry c p.0 ≡ None
    gone = entry_gone kstate a c p.0 (ap (λ (s : ArenaView Gen (Member P K)). s.entries) removed)

    kept : (i : ℕ) → i ≢ p.0 → kentry c i ≡ kentry a i
    kept = entry_kept kstate a c p.0 (ap (λ (s : ArenaView Gen (Member P K)). s.entries) removed)

    removes : Removes (links a) (links c) p.0
    removes = subst (λ (l : LinkMap). Removes (links a) l p.0) (sym relinked) (removed_removes (links a) p.0 agrees)

    pub partition_without : IsPartition (set_in key (kentry c)) (links c) (size_in (ventry d))
    partition_without = ⊎_elim
        (λ few.
        let done = last known.0 known.1 known.2 few in
        without_last key (kentry a) (kentry c) (ventry b) (ventry d) (links a) (links c) is p m stored gone kept removes known.1 was_sized (sizes_kept vstate b d (key m.set) following done.1) few (value_gone vstate b d (key m.set) following done.1))
        (λ more.
        let done = many known.0 known.1 known.2 more in
        without_one key (kentry a) (kentry c) (ventry b) (ventry d) (links a) (links c) is p m stored gone kept removes known.1 was_sized (sizes_elsewhere vstate b d (key m.set) known.0 (known.1 - 1) done.1) more
        (size_stored (ventry d) (key m.set).0 (key m.set).1 known.0 (known.1 - 1) (value_written vstate b d (key m.set) known.0 known.0 known.1 (known.1 - 1) done.1 known.2)))
        (few_or_many known.1)

    one_at_least : 1 ≤ known.1
    one_at_least = let s = is.sets (key m.set) known.1 was_sized in let one = at_least_one s.items s.chain.0 in omega (arith, one, s.size)

    pub key_taken : IsKeyTaken (seen key kstate vstate a b r) (seen key kstate vstate c d r) following p m.key o
    key_taken = record {
      set = key m.set;
      stored = stored-each (member_view key) kstate a p.0 p.1 m stored;
      keys = ap (map_view (member_view key)) removed ∙ removed-each (member_view key) following (kview a) p.0;
      value = known.0;
      size = known.1;
      valued = has_value key kstate vstate a b r (key m.set) known.0 known.1 known.2;
      values = ⊎_elim
          (λ few.
          let done = last known.0 known.1 known.2 few in
          inr (done.0, omega (arith, few, one_at_least), ap (map_view counted_view) done.1 ∙ removed-each counted_view following (vview b) (key m.set).0))
          (λ more.
          let done = many known.0 known.1 known.2 more in
          inl (done.0, more, ap (map_view counted_view) done.1 ∙ written-each counted_view (vview b) (key m.set).0 (counted known.0 (known.1 - 1))))
          (few_or_many known.1);
      redirected = refl;
    }

  pub partition_kept : (w : ℕ × Gen) (t u : V) (n : ℕ) → ventry b w.0 ≡ Some (w.1, counted t n) → vview d ≡ view_with_value (vview b) w.0 (counted u n) → (j : ℕ) → size_in (ventry d) j ≡ size_in (ventry b) j
  partition_kept w t u n stored written j = ⊎_elim
      (λ same. subst (λ (x : ℕ). size_in (ventry d) x ≡ size_in (ventry b) x) (sym same) (size_stored (ventry d) w.0 w.1 u n (value_written vstate b d w t u n n written stored) ∙ sym (size_stored (ventry b) w.0 w.1 t n stored)))
      (λ other. sizes_elsewhere vstate b d w u n written j other)
      (cases_eq j w.0)
