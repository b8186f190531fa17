-- Writes of a key, or of the value of a set.
use Rattle.std.proofs.Common.{◌≡◌, ℕ, ⊎_elim, Option, Some, refl, sym, ap, ◌∙◌, subst}
use Rattle.std.specs.Option.{option_map}
use Rattle.std.proofs.lemmas.Bool.{cases_eq}
use Rattle.arena_traits.specs.Arena.{IsValid}
use Rattle.arena_traits.specs.Entries.{ArenaView, ArenaState, view_with_value}
use Rattle.arena_traits.proofs.EntryChangeLemmas.{value_there, values_elsewhere}
use Rattle.chain_laws.specs.Chains.{LinkMap}
use Rattle.surject_arena.specs.Partitions.{member, counted, member_view, counted_view, set_in, size_in, IsPartition}
use Rattle.surject_arena.specs.Surjections.{map_view}
use Rattle.surject_arena.specs.SetCalls.{IsKeyReplaced, IsValueReplaced}
use Rattle.surject_arena.specs.declared.members.Member.{Member}
use Rattle.surject_arena.specs.declared.members.Counted.{Counted}
use Rattle.surject_arena.proofs.ViewLemmas.{stored-each, written-each}
use Rattle.surject_arena.proofs.SetReadLemmas.{seen, set_stored, key_of, has_value}
use Rattle.surject_arena.proofs.SetChangeLemmas.{same_partition}
use Rattle.surject_arena.proofs.CallLemmas.{partition_kept}

module _ {A B P Gen K V : Type 0} (key : P → ℕ × Gen) {kview : A → ArenaView Gen (Member P K)} {kentry : A → ℕ → Option (Gen × Member P K)} (kstate : (a : A) → ArenaState (kview a) (kentry a)) (links : A → LinkMap)
    {vview : B → ArenaView Gen (Counted V)} {ventry : B → ℕ → Option (Gen × Counted V)} (vstate : (b : B) → ArenaState (vview b) (ventry b)) (a : A) (b : B) (r : ℕ)
    (is : IsPartition (set_in key (kentry a)) (links a) (size_in (ventry b))) (p : ℕ × Gen) where
  module _ (c : A) (m : Member P K) (stored : kentry a p.0 ≡ Some (p.1, m)) (k : K) (written : kview c ≡ view_with_value (kview a) p.0 (member k m.set)) where
    same_set : (i : ℕ) → set_in key (kentry c) i ≡ set_in key (kentry a) i
    same_set i = ⊎_elim
        (λ same. subst (λ (x : ℕ). set_in key (kentry c) x ≡ set_in key (kentry a) x) (sym same) (
        set_stored key (kentry c) p.0 p.1 (member k m.set) (value_there kstate a c p.0 (member k m.set) written ∙ ap (option_map (λ e. (e.0, member k m.set))) stored)
        ∙ sym (set_stored key (kentry a) p.0 p.1 m stored)))
        (λ other. ap (option_map (λ e. key e.1.set)) (values_elsewhere kstate a c p.0 (member k m.set) written i other))
        (cases_eq i p.0)

    pub same_sets : links c ≡ links a → IsPartition (set_in key (kentry c)) (links c) (size_in (ventry b))
    same_sets same = same_partition _ _ _ _ _ _ is same_set same (λ j. refl)

    pub key_replaced : IsKeyReplaced (seen key kstate vstate a b r) (seen key kstate vstate c b r) p k m.key
    key_replaced = record {
      set = key m.set;
      stored = stored-each (member_view key) kstate a p.0 p.1 m stored;
      keys = ap (map_view (member_view key)) written ∙ written-each (member_view key) (kview a) p.0 (member k m.set);
      values = refl;
      redirected = refl;
    }

  module _ (d : B) (w : ℕ × Gen) (t u : V) (n : ℕ) (stored : ventry b w.0 ≡ Some (w.1, counted t n)) (written : vview d ≡ view_with_value (vview b) w.0 (counted u n)) where
    pub same_sizes : (following : Gen → Gen) → IsPartition (set_in key (kentry a)) (links a) (size_in (ventry d))
    same_sizes following = same_partition _ _ _ _ _ _ is (λ i. refl) refl (partition_kept key following kstate links vstate a a b d r is w t u n stored written)

    pub value_replaced : IsValid (kentry a) p → set_in key (kentry a) p.0 ≡ Some w → IsValueReplaced (seen key kstate vstate a b r) (seen key kstate vstate a d r) p u t
    value_replaced valid own = record {
      set = w;
      key = key_of key kstate vstate a b r p w valid own;
      size = n;
      valued = has_value key kstate vstate a b r w t n stored;
      values = ap (map_view counted_view) written ∙ written-each counted_view (vview b) w.0 (counted u n);
      keys = refl;
      redirected = refl;
    }
