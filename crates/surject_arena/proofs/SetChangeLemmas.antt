-- What calls do to the sets, by the entries of the two arenas.
use Rattle.std.proofs.Common.{◌≡◌, ◌≢◌, ℕ, ◌+◌, ◌-◌, ◌<◌, ◌≤◌, Option, None, Some, sym, ap, ◌∙◌, subst}
use Rattle.std.specs.Option.{option_map}
use Rattle.arena_traits.specs.Arena.{IsInserted}
use Rattle.arena_traits.specs.Entries.{ArenaView, ArenaState, found, view_with_value, view_after_removal}
use Rattle.arena_traits.proofs.EntryChangeLemmas.{entry_gone, entry_kept, value_there, values_elsewhere}
use Rattle.chain_laws.specs.Chains.{LinkMap, cyclic, IsChain, IsWellLinked, next_of}
use Rattle.chain_laws.specs.Insertions.{Inserts}
use Rattle.chain_laws.specs.Removals.{Removes}
use Rattle.surject_arena.specs.Partitions.{member, counted, set_in, size_in, IsPartition}
use Rattle.surject_arena.specs.declared.members.Member.{Member}
use Rattle.surject_arena.specs.declared.members.Counted.{Counted}
use Rattle.surject_arena.proofs.OptionLemmas.{none_some}
use Rattle.surject_arena.proofs.PartitionLemmas.{alone_added, beside_added, one_taken, last_taken}
use Rattle.surject_arena.proofs.SetReadLemmas.{set_stored, size_stored}

pub same_partition : {Gen : Type 0} (set after : ℕ → Option (ℕ × Gen)) (links changed : LinkMap) (size resized : ℕ → Option (Gen × ℕ)) → IsPartition set links size
    → ((i : ℕ) → after i ≡ set i) → changed ≡ links → ((j : ℕ) → resized j ≡ size j) → IsPartition after changed resized
same_partition set after links changed size resized is sets same sizes = record {
  valued = λ i w at. let known = is.valued i w (sym (sets i) ∙ at) in (known.0, sizes w.0 ∙ known.1);
  sets = λ w n at.
      let s = is.sets w n (sym (sizes w.0) ∙ at) in
      record {
        items = s.items;
        chain = subst (λ (l : LinkMap). IsChain l (cyclic s.items)) (sym same) s.chain;
        size = s.size;
        members = λ i. (λ has. sets i ∙ (s.members i).0 has, λ own. (s.members i).1 (sym (sets i) ∙ own));
      };
}

pub same_entries : {A Gen T : Type 0} {view : A → ArenaView Gen T} {entry : A → ℕ → Option (Gen × T)} (state : (a : A) → ArenaState (view a) (entry a)) (a b : A) → (view b).entries ≡ (view a).entries
    → (i : ℕ) → entry b i ≡ entry a i
same_entries state a b same i = sym ((state b).finds i) ∙ (ap (found i) same ∙ (state a).finds i)

module _ {B Gen V : Type 0} {view : B → ArenaView Gen (Counted V)} {entry : B → ℕ → Option (Gen × Counted V)} (state : (b : B) → ArenaState (view b) (entry b)) (b c : B) (w : ℕ × Gen) where
  pub value_written : (t u : V) (m n : ℕ) → view c ≡ view_with_value (view b) w.0 (counted u n) → entry b w.0 ≡ Some (w.1, counted t m) → entry c w.0 ≡ Some (w.1, counted u n)
  value_written t u m n written was = value_there state b c w.0 (counted u n) written ∙ ap (option_map (λ e. (e.0, counted u n))) was

  pub sizes_elsewhere : (u : V) (n : ℕ) → view c ≡ view_with_value (view b) w.0 (counted u n) → (j : ℕ) → j ≢ w.0 → size_in (entry c) j ≡ size_in (entry b) j
  sizes_elsewhere u n written j other = ap (option_map (λ e. (e.0, e.1.size))) (values_elsewhere state b c w.0 (counted u n) written j other)

  module _ (following : Gen → Gen) (removed : view c ≡ view_after_removal following (view b) w.0) where
    pub value_gone : size_in (entry c) w.0 ≡ None
    value_gone = ap (option_map (λ e. (e.0, e.1.size))) (entry_gone state b c w.0 (ap (λ (s : ArenaView Gen (Counted V)). s.entries) removed))

    pub sizes_kept : (j : ℕ) → j ≢ w.0 → size_in (entry c) j ≡ size_in (entry b) j
    sizes_kept j other = ap (option_map (λ e. (e.0, e.1.size))) (entry_kept state b c w.0 (ap (λ (s : ArenaView Gen (Counted V)). s.entries) removed) j other)

module _ {P Gen K V : Type 0} (key : P → ℕ × Gen) (ke kf : ℕ → Option (Gen × Member P K)) (ve vf : ℕ → Option (Gen × Counted V)) (links changed : LinkMap) (is : IsPartition (set_in key ke) links (size_in ve)) where
  set_same : (i : ℕ) → kf i ≡ ke i → set_in key kf i ≡ set_in key ke i
  set_same i same = ap (option_map (λ e. key e.1.set)) same

  pub with_set : (p : ℕ × Gen) (k : K) (t : V) (w : P) → IsInserted ke kf p (member k w) → Inserts links changed p.0 (Some p.0) (Some p.0) → IsInserted ve vf (key w) (counted t 1)
      → IsPartition (set_in key kf) changed (size_in vf)
  with_set p k t w gained inserts valued = alone_added (set_in key ke) (set_in key kf) links changed (size_in ve) (size_in vf) is p.0 (key w)
      (ap (option_map (λ e. key e.1.set)) gained.free) (set_stored key kf p.0 p.1 (member k w) gained.stored) (λ i other. set_same i (gained.rest i other))
      (λ j other. ap (option_map (λ e. (e.0, e.1.size))) (valued.rest j other)) inserts
      (ap (option_map (λ e. (e.0, e.1.size))) valued.free) (size_stored vf (key w).0 (key w).1 t 1 valued.stored)

  pub with_key : (p : ℕ) (q : ℕ × Gen) (k : K) (w : P) (n : ℕ) → set_in key ke p ≡ Some (key w) → IsWellLinked links → links q.0 ≡ None → IsInserted ke kf q (member k w)
      → Inserts links changed q.0 (Some p) (next_of links p) → size_in ve (key w).0 ≡ Some ((key w).1, n) → size_in vf (key w).0 ≡ Some ((key w).1, n + 1)
      → ((j : ℕ) → j ≢ (key w).0 → size_in vf j ≡ size_in ve j) → IsPartition (set_in key kf) changed (size_in vf)
  with_key p q k w n own agrees unlinked gained inserts was now others = beside_added (set_in key ke) (set_in key kf) links changed (size_in ve) (size_in vf) is q.0 (key w)
      (ap (option_map (λ e. key e.1.set)) gained.free) (set_stored key kf q.0 q.1 (member k w) gained.stored) (λ i other. set_same i (gained.rest i other)) others
      p n agrees unlinked own inserts was now

  module _ (p : ℕ × Gen) (m : Member P K) (stored : ke p.0 ≡ Some (p.1, m)) (gone : kf p.0 ≡ None) (rest : (i : ℕ) → i ≢ p.0 → kf i ≡ ke i) (removes : Removes links changed p.0)
      (n : ℕ) (was : size_in ve (key m.set).0 ≡ Some ((key m.set).1, n)) (others : (j : ℕ) → j ≢ (key m.set).0 → size_in vf j ≡ size_in ve j) where
    pub without_one : 1 < n → size_in vf (key m.set).0 ≡ Some ((key m.set).1, n - 1) → IsPartition (set_in key kf) changed (size_in vf)
    without_one many there = one_taken (set_in key ke) (set_in key kf) links changed (size_in ve) (size_in vf) is p.0 (key m.set) n
        (set_stored key ke p.0 p.1 m stored) (ap (option_map (λ e. key e.1.set)) gone) (λ i other. set_same i (rest i other)) removes was others many there

    pub without_last : n ≤ 1 → size_in vf (key m.set).0 ≡ None → IsPartition (set_in key kf) changed (size_in vf)
    without_last few none = last_taken (set_in key ke) (set_in key kf) links changed (size_in ve) (size_in vf) is p.0 (key m.set) n
        (set_stored key ke p.0 p.1 m stored) (ap (option_map (λ e. key e.1.set)) gone) (λ i other. set_same i (rest i other)) removes was others few none

pub no_sets : {P Gen K V : Type 0} (key : P → ℕ × Gen) (ke : ℕ → Option (Gen × Member P K)) (ve : ℕ → Option (Gen × Counted V)) (links : LinkMap) → ((i : ℕ) → ke i ≡ None) → ((j : ℕ) → ve j ≡ None) → IsPartition (set_in key ke) links (size_in ve)
no_sets key ke ve links no_key no_value = record {
  valued = λ i w own. absurd (none_some w (set_in key ke i) (ap (option_map (λ e. key e.1.set)) (no_key i)) own);
  sets = λ w n at. absurd (none_some (w.1, n) (size_in ve w.0) (ap (option_map (λ e. (e.0, e.1.size))) (no_value w.0)) at);
}
