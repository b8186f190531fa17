-- What contracts see of two arenas, by the entries of both.
use Rattle.std.proofs.Common.{◌≡◌, ◌≢◌, ℕ, ◌+◌, ◌≤◌, map, Option, Some, sym, ap, ◌∙◌, arith}
use Rattle.std.specs.Prelude.{is_some, true}
use Rattle.std.specs.Option.{option_map}
use Rattle.std.proofs.lemmas.List.{length-map}
use Rattle.arena_traits.specs.Arena.{IsValid}
use Rattle.arena_traits.specs.Entries.{ArenaView, ArenaState, count, index_of}
use Rattle.chain_laws.specs.Chains.{LinkMap, IsMember, next_of}
use Rattle.chain_laws.proofs.ListLemmas.Members.{filled-IsMember}
use Rattle.chain_laws.proofs.ChainLemmas.MemberLaws.{rings_are_cyclic}
use Rattle.chain_links.specs.ChainArena.{on_value}
use Rattle.chain_links.proofs.OccupiedIndexLemmas.{found_has}
use Rattle.surject_arena.specs.Partitions.{counted, member_view, counted_view, surjection_of, set_in, size_in, IsSet, IsPartition}
use Rattle.surject_arena.specs.Surjections.{Surjection, key_at, set_at, IsKeyOf, HasValue, IsSurjection}
use Rattle.surject_arena.specs.declared.members.Member.{Member}
use Rattle.surject_arena.specs.declared.members.Counted.{Counted}
use Rattle.surject_arena.proofs.OptionLemmas.{same_some, from_mapped, mapped_twice}
use Rattle.surject_arena.proofs.PartitionLemmas.{set_fits, sets_fit}
use Rattle.surject_arena.proofs.ViewLemmas.{entry-each, stored-each, each-stored}

module _ {P Gen K : Type 0} (key : P → ℕ × Gen) (ke : ℕ → Option (Gen × Member P K)) where
  pub set_stored : (i : ℕ) (g : Gen) (m : Member P K) → ke i ≡ Some (g, m) → set_in key ke i ≡ Some (key m.set)
  set_stored i g m stored = ap (option_map (λ e. key e.1.set)) stored

  pub stored_in_set : (i : ℕ) (w : ℕ × Gen) → set_in key ke i ≡ Some w → is_some (ke i) ≡ true
  stored_in_set i w at = let e = from_mapped (λ (x : Gen × Member P K). key x.1.set) (ke i) w at in ap is_some e.1

module _ {Gen V : Type 0} (ve : ℕ → Option (Gen × Counted V)) where
  pub size_stored : (j : ℕ) (g : Gen) (t : V) (n : ℕ) → ve j ≡ Some (g, counted t n) → size_in ve j ≡ Some (g, n)
  size_stored j g t n stored = ap (option_map (λ e. (e.0, e.1.size))) stored

  pub value_sized : (w : ℕ × Gen) (n : ℕ) → size_in ve w.0 ≡ Some (w.1, n) → (t : V) × (ve w.0 ≡ Some (w.1, counted t n))
  value_sized w n at =
      let e = from_mapped (λ (x : Gen × Counted V). let y : Gen × ℕ = (x.0, x.1.size) in y) (ve w.0) (w.1, n) at in
      (e.0.1.value, e.1 ∙ ap (λ (x : Gen × ℕ). Some (x.0, counted e.0.1.value x.1)) e.2)

module _ {A B P Gen K V : Type 0} (key : P → ℕ × Gen) {kview : A → ArenaView Gen (Member P K)} {kentry : A → ℕ → Option (Gen × Member P K)} (kstate : (a : A) → ArenaState (kview a) (kentry a))
    {vview : B → ArenaView Gen (Counted V)} {ventry : B → ℕ → Option (Gen × Counted V)} (vstate : (b : B) → ArenaState (vview b) (ventry b)) (a : A) (b : B) (r : ℕ) where
  abbrev pub seen : Surjection Gen K V
  seen = surjection_of key (kview a) (vview b) r

  pub set_seen : (i : ℕ) → set_at seen i ≡ set_in key (kentry a) i
  set_seen i = ap (option_map (λ e. e.1.1)) (entry-each (member_view key) kstate a i) ∙ mapped_twice (on_value (member_view key)) (λ e. e.1.1) (kentry a i)

  pub key_seen : (i : ℕ) → key_at seen i ≡ option_map (λ e. (e.0, e.1.key)) (kentry a i)
  key_seen i = ap (option_map (λ e. (e.0, e.1.0))) (entry-each (member_view key) kstate a i) ∙ mapped_twice (on_value (member_view key)) (λ e. (e.0, e.1.0)) (kentry a i)

  pub key_of : (p w : ℕ × Gen) → IsValid (kentry a) p → set_in key (kentry a) p.0 ≡ Some w → IsKeyOf seen w p
  key_of p w valid at =
      let same = same_some (key valid.value.set) w (sym (set_stored key (kentry a) p.0 p.1 valid.value valid.stored) ∙ at) in
      (valid.value.key, stored-each (member_view key) kstate a p.0 p.1 valid.value valid.stored ∙ ap (λ (x : ℕ × Gen). Some (p.1, (valid.value.key, x))) same)

  pub of_key : (p w : ℕ × Gen) → IsKeyOf seen w p → IsValid (kentry a) p × (set_in key (kentry a) p.0 ≡ Some w)
  of_key p w is =
      let e = each-stored (member_view key) kstate a p.0 p.1 (is.0, w) is.1 in
      (record { value = e.0; stored = e.1 }, set_stored key (kentry a) p.0 p.1 e.0 e.1 ∙ ap (λ (x : K × (ℕ × Gen)). Some x.1) e.2)

  pub has_value : (w : ℕ × Gen) (t : V) (n : ℕ) → ventry b w.0 ≡ Some (w.1, counted t n) → HasValue seen w t n
  has_value w t n stored = stored-each counted_view vstate b w.0 w.1 (counted t n) stored

  pub of_value : (w : ℕ × Gen) (t : V) (n : ℕ) → HasValue seen w t n → ventry b w.0 ≡ Some (w.1, counted t n)
  of_value w t n has =
      let e = each-stored counted_view vstate b w.0 w.1 (t, n) has in
      e.1 ∙ ap (λ (x : V × ℕ). Some (w.1, counted x.0 x.1)) e.2

  module _ (links : LinkMap) (is : IsPartition (set_in key (kentry a)) links (size_in (ventry b))) where
    pub valued : (i : ℕ) (w : ℕ × Gen) → set_in key (kentry a) i ≡ Some w → (t : V) × (n : ℕ) × (ventry b w.0 ≡ Some (w.1, counted t n))
    valued i w at =
        let known = is.valued i w at in
        let t = value_sized (ventry b) w known.0 known.1 in
        (t.0, known.0, t.1)

    pub size_read : (i : ℕ) (w : ℕ × Gen) (m : ℕ) → set_in key (kentry a) i ≡ Some w → ((n : ℕ) → size_in (ventry b) w.0 ≡ Some (w.1, n) → m ≡ n) → (t : V) × (ventry b w.0 ≡ Some (w.1, counted t m))
    size_read i w m at reads =
        let known = is.valued i w at in
        value_sized (ventry b) w m (known.1 ∙ ap (λ (n : ℕ). Some (w.1, n)) (sym (reads known.0 known.1)))

    pub is_surjection : IsSurjection seen
    is_surjection = record {
      valued = λ i w at.
          let known = valued i w (sym (set_seen i) ∙ at) in
          (known.0, known.1, has_value w known.0 known.1 known.2);
      counted = λ w t n has.
          let s = set w t n has in
          (s.items, record { once = s.chain.1; members = λ i. (λ h. set_seen i ∙ (s.members i).0 h, λ at. (s.members i).1 (sym (set_seen i) ∙ at)) }, s.size);
      onto = λ w t n has.
          let s = set w t n has in
          let first = filled-IsMember s.items s.chain.0 in
          (first.0, set_seen first.0 ∙ (s.members first.0).0 first.1);
    }
      where
        set : (w : ℕ × Gen) (t : V) (n : ℕ) → HasValue seen w t n → IsSet (set_in key (kentry a)) links w n
        set w t n has = is.sets w n (size_stored (ventry b) w.0 w.1 t n (of_value w t n has))

    listed : (i : ℕ) (u : ℕ × Gen) → set_in key (kentry a) i ≡ Some u → IsMember (map index_of (kview a).entries) i
    listed i u at = found_has i (kview a).entries (ap is_some ((kstate a).finds i) ∙ stored_in_set key (kentry a) i u at)

    pub size_fits : (w : ℕ × Gen) (t : V) (n : ℕ) → ventry b w.0 ≡ Some (w.1, counted t n) → n ≤ count (kview a)
    size_fits w t n stored =
        let few = set_fits (set_in key (kentry a)) links (map index_of (kview a).entries) listed w n (is.sets w n (size_stored (ventry b) w.0 w.1 t n stored)) in
        omega (arith, few, length-map (kview a).entries index_of)

    pub sizes_fit : (v w : ℕ × Gen) (t u : V) (n m : ℕ) → ventry b v.0 ≡ Some (v.1, counted t n) → ventry b w.0 ≡ Some (w.1, counted u m) → v ≢ w → n + m ≤ count (kview a)
    sizes_fit v w t u n m at_v at_w differ =
        let few = sets_fit (set_in key (kentry a)) links (map index_of (kview a).entries) listed v w n m (is.sets v n (size_stored (ventry b) v.0 v.1 t n at_v)) (is.sets w m (size_stored (ventry b) w.0 w.1 u m at_w)) differ in
        omega (arith, few, length-map (kview a).entries index_of)

    pub has_next : (i : ℕ) (w : ℕ × Gen) → set_in key (kentry a) i ≡ Some w → is_some (next_of links i) ≡ true
    has_next i w at =
        let known = is.valued i w at in
        let s = is.sets w known.0 known.1 in
        ap is_some ((rings_are_cyclic links s.items i s.chain ((s.members i).1 at)).0).1
