-- The key after a key in its set.
use Rattle.std.proofs.Common.{◌≡◌, ◌≢◌, ℕ, suc, ◌<◌, inl, inr, ⊎_elim, List, [], ◌∷◌, length, Option, None, Some, refl, sym, ap, ◌∙◌, subst, arith}
use Rattle.std.specs.Prelude.{◌↔◌, ◌⊎◌}
use Rattle.std.specs.Option.{option_map, option_and_then}
use Rattle.arena_traits.specs.Arena.{IsValid}
use Rattle.arena_traits.specs.Entries.{ArenaView, ArenaState}
use Rattle.chain_laws.specs.Chains.{LinkMap, cyclic, IsChain, IsMember, next_in, next_of}
use Rattle.chain_laws.proofs.ChainLemmas.Rotations.{rotated_to}
use Rattle.chain_laws.proofs.ExchangeLemmas.Merges.{same_length}
use Rattle.chain_links.specs.ChainArena.{ptr_at}
use Rattle.surject_arena.specs.Partitions.{counted, set_in, size_in, IsSet, IsPartition}
use Rattle.surject_arena.specs.Surjections.{AreInOneSet, SharesSet, IsAlone}
use Rattle.surject_arena.specs.declared.members.Member.{Member}
use Rattle.surject_arena.specs.declared.members.Counted.{Counted}
use Rattle.surject_arena.proofs.OptionLemmas.{same_some, none_some, from_mapped}
use Rattle.surject_arena.proofs.PartitionLemmas.{name_is}
use Rattle.surject_arena.proofs.SetReadLemmas.{seen, set_stored, size_stored, key_of, has_value, valued}

module _ {A B P Gen K V : Type 0} (key : P → ℕ × Gen) {kview : A → ArenaView Gen (Member P K)} {kentry : A → ℕ → Option (Gen × Member P K)} (kstate : (a : A) → ArenaState (kview a) (kentry a)) (links : A → LinkMap)
    {vview : B → ArenaView Gen (Counted V)} {ventry : B → ℕ → Option (Gen × Counted V)} (vstate : (b : B) → ArenaState (vview b) (ventry b)) (a : A) (b : B) (r : ℕ)
    (is : IsPartition (set_in key (kentry a)) (links a) (size_in (ventry b))) (p : ℕ × Gen) (valid : IsValid (kentry a) p) where
  abbrev set : ℕ × Gen
  set = key valid.value.set

  own : set_in key (kentry a) p.0 ≡ Some set
  own = set_stored key (kentry a) p.0 p.1 valid.value valid.stored

  known : (t : V) × (n : ℕ) × (ventry b set.0 ≡ Some (set.1, counted t n))
  known = valued key kstate vstate a b r (links a) is p.0 set own

  whole : IsSet (set_in key (kentry a)) (links a) set known.1
  whole = is.sets set known.1 (size_stored (ventry b) set.0 set.1 known.0 known.1 known.2)

  abbrev IsNext : Type 0
  IsNext = ((next_of (links a) p.0 ≡ Some p.0) × (known.1 ≡ 1)) ⊎ ((j : ℕ) × (next_of (links a) p.0 ≡ Some j) × (j ≢ p.0) × (set_in key (kentry a) j ≡ Some set) × (1 < known.1))

  next_is : IsNext
  next_is =
      let turned = rotated_to (links a) whole.items p.0 whole.chain ((whole.members p.0).1 own) in
      by turned.0 turned.1 turned.2 (same_length whole.items (p.0 ∷ turned.0) whole.chain.1 turned.1.1 turned.2)
    where
      by : (tail : List ℕ) → IsChain (links a) (cyclic (p.0 ∷ tail)) → ((i : ℕ) → IsMember whole.items i ↔ IsMember (p.0 ∷ tail) i) → length whole.items ≡ suc (length tail) → IsNext
      by [] chain same size = inl (ap next_in chain.2.0, omega (arith, size, whole.size))
      by (j ∷ tail) chain same size = inr (j, ap next_in chain.2.0, λ here. chain.1.0 (inl here), (whole.members j).0 ((same j).1 (inr (inl refl))), omega (arith, size, whole.size))

  next_pointer : (j : ℕ) → next_of (links a) p.0 ≡ Some j → option_and_then (ptr_at (kentry a)) (next_of (links a) p.0) ≡ ptr_at (kentry a) j
  next_pointer j next = ap (option_and_then (ptr_at (kentry a))) next

  stored_at : (q : ℕ × Gen) → Some q ≡ option_and_then (ptr_at (kentry a)) (next_of (links a) p.0) → (j : ℕ) → next_of (links a) p.0 ≡ Some j → (q.0 ≡ j) × ((m : Member P K) × (kentry a q.0 ≡ Some (q.1, m)))
  stored_at q is_after j next =
      let e = from_mapped (λ (x : Gen × Member P K). let y : ℕ × Gen = (j, x.0) in y) (kentry a j) q (sym (is_after ∙ next_pointer j next)) in
      (ap (λ (x : ℕ × Gen). x.0) (sym e.2), (e.0.1, subst (λ (x : ℕ × Gen). kentry a x.0 ≡ Some (x.1, e.0.1)) e.2 e.1))

  pub another_after : (q : ℕ × Gen) → Some q ≡ option_and_then (ptr_at (kentry a)) (next_of (links a) p.0) → q ≢ p
      → AreInOneSet (seen key kstate vstate a b r) p q × SharesSet (seen key kstate vstate a b r) p × (q.0 ≢ p.0)
  another_after q is_after differ = ⊎_elim
      (λ alone.
      let at = stored_at q is_after p.0 alone.0 in
      let generation : q.1 ≡ p.1 = ap (λ (x : Gen × Member P K). x.0) (same_some (q.1, at.1.0) (p.1, valid.value) (sym at.1.1 ∙ (ap (kentry a) at.0 ∙ valid.stored))) in
      absurd (differ (name_is q p at.0 generation)))
      (λ other.
      let at = stored_at q is_after other.0 other.1 in
      let own_q : set_in key (kentry a) q.0 ≡ Some set = ap (set_in key (kentry a)) at.0 ∙ other.3 in (
        (set, key_of key kstate vstate a b r p set valid own, key_of key kstate vstate a b r q set (record { value = at.1.0; stored = at.1.1 }) own_q),
        (set, known.0, known.1, key_of key kstate vstate a b r p set valid own, has_value key kstate vstate a b r set known.0 known.1 known.2, other.4),
        λ same. other.2 (sym at.0 ∙ same),
      ))
      next_is

  pub alone_after : Some p ≡ option_and_then (ptr_at (kentry a)) (next_of (links a) p.0) → IsAlone (seen key kstate vstate a b r) p
  alone_after is_after = ⊎_elim
      (λ alone. (set, known.0, key_of key kstate vstate a b r p set valid own, has_value key kstate vstate a b r set known.0 1 (known.2 ∙ ap (λ (n : ℕ). Some (set.1, counted known.0 n)) alone.1)))
      (λ other. absurd (other.2 (sym (stored_at p is_after other.0 other.1).0)))
      next_is

  pub some_after : None ≡ option_and_then (ptr_at (kentry a)) (next_of (links a) p.0) → ⊥
  some_after none = ⊎_elim
      (λ alone. missing p.0 alone.0 (p.1, valid.value) valid.stored)
      (λ other. let e = from_mapped (λ (x : Gen × Member P K). key x.1.set) (kentry a other.0) set other.3 in missing other.0 other.1 e.0 e.1)
      next_is
    where
      missing : (j : ℕ) → next_of (links a) p.0 ≡ Some j → (e : Gen × Member P K) → kentry a j ≡ Some e → ⊥
      missing j next e stored = none_some (j, e.0) None refl (none ∙ (next_pointer j next ∙ ap (option_map (λ (x : Gen × Member P K). let y : ℕ × Gen = (j, x.0) in y)) stored))
