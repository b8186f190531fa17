-- The effects of a removal from any arena of links, if it removes anything.
use Rattle.std.proofs.Common.{◌≡◌, ◌≢◌, ℕ, suc, ◌+◌, List, [], ◌∷◌, length, Bool, true, false, Option, None, Some, refl, sym, ap, ◌∙◌, subst, unwrap_or, arith}
use Rattle.std.specs.Prelude.{is_some, cond, ◌==◌, IfSome, IfNone, OnSome}
use Rattle.arena_core.specs.Invalidation.{value_within}
use Rattle.arena_core.specs.PointerKinds.{PointerKind}
use Rattle.arena_core.specs.declared.invalidation.InvalidationResult.{InvalidationResult}
use Rattle.arena_core.specs.declared.invalidation.InvalidationResult.TheVariants.{Success, GenerationOverflow, InvalidPtr}
use Rattle.chain_laws.specs.Chains.{LinkMap, IsWellLinked}
use Rattle.chain_laws.specs.Removals.{with_removal, Removes}
use Rattle.chain_laws.proofs.RemovalLemmas.Chains.{removed_removes}
use Rattle.arena_traits.specs.Arena.{IsValid}
use Rattle.arena_traits.specs.Entries.{ArenaView, ArenaState, count, found, without_index, view_after_removal}
use Rattle.arena_traits.specs.CallOutcomes.{IsEntryRemoved, RemovesEntry}
use Rattle.arena_traits.proofs.EntryChangeLemmas.{entry_gone, entry_kept}

module _ {Gen T : Type 0} where
  pub one_less : (i : ℕ) (es : List ((ℕ × Gen) × T)) → is_some (found i es) ≡ true → suc (length (without_index i es)) ≡ length es
  one_less i [] some = absurd (let h = some in cc)
  one_less i (e ∷ es) some = by (e.0.0 == i) refl some (one_less i es)
    where
      by : (b : Bool) → (e.0.0 == i) ≡ b → is_some (cond b (Some (e.0.1, e.1)) (found i es)) ≡ true → (is_some (found i es) ≡ true → suc (length (without_index i es)) ≡ length es)
          → suc (length (cond b es (e ∷ without_index i es))) ≡ suc (length es)
      by true same some rest = refl
      by false other some rest = ap suc (rest some)

pub same_entry : {A Gen T : Type 0} {view : A → ArenaView Gen T} {entry : A → ℕ → Option (Gen × T)} (state : (a : A) → ArenaState (view a) (entry a)) (a b : A) → (view b).entries ≡ (view a).entries → entry b ≡ entry a
same_entry state a b same = λ k i. (sym ((state b).finds i) ∙ (ap (found i) same ∙ (state a).finds i)) k

module _ {A Gen T : Type 0} {view : A → ArenaView Gen T} {entry : A → ℕ → Option (Gen × T)} (state : (a : A) → ArenaState (view a) (entry a)) (links : A → LinkMap) where
  pub record HasGone (following : Gen → Gen) (old new : A) (p : ℕ × Gen) : Type 0 where
    pub was_stored : IsValid (entry old) p
    pub gone : entry new p.0 ≡ None
    pub kept : (i : ℕ) → i ≢ p.0 → entry new i ≡ entry old i
    pub relinked : links new ≡ with_removal (links old) p.0
    pub chains : Removes (links old) (links new) p.0
    pub one_fewer : count (view old) ≡ count (view new) + 1
    pub view_after : view new ≡ view_after_removal following (view old) p.0

  pub record TakesEntry (following : Gen → Gen) (old new : A) (p : ℕ × Gen) (o : Option T) : Type 0 where
    pub valid : IsValid (entry old) p → is_some o ≡ true
    pub value : (v : IsValid (entry old) p) → o ≡ Some v.value
    pub some : is_some o ≡ true → HasGone following old new p
    pub same : o ≡ None → new ≡ old

  module _ {P I W : Type 0} (pointers : PointerKind P I Gen W) (old new : A) (p : P) (agrees : IsWellLinked (links old)) where
    taken : (t : T) → IsEntryRemoved state pointers old (pointers.key p).0 (pointers.key p).1 t new → links new ≡ with_removal (links old) (pointers.key p).0 → TakesEntry pointers.following old new (pointers.key p) (Some t)
    taken t removed passed = record {
      valid = λ v. refl;
      value = λ v. let both = sym removed.0 ∙ v.stored in ap Some (ap (λ (e : Gen × T). e.1) (ap (λ (o : Option (Gen × T)). unwrap_or o ((pointers.key p).1, t)) both));
      some = λ is. record {
        was_stored = record { value = t; stored = removed.0 };
        gone = entry_gone state old new (pointers.key p).0 entries;
        kept = entry_kept state old new (pointers.key p).0 entries;
        relinked = passed;
        chains = subst (λ (l : LinkMap). Removes (links old) l (pointers.key p).0) (sym passed) (removed_removes (links old) (pointers.key p).0 agrees);
        one_fewer = let one = one_less (pointers.key p).0 (view old).entries (ap is_some ((state old).finds (pointers.key p).0) ∙ ap is_some removed.0) in let many = ap length entries in omega arith;
        view_after = removed.1;
      };
      same = λ none. absurd (cc);
    }
      where
        entries : (view new).entries ≡ without_index (pointers.key p).0 (view old).entries
        entries = ap (λ (s : ArenaView Gen T). s.entries) removed.1

    pub removal : (r : InvalidationResult T) → RemovesEntry state pointers old p r new → IfNone (value_within r) (new ≡ old) → OnSome (value_within r) (links new ≡ with_removal (links old) (pointers.key p).0)
        → TakesEntry pointers.following old new (pointers.key p) (value_within r)
    removal InvalidPtr none same passed = record { valid = λ v. absurd (none v); value = λ v. absurd (none v); some = λ some. absurd (cc); same = λ is. same }
    removal (Success t) removed same passed = taken t removed.1 passed
    removal (GenerationOverflow t) removed same passed = taken t removed.1 passed

  module _ (following : Gen → Gen) (old new : A) (p : ℕ × Gen) where
    pub value_known : (o : Option T) → TakesEntry following old new p o → IfSome o (λ t. entry old p.0 ≡ Some (p.1, t))
    value_known None r = tt
    value_known (Some t) r =
        let v = (r.some refl).was_stored in
        let same : t ≡ v.value = let h = r.value v in cc in
        subst (λ (u : T). entry old p.0 ≡ Some (p.1, u)) (sym same) v.stored

    pub same_of : (o : Option T) → TakesEntry following old new p o → IfNone o (new ≡ old)
    same_of None r = r.same refl
    same_of (Some t) r = tt
