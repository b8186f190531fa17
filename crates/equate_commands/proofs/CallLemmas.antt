-- What changes of the map of words and of the arena do to the classes.
use Rattle.std.proofs.Common.{◌≡◌, ◌≢◌, ℕ, List, map, Bool, Option, None, Some, IfNone, is_some, Result, Ok, Err, OnErr, option_map, String, string_bytes, string_eq, bytes_eq, Global, HashMap, false, refl, sym, ap, ◌∙◌, subst}
use Rattle.std.specs.HashMap.{get, get_by_text, UpdatesBy}
use Rattle.arena_traits.specs.Entries.{AscendsFrom}
use Rattle.arena_traits.specs.CallOutcomes.{ReportsOverflow}
use Rattle.arena_core.specs.declared.invalidation.InvalidationResult.{InvalidationResult}
use Rattle.arena_core.specs.declared.invalidation.InvalidationResult.TheVariants.{Success, GenerationOverflow, InvalidPtr}
use Rattle.surject_arena.specs.Surjections.{Surjection, key_at, IsKey, AreInOneSet, IsSurjection}
use Rattle.surject_arena.specs.SetCalls.{IsSetAdded, IsKeyTaken, UnitesSets}
use Rattle.equate_commands.specs.WordClasses.{WordClasses, table_of, pointer_in, pointer_of, Agree, AreEqual, IsKnown, AreKept, AreUnited, IsInterned, IsDropped}
use Rattle.equate_commands.proofs.TableLemmas.{pointer_read, pointer_there, pointer_elsewhere, pointers_same}
use Rattle.equate_commands.proofs.ClassLemmas.{same_some, not_none, some_of, entry_of_word, kept_agree, are_kept}
use Rattle.equate_commands.proofs.InsertionLemmas.{inserted_agree, is_interned}
use Rattle.equate_commands.proofs.UnionLemmas.{are_united, stay_united, united_agree}
use Rattle.equate_commands.proofs.RemovalLemmas.{removed_agree, is_dropped, unknown_dropped}

pub on_err : {T E P : Type 0} (r : Result T E) → P → OnErr r P
on_err (Ok x) p = tt
on_err (Err e) p = p

abbrev pub seen : {P Gen S : Type 0} → (P → ℕ × Gen) → HashMap (String Global) P S → Surjection Gen (String Global) Unit → WordClasses Gen
seen key m s = record { table = table_of key m; arena = s }

module _ {P Gen S : Type 0} (key : P → ℕ × Gen) (m n : HashMap (String Global) P S) (s t : Surjection Gen (String Global) Unit) (agree : Agree (table_of key m) s) (reordered : (k : String Global) → get string_eq n k ≡ get string_eq m k) where
  module _ (keys : t.keys.entries ≡ s.keys.entries) where
    pub reordered_agree : Agree (table_of key n) t
    reordered_agree = kept_agree (seen key m s) (seen key n t) (pointers_same key m n reordered) keys agree

    pub reordered_kept : AreKept (seen key m s) (seen key n t)
    reordered_kept = are_kept (seen key m s) (seen key n t) (pointers_same key m n reordered) keys agree

  module _ (o : HashMap (String Global) P S) (is : IsSurjection s) (entry k : String Global) (word : List ℕ) (entry_is : string_bytes entry ≡ word) (key_is : string_bytes k ≡ word) (unknown : pointer_in (table_of key m) word ≡ None)
      (p : P) (added : IsSetAdded s t k tt (key p)) (updates : UpdatesBy string_eq (λ x. bytes_eq (string_bytes entry) (string_bytes x)) n o (Some p)) where
    same : string_bytes entry ≡ string_bytes k
    same = entry_is ∙ sym key_is

    not_there : pointer_in (table_of key m) (string_bytes k) ≡ None
    not_there = ap (pointer_in (table_of key m)) key_is ∙ unknown

    here : pointer_in (table_of key o) (string_bytes k) ≡ Some (key p)
    here = ap (pointer_in (table_of key o)) (sym same) ∙ pointer_there key n o (string_bytes entry) (Some p) updates

    rest : (x : List ℕ) → x ≢ string_bytes k → pointer_in (table_of key o) x ≡ pointer_in (table_of key m) x
    rest x other = pointer_elsewhere key n o (string_bytes entry) (Some p) updates x (λ is_entry. other (is_entry ∙ same)) ∙ pointers_same key m n reordered x

    pub insertion_agrees : Agree (table_of key o) t
    insertion_agrees = inserted_agree (seen key m s) (seen key o t) agree is k (key p) added not_there here rest

    pub insertion_interns : IsInterned (seen key m s) (seen key o t) word (key p)
    insertion_interns = subst (λ (x : List ℕ). IsInterned (seen key m s) (seen key o t) x (key p)) key_is (is_interned (seen key m s) (seen key o t) agree is k (key p) added not_there here rest)

pub pointer_valid : {Gen : Type 0} (c : WordClasses Gen) (agree : Agree c.table c.arena) (x : List ℕ) (p : ℕ × Gen) → pointer_of c x ≡ Some p → IsKey c.arena p
pointer_valid c agree x p at = let e = entry_of_word c.arena p.0 p.1 x ((agree x p).0 at) in record { value = (e.0, e.1); stored = e.2 }

key_taken : {Gen : Type 0} (following : Gen → Gen) (wraps : Gen → Bool) (s t : Surjection Gen (String Global) Unit) (p : ℕ × Gen) (result : InvalidationResult (String Global × Option Unit))
    → ReportsOverflow wraps s.keys.counter (IsKey s p → ⊥) (λ e. IsKeyTaken s t following p e.0 e.1) result → IsKey s p → (k : String Global) × (o : Option Unit) × IsKeyTaken s t following p k o
key_taken following wraps s t p (Success e) outcome valid = (e.0, e.1, outcome.1)
key_taken following wraps s t p (GenerationOverflow e) outcome valid = (e.0, e.1, outcome.1)
key_taken following wraps s t p InvalidPtr outcome valid = absurd (outcome valid)

module _ {P Gen S : Type 0} (key : P → ℕ × Gen) (following : Gen → Gen) (wraps : Gen → Bool) (m n : HashMap (String Global) P S) (s t : Surjection Gen (String Global) Unit) (agree : Agree (table_of key m) s) (ascends : AscendsFrom 1 s.keys.entries) (word : List ℕ)
    (updates : UpdatesBy string_eq (λ x. bytes_eq word (string_bytes x)) m n None) (p : P) (found : get_by_text m word ≡ Some p) (result : InvalidationResult (String Global × Option Unit))
    (outcome : ReportsOverflow wraps s.keys.counter (IsKey s (key p) → ⊥) (λ e. IsKeyTaken s t following (key p) e.0 e.1) result) where
  at : pointer_in (table_of key m) word ≡ Some (key p)
  at = pointer_read key m word ∙ ap (option_map key) found

  taken : (k : String Global) × (o : Option Unit) × IsKeyTaken s t following (key p) k o
  taken = key_taken following wraps s t (key p) result outcome (pointer_valid (seen key m s) agree word (key p) at)

  pub removal_agrees : Agree (table_of key n) t
  removal_agrees = removed_agree following (seen key m s) (seen key n t) agree ascends word (key p) taken.0 taken.1 taken.2 at (pointer_there key m n word None updates) (pointer_elsewhere key m n word None updates)

  pub removal_drops : IsDropped (seen key m s) (seen key n t) word
  removal_drops = is_dropped following (seen key m s) (seen key n t) agree ascends word (key p) taken.0 taken.1 taken.2 at (pointer_there key m n word None updates) (pointer_elsewhere key m n word None updates)

pub absence_drops : {P Gen S : Type 0} (key : P → ℕ × Gen) (m n : HashMap (String Global) P S) (s : Surjection Gen (String Global) Unit) (word : List ℕ) → n.entries ≡ m.entries → get_by_text m word ≡ None → IsDropped (seen key m s) (seen key n s) word
absence_drops {P} {Gen} key m n s word same absent =
    let unknown = pointer_read key m word ∙ ap (option_map key) absent in
    let tables = ap (map (λ (e : String Global × P). (string_bytes e.0, key e.1))) same in
    subst (λ (table : List (List ℕ × (ℕ × Gen))). IsDropped (seen key m s) (record { table = table; arena = s }) word) (sym tables) (unknown_dropped (seen key m s) word unknown)

module _ {P Gen S : Type 0} (key : P → ℕ × Gen) (following : Gen → Gen) (m : HashMap (String Global) P S) (s t : Surjection Gen (String Global) Unit) (agree : Agree (table_of key m) s) (is : IsSurjection s) (p q : P) where
  pub union_agrees : (o : Option (Unit × P)) → UnitesSets key following s p q o t → IfNone o (t ≡ s) → Agree (table_of key m) t
  union_agrees None outcome stays = subst (Agree (table_of key m)) (sym stays) agree
  union_agrees (Some e) outcome stays = united_agree following (seen key m s) (seen key m t) (λ x. refl) agree (key p) (key q) (key e.1) outcome

  pub union_unites : (o : Option (Unit × P)) → UnitesSets key following s p q o t → IfNone o (t ≡ s) → (a b : List ℕ) → pointer_in (table_of key m) a ≡ Some (key p) → pointer_in (table_of key m) b ≡ Some (key q)
      → AreUnited (seen key m s) (seen key m t) a b (is_some o)
  union_unites None outcome stays a b at_a at_b = subst (λ (u : Surjection Gen (String Global) Unit). AreUnited (seen key m s) (seen key m u) a b false) (sym stays) (stay_united (seen key m s) agree a b (key p) (key q) at_a at_b outcome)
  union_unites (Some e) outcome stays a b at_a at_b = are_united following (seen key m s) (seen key m t) (λ x. refl) agree is (key p) (key q) (key e.1) outcome a b at_a at_b

module _ {P Gen : Type 0} (key : P → ℕ × Gen) (c : WordClasses Gen) (a : List ℕ) where
  pub found_here : (o : Option P) (p : P) → option_map key o ≡ pointer_of c a → o ≡ Some p → pointer_of c a ≡ Some (key p)
  found_here o p reads is = sym reads ∙ ap (option_map key) is

  pub not_found : (o : Option P) → option_map key o ≡ pointer_of c a → o ≡ None → pointer_of c a ≡ None
  not_found o reads is = sym reads ∙ ap (option_map key) is

  pub unknown_by : pointer_of c a ≡ None → IsKnown c a → ⊥
  unknown_by unknown known = let q = some_of (pointer_of c a) known in not_none q.0 (pointer_of c a) unknown q.1

  pub equal_by : (b : List ℕ) (p q : ℕ × Gen) → pointer_of c a ≡ Some p → pointer_of c b ≡ Some q → AreEqual c a b → AreInOneSet c.arena p q
  equal_by b p q at_a at_b (r, s, at_r, at_s, one) =
      subst (λ (x : ℕ × Gen). AreInOneSet c.arena x q) (same_some r p (sym at_r ∙ at_a)) (subst (λ (x : ℕ × Gen). AreInOneSet c.arena r x) (same_some s q (sym at_s ∙ at_b)) one)

pub word_read : {Gen : Type 0} (c : WordClasses Gen) (agree : Agree c.table c.arena) (p : ℕ × Gen) (k : String Global) → key_at c.arena p.0 ≡ Some (p.1, k) → pointer_of c (string_bytes k) ≡ Some p
word_read {Gen} c agree p k at = (agree (string_bytes k) p).1 (ap (option_map (λ (e : Gen × String Global). (e.0, string_bytes e.1))) at)
