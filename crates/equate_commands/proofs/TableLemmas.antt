-- The pointers in a table, after changes of the map of words.
use Rattle.std.proofs.Common.{◌≡◌, ◌≢◌, ◌⊎◌, inl, inr, ℕ, List, [], ◌∷◌, map, Bool, true, false, cond, Option, None, Some, option_map, String, string_bytes, string_eq, bytes_eq, is_some, Global, HashMap, refl, sym, ap, ◌∙◌, subst, ⊎_elim}
use Rattle.std.specs.HashMap.{get, get_by_text, UpdatesBy}
use Rattle.std.specs.Map.{lookup}
use Rattle.std.proofs.lemmas.Bool.{cases_Bool, cond-true, cond-false, false_from_ne_true, both_ways}
use Rattle.std.proofs.lemmas.Map.Text.{is_text, hash_map_updates_text}
use Rattle.std.proofs.lemmas.Slice.Eq.{bytes_eq-Decides}
use Rattle.equate_commands.specs.WordClasses.{table_of, pointer_in}

pub cases_word : (x y : List ℕ) → (x ≡ y) ⊎ (x ≢ y)
cases_word x y = ⊎_elim
    (λ yes. inl ((bytes_eq-Decides x y).0 yes))
    (λ no. inr (λ same. both_ways (bytes_eq x y) no ((bytes_eq-Decides x y).1 same)))
    (cases_Bool (bytes_eq x y))

found_key : {K X : Type 0} (test : K → Bool) (es : List (K × X)) (v : X) → lookup test es ≡ Some v → (k : K) × (test k ≡ true)
found_key test [] v is = absurd (cc)
found_key {K} test (e ∷ es) v is = by (test e.0) refl is (found_key test es v)
  where
    by : (b : Bool) → test e.0 ≡ b → cond b (Some e.1) (lookup test es) ≡ Some v → (lookup test es ≡ Some v → (k : K) × (test k ≡ true)) → (k : K) × (test k ≡ true)
    by true passes is rest = (e.0, passes)
    by false fails is rest = rest is

module _ {P Gen : Type 0} (key : P → ℕ × Gen) where
  abbrev listed : String Global × P → List ℕ × (ℕ × Gen)
  listed e = (string_bytes e.0, key e.1)

  pointer_found : (word : List ℕ) (es : List (String Global × P)) → lookup (bytes_eq word) (map listed es) ≡ option_map key (lookup (is_text word) es)
  pointer_found word [] = refl
  pointer_found word (e ∷ es) = by (bytes_eq word (string_bytes e.0)) (pointer_found word es)
    where
      by : (b : Bool) → lookup (bytes_eq word) (map listed es) ≡ option_map key (lookup (is_text word) es)
          → cond b (Some (key e.1)) (lookup (bytes_eq word) (map listed es)) ≡ option_map key (cond b (Some e.1) (lookup (is_text word) es))
      by true rest = refl
      by false rest = rest

module _ {P Gen S : Type 0} (key : P → ℕ × Gen) where
  pub pointer_read : (m : HashMap (String Global) P S) (word : List ℕ) → pointer_in (table_of key m) word ≡ option_map key (get_by_text m word)
  pointer_read m word = pointer_found key word m.entries

  module _ (m n : HashMap (String Global) P S) where
    module _ (bs : List ℕ) (w : Option P) (updates : UpdatesBy string_eq (λ k. bytes_eq bs (string_bytes k)) m n w) where
      pub pointer_there : pointer_in (table_of key n) bs ≡ option_map key w
      pointer_there = pointer_read n bs ∙ ap (option_map key) (hash_map_updates_text bs m n w updates bs ∙ cond-true (bytes_eq bs bs) w (get_by_text m bs) ((bytes_eq-Decides bs bs).1 refl))

      pub pointer_elsewhere : (x : List ℕ) → x ≢ bs → pointer_in (table_of key n) x ≡ pointer_in (table_of key m) x
      pointer_elsewhere x other =
          let apart = false_from_ne_true (bytes_eq bs x) (λ is. other (sym ((bytes_eq-Decides bs x).0 is))) in
          pointer_read n x ∙ (ap (option_map key) (hash_map_updates_text bs m n w updates x ∙ cond-false (bytes_eq bs x) w (get_by_text m x) apart) ∙ sym (pointer_read m x))

    same_at_key : ((k : String Global) → get string_eq n k ≡ get string_eq m k) → (word : List ℕ) (k : String Global) → bytes_eq word (string_bytes k) ≡ true → get_by_text n word ≡ get_by_text m word
    same_at_key same word k is = subst (λ (bs : List ℕ). get_by_text n bs ≡ get_by_text m bs) (sym ((bytes_eq-Decides word (string_bytes k)).0 is)) (same k)

    pub pointers_same : ((k : String Global) → get string_eq n k ≡ get string_eq m k) → (word : List ℕ) → pointer_in (table_of key n) word ≡ pointer_in (table_of key m) word
    pointers_same same word = pointer_read n word ∙ (ap (option_map key) (by (get_by_text n word) refl (get_by_text m word) refl) ∙ sym (pointer_read m word))
      where
        by : (a : Option P) → get_by_text n word ≡ a → (b : Option P) → get_by_text m word ≡ b → get_by_text n word ≡ get_by_text m word
        by None is_a None is_b = is_a ∙ sym is_b
        by (Some p) is_a b is_b = let k = found_key (is_text word) n.entries p is_a in same_at_key same word k.0 k.1
        by None is_a (Some q) is_b = let k = found_key (is_text word) m.entries q is_b in same_at_key same word k.0 k.1

pub is_some_mapped : {X Y : Type 0} (f : X → Y) (o : Option X) → is_some (option_map f o) ≡ is_some o
is_some_mapped f None = refl
is_some_mapped f (Some x) = refl
