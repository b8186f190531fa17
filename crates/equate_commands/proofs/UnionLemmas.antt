-- The classes of two words become one.
use Rattle.std.proofs.Common.{◌≡◌, ◌≢◌, ◌⊎◌, inl, inr, ℕ, List, Some, true, false, String, string_bytes, Global, refl, sym, ap, ◌∙◌, subst, ⊎_elim}
use Rattle.std.specs.Option.{option_map}
use Rattle.std.proofs.lemmas.Bool.{cases_eq}
use Rattle.surject_arena.specs.Surjections.{Surjection, entry_in, set_at, key_at, IsSurjection, HasValue}
use Rattle.surject_arena.specs.SetCalls.{IsAbsorbed, AreUnited as SetsAreUnited}
use Rattle.equate_commands.specs.WordClasses.{WordClasses, pointer_of, Agree, AreEqual, AreUnited, JoinsClasses, IsInEitherClass}
use Rattle.equate_commands.proofs.ClassLemmas.{same_some, same_pair, set_stored, IsIn, equal_in, equal_from, in_one, key_in, known_in, either_equal, equal_sym, equal_trans}

cases_set : {Gen V K : Type 0} (s : Surjection Gen K V) (v w : ℕ × Gen) (t u : V) (n m : ℕ) → HasValue s v t n → HasValue s w u m → (v ≡ w) ⊎ (v ≢ w)
cases_set {Gen} {V} {K} s v w t u n m at_v at_w = ⊎_elim
    (λ same. let both = same_some (v.1, (t, n)) (w.1, (u, m)) (sym at_v ∙ (ap (entry_in s.values) same ∙ at_w)) in inl (same_pair v w same (ap (λ (e : Gen × (V × ℕ)). e.0) both)))
    (λ differ. inr (λ is. differ (ap (λ r. r.0) is)))
    (cases_eq v.0 w.0)

module _ {Gen : Type 0} (following : Gen → Gen) (old new : WordClasses Gen) (pointers : (x : List ℕ) → pointer_of new x ≡ pointer_of old x) (agree : Agree old.table old.arena) where
  pub same_keys_agree : ((i : ℕ) → key_at new.arena i ≡ key_at old.arena i) → Agree new.table new.arena
  same_keys_agree keys x q =
      let words = ap (option_map (λ (e : Gen × String Global). (e.0, string_bytes e.1))) (keys q.0) in
      (λ at. words ∙ (agree x q).0 (sym (pointers x) ∙ at), λ at. pointers x ∙ (agree x q).1 (sym words ∙ at))

  module _ (is : IsSurjection old.arena) (to from : ℕ × Gen) (absorbed : IsAbsorbed old.arena new.arena following to from tt) (a b : List ℕ) (a_in : IsIn old a to) (b_in : IsIn old b from) where
    agreed : Agree new.table new.arena
    agreed = same_keys_agree absorbed.keys

    cases_from : (x : List ℕ) (z : ℕ × Gen) → IsIn old x z → (z ≡ from) ⊎ (z ≢ from)
    cases_from x z (q, at, in_z) = let valued = is.valued q.0 z in_z in cases_set old.arena z from valued.0 tt valued.1 absorbed.more valued.2 absorbed.dropped

    moved : (x : List ℕ) → IsIn old x from → IsIn new x to
    moved x (q, at, in_from) = (q, pointers x ∙ at, absorbed.moved q.0 in_from)

    stayed : (x : List ℕ) (z : ℕ × Gen) → z ≢ from → IsIn old x z → IsIn new x z
    stayed x z other (q, at, in_z) = (q, pointers x ∙ at, absorbed.sets q.0 (λ in_from. other (same_some z from (sym in_z ∙ in_from))) ∙ in_z)

    back : (x : List ℕ) (u : ℕ × Gen) → IsIn new x u → (IsIn old x from × (u ≡ to)) ⊎ IsIn old x u
    back x u (q, at, in_u) =
        let was = known_in old agree x q (sym (pointers x) ∙ at) in
        ⊎_elim
        (λ is_from. let in_from = subst (λ (z : ℕ × Gen). IsIn old x z) is_from was.1 in
        inl (in_from, in_one new x u to (q, at, in_u) (moved x in_from)))
        (λ other. inr (subst (λ (z : ℕ × Gen). IsIn old x z) (in_one new x was.0 u (stayed x was.0 other was.1) (q, at, in_u)) was.1))
        (cases_from x was.0 was.1)

    either_in : (x : List ℕ) → IsInEitherClass old a b x → IsIn new x to
    either_in x (inl (inl is_a)) = subst (λ (z : List ℕ). IsIn new z to) (sym is_a) (stayed a to absorbed.differ a_in)
    either_in x (inl (inr equal)) =
        let both = equal_in old a x equal in
        stayed x to absorbed.differ (subst (λ (z : ℕ × Gen). IsIn old x z) (in_one old a both.0 to both.1 a_in) both.2)
    either_in x (inr (inl is_b)) = subst (λ (z : List ℕ). IsIn new z to) (sym is_b) (moved b b_in)
    either_in x (inr (inr equal)) =
        let both = equal_in old b x equal in
        moved x (subst (λ (z : ℕ × Gen). IsIn old x z) (in_one old b both.0 from both.1 b_in) both.2)

    of_to : (x : List ℕ) (u : ℕ × Gen) → IsIn old x u → u ≡ to → IsInEitherClass old a b x
    of_to x u in_u is_to = inl (inr (equal_from old agree a x to a_in (subst (λ (z : ℕ × Gen). IsIn old x z) is_to in_u)))

    of_from : (x : List ℕ) → IsIn old x from → IsInEitherClass old a b x
    of_from x in_from = inr (inr (equal_from old agree b x from b_in in_from))

    to_old : (x y : List ℕ) → AreEqual new x y → AreEqual old x y ⊎ (IsInEitherClass old a b x × IsInEitherClass old a b y)
    to_old x y equal =
        let both = equal_in new x y equal in
        ⊎_elim
        (λ from_x. ⊎_elim
        (λ from_y. inr (of_from x from_x.0, of_from y from_y.0))
        (λ was_y. inr (of_from x from_x.0, of_to y both.0 was_y from_x.1))
        (back y both.0 both.2))
        (λ was_x. ⊎_elim
        (λ from_y. inr (of_to x both.0 was_x from_y.1, of_from y from_y.0))
        (λ was_y. inl (equal_from old agree x y both.0 was_x was_y))
        (back y both.0 both.2))
        (back x both.0 both.1)

    to_new : (x y : List ℕ) → AreEqual old x y ⊎ (IsInEitherClass old a b x × IsInEitherClass old a b y) → AreEqual new x y
    to_new x y (inr (either_x, either_y)) = equal_from new agreed x y to (either_in x either_x) (either_in y either_y)
    to_new x y (inl equal) =
        let both = equal_in old x y equal in
        ⊎_elim
        (λ is_from. equal_from new agreed x y to (moved x (subst (λ (z : ℕ × Gen). IsIn old x z) is_from both.1)) (moved y (subst (λ (z : ℕ × Gen). IsIn old y z) is_from both.2)))
        (λ other. equal_from new agreed x y both.0 (stayed x both.0 other both.1) (stayed y both.0 other both.2))
        (cases_from x both.0 both.1)

    pub joins : JoinsClasses old new a b
    joins x y = (to_old x y, to_new x y)

    pub were_two : AreEqual old a b → ⊥
    were_two equal =
        let both = equal_in old a b equal in
        absorbed.differ (in_one old a to both.0 a_in both.1 ∙ in_one old b both.0 from both.2 b_in)

  swap_either : (a b x : List ℕ) → IsInEitherClass old a b x → IsInEitherClass old b a x
  swap_either a b x (inl of_a) = inr of_a
  swap_either a b x (inr of_b) = inl of_b

  swap_right : (a b x y : List ℕ) → AreEqual old x y ⊎ (IsInEitherClass old a b x × IsInEitherClass old a b y) → AreEqual old x y ⊎ (IsInEitherClass old b a x × IsInEitherClass old b a y)
  swap_right a b x y (inl equal) = inl equal
  swap_right a b x y (inr (either_x, either_y)) = inr (swap_either a b x either_x, swap_either a b y either_y)

  joins_swapped : (a b : List ℕ) → JoinsClasses old new b a → JoinsClasses old new a b
  joins_swapped a b joined x y = (λ equal. swap_right b a x y ((joined x y).0 equal), λ either. (joined x y).1 (swap_right a b x y either))

  pub are_united : IsSurjection old.arena → (p q r : ℕ × Gen) → SetsAreUnited old.arena new.arena following p q tt r → (a b : List ℕ) → pointer_of old a ≡ Some p → pointer_of old b ≡ Some q → AreUnited old new a b true
  are_united is p q r united a b at_a at_b = ⊎_elim
      (λ (larger : _). both_ways (joins is united.v united.w larger.1 a b in_v in_w) (were_two is united.v united.w larger.1 a b in_v in_w))
      (λ (smaller : _). both_ways (joins_swapped a b (joins is united.w united.v smaller.1 b a in_w in_v)) (λ equal. were_two is united.w united.v smaller.1 b a in_w in_v (equal_sym old agree a b equal)))
      united.absorbed
    where
      in_v : IsIn old a united.v
      in_v = (p, at_a, set_stored old.arena p.0 p.1 united.first.0 united.v united.first.1)

      in_w : IsIn old b united.w
      in_w = (q, at_b, set_stored old.arena q.0 q.1 united.second.0 united.w united.second.1)

      both_ways : JoinsClasses old new a b → (AreEqual old a b → ⊥) → AreUnited old new a b true
      both_ways joined two = record {
        pointers = pointers;
        classes = joined;
        two = (λ yes. two, λ not. refl);
      }

  pub united_agree : (p q r : ℕ × Gen) → SetsAreUnited old.arena new.arena following p q tt r → Agree new.table new.arena
  united_agree p q r united = ⊎_elim (λ (larger : _). same_keys_agree larger.1.keys) (λ (smaller : _). same_keys_agree smaller.1.keys) united.absorbed

module _ {Gen : Type 0} (c : WordClasses Gen) (agree : Agree c.table c.arena) (a b : List ℕ) (p q : ℕ × Gen) (at_a : pointer_of c a ≡ Some p) (at_b : pointer_of c b ≡ Some q)
    (one : (v w : ℕ × Gen) → ((k : String Global) × (entry_in c.arena.keys p.0 ≡ Some (p.1, (k, v)))) → ((k : String Global) × (entry_in c.arena.keys q.0 ≡ Some (q.1, (k, w)))) → v ≡ w) where
  equal : AreEqual c a b
  equal =
      let in_v = known_in c agree a p at_a in
      let in_w = known_in c agree b q at_b in
      let set_v = ap (λ (r : ℕ × Gen). set_at c.arena r.0) (same_some p in_v.1.0 (sym at_a ∙ in_v.1.1)) ∙ in_v.1.2 in
      let set_w = ap (λ (r : ℕ × Gen). set_at c.arena r.0) (same_some q in_w.1.0 (sym at_b ∙ in_w.1.1)) ∙ in_w.1.2 in
      let same = one in_v.0 in_w.0 (key_in c agree a p in_v.0 at_a set_v) (key_in c agree b q in_w.0 at_b set_w) in
      equal_from c agree a b in_v.0 in_v.1 (subst (λ (w : ℕ × Gen). IsIn c b w) (sym same) in_w.1)

  to_equal : (x y : List ℕ) → AreEqual c x y ⊎ (IsInEitherClass c a b x × IsInEitherClass c a b y) → AreEqual c x y
  to_equal x y (inl are) = are
  to_equal x y (inr (either_x, either_y)) = equal_trans c agree x a y (equal_sym c agree a x (either_equal c agree a b x equal either_x)) (either_equal c agree a b y equal either_y)

  pub stay_united : AreUnited c c a b false
  stay_united = record {
    pointers = λ x. refl;
    classes = λ x y. (λ are. inl are, to_equal x y);
    two = (λ yes. absurd (cc), λ not. absurd (not equal));
  }
