-- A word is removed from its class.
use Rattle.std.proofs.Common.{◌≡◌, ◌≢◌, ℕ, List, Option, None, Some, String, Global, refl, sym, ap, ◌∙◌, ⊎_elim}
use Rattle.std.proofs.lemmas.Bool.{cases_eq}
use Rattle.arena_traits.specs.Entries.{AscendsFrom, ArenaView, found}
use Rattle.arena_traits.proofs.EntrySearchLemmas.{found-gone, found-kept}
use Rattle.surject_arena.specs.Surjections.{entry_in}
use Rattle.surject_arena.specs.SetCalls.{IsKeyTaken}
use Rattle.equate_commands.specs.WordClasses.{WordClasses, word_at, pointer_of, Agree, AreEqual, IsDropped}
use Rattle.equate_commands.proofs.ClassLemmas.{same_some, not_none, word_in, set_in, IsIn, equal_in, equal_from}

module _ {Gen : Type 0} (following : Gen → Gen) (old new : WordClasses Gen) (agree : Agree old.table old.arena) (ascends : AscendsFrom 1 old.arena.keys.entries) (word : List ℕ) (p : ℕ × Gen) (k : String Global) (o : Option Unit)
    (taken : IsKeyTaken old.arena new.arena following p k o) (at_word : pointer_of old word ≡ Some p) (unknown : pointer_of new word ≡ None) (rest : (x : List ℕ) → x ≢ word → pointer_of new x ≡ pointer_of old x) where
  gone : entry_in new.arena.keys p.0 ≡ None
  gone = ap (λ (s : ArenaView Gen (String Global × (ℕ × Gen))). found p.0 s.entries) taken.keys ∙ found-gone p.0 1 old.arena.keys.entries ascends

  kept : (i : ℕ) → i ≢ p.0 → entry_in new.arena.keys i ≡ entry_in old.arena.keys i
  kept i other = ap (λ (s : ArenaView Gen (String Global × (ℕ × Gen))). found i s.entries) taken.keys ∙ found-kept i p.0 old.arena.keys.entries other

  apart : (x : List ℕ) (q : ℕ × Gen) → x ≢ word → pointer_of old x ≡ Some q → q.0 ≢ p.0
  apart x q other at same =
      let both = same_some (q.1, x) (p.1, word) (sym ((agree x q).0 at) ∙ (ap (word_at old.arena) same ∙ (agree word p).0 at_word)) in
      other (ap (λ (e : Gen × List ℕ). e.1) both)

  not_word : (x : List ℕ) (q : ℕ × Gen) → pointer_of new x ≡ Some q → x ≢ word
  not_word x q at is_word = not_none q (pointer_of new x) (ap (pointer_of new) is_word ∙ unknown) at

  listed : (x : List ℕ) (q : ℕ × Gen) → pointer_of new x ≡ Some q → word_at new.arena q.0 ≡ Some (q.1, x)
  listed x q at =
      let other = not_word x q at in
      let was = sym (rest x other) ∙ at in
      ap word_in (kept q.0 (apart x q other was)) ∙ (agree x q).0 was

  pointed : (x : List ℕ) (q : ℕ × Gen) → word_at new.arena q.0 ≡ Some (q.1, x) → pointer_of new x ≡ Some q
  pointed x q at = ⊎_elim
      (λ same. absurd (not_none (q.1, x) (word_at new.arena q.0) (ap (word_at new.arena) same ∙ ap word_in gone) at))
      (λ other.
      let was = (agree x q).1 (sym (ap word_in (kept q.0 other)) ∙ at) in
      rest x (λ is_word. other (ap (λ (r : ℕ × Gen). r.0) (same_some q p (sym was ∙ (ap (pointer_of old) is_word ∙ at_word))))) ∙ was)
      (cases_eq q.0 p.0)

  pub removed_agree : Agree new.table new.arena
  removed_agree x q = (listed x q, pointed x q)

  on : (x : List ℕ) (w : ℕ × Gen) → x ≢ word → IsIn old x w → IsIn new x w
  on x w other (q, at, in_w) = (q, rest x other ∙ at, ap set_in (kept q.0 (apart x q other at)) ∙ in_w)

  back : (x : List ℕ) (w : ℕ × Gen) → IsIn new x w → IsIn old x w × (x ≢ word)
  back x w (q, at, in_w) =
      let other = not_word x q at in
      let was = sym (rest x other) ∙ at in
      ((q, was, sym (ap set_in (kept q.0 (apart x q other was))) ∙ in_w), other)

  to_old : (x y : List ℕ) → AreEqual new x y → AreEqual old x y × (x ≢ word) × (y ≢ word)
  to_old x y equal =
      let both = equal_in new x y equal in
      let x_in = back x both.0 both.1 in
      let y_in = back y both.0 both.2 in
      (equal_from old agree x y both.0 x_in.0 y_in.0, x_in.1, y_in.1)

  to_new : (x y : List ℕ) → AreEqual old x y → x ≢ word → y ≢ word → AreEqual new x y
  to_new x y equal other_x other_y =
      let both = equal_in old x y equal in
      equal_from new removed_agree x y both.0 (on x both.0 other_x both.1) (on y both.0 other_y both.2)

  pub is_dropped : IsDropped old new word
  is_dropped = record {
    unknown = unknown;
    pointers = rest;
    classes = λ x y. (to_old x y, λ are. to_new x y are.0 are.1 are.2);
  }

pub unknown_dropped : {Gen : Type 0} (c : WordClasses Gen) (word : List ℕ) → pointer_of c word ≡ None → IsDropped c c word
unknown_dropped c word unknown = record {
  unknown = unknown;
  pointers = λ x other. refl;
  classes = λ x y. (
    λ equal. (equal, λ is_word. not_none equal.0 (pointer_of c x) (ap (pointer_of c) is_word ∙ unknown) equal.2, λ is_word. not_none equal.1 (pointer_of c y) (ap (pointer_of c) is_word ∙ unknown) equal.3),
    λ are. are.0,
  );
}
