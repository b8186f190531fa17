-- The sets that changes make.
use Rattle.std.proofs.Common.{◌≡◌, ◌≢◌, ℕ, inl, inr, ⊎_elim, List, [], ◌∷◌, Some, refl, sym, ap, ◌∙◌, subst}
use Rattle.std.specs.Prelude.{◌⊎◌}
use Rattle.std.specs.Option.{option_map}
use Rattle.std.proofs.lemmas.Bool.{cases_eq}
use Rattle.arena_traits.specs.Entries.{ArenaView, found}
use Rattle.surject_arena.specs.Histories.{Change, starts_set, adds_key, unites, grows, Makes, History, pairs_of, HasPair, AreEquated, itself, paired, turned, chained, SetsAreTheClasses}
use Rattle.surject_arena.specs.Surjections.{Surjection, entry_in, key_at, set_at, IsKey, IsKeyOf, AreInOneSet, HasValue, IsSurjection}
use Rattle.surject_arena.specs.SetCalls.{IsAdded, IsAbsorbed}
use Rattle.surject_arena.proofs.OptionLemmas.{same_some, none_some, from_mapped}
use Rattle.surject_arena.proofs.PartitionLemmas.{name_is}

module _ {Gen K : Type 0} where
  added_key : (old new : ArenaView Gen (K × (ℕ × Gen))) (k : K) (set p : ℕ × Gen) → IsAdded old (k, set) p new → (i u : ℕ × Gen) (l : K) → entry_in new i.0 ≡ Some (i.1, (l, u))
      → ((i ≡ p) × (u ≡ set)) ⊎ (entry_in old i.0 ≡ Some (i.1, (l, u)))
  added_key old new k set p added i u l stored = ⊎_elim
      (λ same.
      let both : (i.1, (l, u)) ≡ (p.1, (k, set)) = same_some (i.1, (l, u)) (p.1, (k, set)) (sym stored ∙ (ap (entry_in new) same ∙ added.entries.stored)) in
      inl (name_is i p same (ap (λ (x : Gen × (K × (ℕ × Gen))). x.0) both), ap (λ (x : Gen × (K × (ℕ × Gen))). x.1.1) both))
      (λ other. inr (sym (added.entries.rest i.0 other) ∙ stored))
      (cases_eq i.0 p.0)

  kept_key : (old new : ArenaView Gen (K × (ℕ × Gen))) (k : K) (set p : ℕ × Gen) → IsAdded old (k, set) p new → (i u : ℕ × Gen) (l : K) → entry_in old i.0 ≡ Some (i.1, (l, u)) → entry_in new i.0 ≡ Some (i.1, (l, u))
  kept_key old new k set p added i u l stored = added.entries.rest i.0 (λ same. none_some (i.1, (l, u)) (entry_in old p.0) added.entries.free (ap (entry_in old) (sym same) ∙ stored)) ∙ stored

module _ {Gen : Type 0} where
  first_pairs : (change : Change Gen) (changes : List (Change Gen)) (i j : ℕ × Gen) → HasPair (pairs_of (change ∷ [])) i j → HasPair (pairs_of (change ∷ changes)) i j
  first_pairs (starts_set p) changes i j pair = absurd pair
  first_pairs (adds_key p q) changes i j (inl same) = inl same
  first_pairs (adds_key p q) changes i j (inr none) = absurd none
  first_pairs (unites p q) changes i j (inl same) = inl same
  first_pairs (unites p q) changes i j (inr none) = absurd none
  first_pairs grows changes i j pair = absurd pair

  later_pairs : (change : Change Gen) (changes : List (Change Gen)) (i j : ℕ × Gen) → HasPair (pairs_of changes) i j → HasPair (pairs_of (change ∷ changes)) i j
  later_pairs (starts_set p) changes i j pair = pair
  later_pairs (adds_key p q) changes i j pair = inr pair
  later_pairs (unites p q) changes i j pair = inr pair
  later_pairs grows changes i j pair = pair

  split_pairs : (change : Change Gen) (changes : List (Change Gen)) (i j : ℕ × Gen) → HasPair (pairs_of (change ∷ changes)) i j → HasPair (pairs_of (change ∷ [])) i j ⊎ HasPair (pairs_of changes) i j
  split_pairs (starts_set p) changes i j pair = inr pair
  split_pairs (adds_key p q) changes i j (inl same) = inl (inl same)
  split_pairs (adds_key p q) changes i j (inr pair) = inr pair
  split_pairs (unites p q) changes i j (inl same) = inl (inl same)
  split_pairs (unites p q) changes i j (inr pair) = inr pair
  split_pairs grows changes i j pair = inr pair

module _ {Gen K V : Type 0} where
  pub is_key : (s : Surjection Gen K V) (w p : ℕ × Gen) → IsKeyOf s w p → IsKey s p
  is_key s w p in_w = record { value = (in_w.0, w); stored = in_w.1 }

  pub key_in_set : (s : Surjection Gen K V) (p : ℕ × Gen) (valid : IsKey s p) → IsKeyOf s valid.value.1 p
  key_in_set s p valid = (valid.value.0, valid.stored)

  set_of : (s : Surjection Gen K V) (w p : ℕ × Gen) → IsKeyOf s w p → set_at s p.0 ≡ Some w
  set_of s w p in_w = ap (option_map (λ e. e.1.1)) in_w.1

  one_set : (s : Surjection Gen K V) (u w p : ℕ × Gen) → IsKeyOf s u p → IsKeyOf s w p → u ≡ w
  one_set s u w p in_u in_w = same_some u w (sym (set_of s u p in_u) ∙ set_of s w p in_w)

  key_of_set : (s : Surjection Gen K V) (p w : ℕ × Gen) (k : K) → key_at s p.0 ≡ Some (p.1, k) → set_at s p.0 ≡ Some w → IsKeyOf s w p
  key_of_set s p w k key set =
      let e = from_mapped (λ (x : Gen × (K × (ℕ × Gen))). let y : Gen × K = (x.0, x.1.0) in y) (entry_in s.keys p.0) (p.1, k) key in
      let own : e.0.1.1 ≡ w = same_some e.0.1.1 w (sym (ap (option_map (λ (x : Gen × (K × (ℕ × Gen))). x.1.1)) e.1) ∙ set) in
      (k, e.1 ∙ (ap (λ (x : Gen × K). Some (x.0, (x.1, e.0.1.1))) e.2 ∙ ap (λ (x : ℕ × Gen). Some (p.1, (k, x))) own))

  key_stored : (s : Surjection Gen K V) (p w : ℕ × Gen) (in_w : IsKeyOf s w p) → key_at s p.0 ≡ Some (p.1, in_w.0)
  key_stored s p w in_w = ap (option_map (λ e. (e.0, e.1.0))) in_w.1

  pub same_name : (s : Surjection Gen K V) (u w : ℕ × Gen) (t r : V) (n m : ℕ) → HasValue s u t n → HasValue s w r m → u.0 ≡ w.0 → u ≡ w
  same_name s u w t r n m has_u has_w same =
      let both : (u.1, (t, n)) ≡ (w.1, (r, m)) = same_some (u.1, (t, n)) (w.1, (r, m)) (sym has_u ∙ (ap (entry_in s.values) same ∙ has_w)) in
      name_is u w same (ap (λ (x : Gen × (V × ℕ)). x.0) both)

  module _ (following : Gen → Gen) (old new : Surjection Gen K V) (is : IsSurjection old) where
    module _ (to from : ℕ × Gen) (t : V) (absorbs : IsAbsorbed old new following to from t) where
      is_from : (i u : ℕ × Gen) → IsKeyOf old u i → (u ≡ from) ⊎ (set_at old i.0 ≢ Some from)
      is_from i u in_u = ⊎_elim
          (λ same. let known = is.valued i.0 u (set_of old u i in_u) in inl (same_name old u from known.0 t known.1 absorbs.more known.2 absorbs.dropped same))
          (λ other. inr (λ at. other (ap (λ (x : ℕ × Gen). x.0) (same_some u from (sym (set_of old u i in_u) ∙ at)))))
          (cases_eq u.0 from.0)

      from_moves : (i : ℕ × Gen) → IsKeyOf old from i → IsKeyOf new to i
      from_moves i in_from = key_of_set new i to in_from.0 (absorbs.keys i.0 ∙ key_stored old i from in_from) (absorbs.moved i.0 (set_of old from i in_from))

      other_stays : (i u : ℕ × Gen) (in_u : IsKeyOf old u i) → set_at old i.0 ≢ Some from → IsKeyOf new u i
      other_stays i u in_u not_from = key_of_set new i u in_u.0 (absorbs.keys i.0 ∙ key_stored old i u in_u) (absorbs.sets i.0 not_from ∙ set_of old u i in_u)

      was_in : (i u : ℕ × Gen) → IsKeyOf new u i → ((u ≡ to) × IsKeyOf old from i) ⊎ IsKeyOf old u i
      was_in i u in_u =
          let e = from_mapped (λ (x : Gen × (K × (ℕ × Gen))). let y : Gen × K = (x.0, x.1.0) in y) (entry_in old.keys i.0) (i.1, in_u.0) (sym (absorbs.keys i.0) ∙ key_stored new i u in_u) in
          let before : IsKeyOf old e.0.1.1 i = key_of_set old i e.0.1.1 in_u.0 (sym (absorbs.keys i.0) ∙ key_stored new i u in_u) (ap (option_map (λ (x : Gen × (K × (ℕ × Gen))). x.1.1)) e.1) in
          by e.0.1.1 before (is_from i e.0.1.1 before)
        where
          by : (w : ℕ × Gen) → IsKeyOf old w i → (w ≡ from) ⊎ (set_at old i.0 ≢ Some from) → ((u ≡ to) × IsKeyOf old from i) ⊎ IsKeyOf old u i
          by w before (inl same) =
              let in_from = subst (λ (x : ℕ × Gen). IsKeyOf old x i) same before in
              inl (one_set new u to i in_u (from_moves i in_from), in_from)
          by w before (inr not_from) = inr (subst (λ (x : ℕ × Gen). IsKeyOf old x i) (one_set new w u i (other_stays i w before not_from) in_u) before)

      pub absorbed_keeps : (i j : ℕ × Gen) → AreInOneSet old i j → AreInOneSet new i j
      absorbed_keeps i j one = by (is_from i one.0 one.1)
        where
          by : (one.0 ≡ from) ⊎ (set_at old i.0 ≢ Some from) → AreInOneSet new i j
          by (inl same) = (to, from_moves i (subst (λ (x : ℕ × Gen). IsKeyOf old x i) same one.1), from_moves j (subst (λ (x : ℕ × Gen). IsKeyOf old x j) same one.2))
          by (inr not_from) = (one.0, other_stays i one.0 one.1 not_from, other_stays j one.0 one.2 (λ at. not_from (set_of old one.0 i one.1 ∙ (sym (set_of old one.0 j one.2) ∙ at))))

      pub absorbed_joins : (i j : ℕ × Gen) → IsKeyOf old to i → IsKeyOf old from j → AreInOneSet new i j
      absorbed_joins i j in_to in_from = (to, other_stays i to in_to (λ at. absorbs.differ (same_some to from (sym (set_of old to i in_to) ∙ at))), from_moves j in_from)

      pub absorbed_equates : (pairs : List ((ℕ × Gen) × (ℕ × Gen))) (a b : ℕ × Gen) → IsKeyOf old to a → IsKeyOf old from b → AreEquated pairs a b → ((i j : ℕ × Gen) → AreInOneSet old i j → AreEquated pairs i j)
          → (i j : ℕ × Gen) → AreInOneSet new i j → AreEquated pairs i j
      absorbed_equates pairs a b in_to in_from meets old_equates i j one = by (was_in i one.0 one.1) (was_in j one.0 one.2)
        where
          across : (x y u : ℕ × Gen) → u ≡ to → IsKeyOf old from x → IsKeyOf old u y → AreEquated pairs x y
          across x y u same in_x in_y =
              chained x b y (old_equates x b (from, in_x, in_from)) (chained b a y (turned a b meets) (old_equates a y (to, in_to, subst (λ (w : ℕ × Gen). IsKeyOf old w y) same in_y)))

          by : ((one.0 ≡ to) × IsKeyOf old from i) ⊎ IsKeyOf old one.0 i → ((one.0 ≡ to) × IsKeyOf old from j) ⊎ IsKeyOf old one.0 j → AreEquated pairs i j
          by (inl x) (inl y) = old_equates i j (from, x.1, y.1)
          by (inl x) (inr y) = across i j one.0 x.0 x.1 y
          by (inr x) (inl y) = turned j i (across j i one.0 y.0 y.1 x)
          by (inr x) (inr y) = old_equates i j (one.0, x, y)

    pub change_keeps : (change : Change Gen) → Makes following old change new → (i j : ℕ × Gen) → AreInOneSet old i j → AreInOneSet new i j
    change_keeps (starts_set p) made i j one =
        (one.0, (one.1.0, kept_key old.keys new.keys made.0 made.2.set p made.2.key i one.0 one.1.0 one.1.1), (one.2.0, kept_key old.keys new.keys made.0 made.2.set p made.2.key j one.0 one.2.0 one.2.1))
    change_keeps (adds_key p q) made i j one =
        (one.0, (one.1.0, kept_key old.keys new.keys made.0 made.1.set q made.1.key i one.0 one.1.0 one.1.1), (one.2.0, kept_key old.keys new.keys made.0 made.1.set q made.1.key j one.0 one.2.0 one.2.1))
    change_keeps (unites p q) made i j one = ⊎_elim
        (λ first. absorbed_keeps made.2.v made.2.w made.0 first.1 i j one)
        (λ second. absorbed_keeps made.2.w made.2.v made.0 second.1 i j one)
        made.2.absorbed
    change_keeps grows made i j one = subst (λ (s : Surjection Gen K V). AreInOneSet s i j) (sym made.0) one

    pub change_pairs : (change : Change Gen) → Makes following old change new → (i j : ℕ × Gen) → HasPair (pairs_of (change ∷ [])) i j → AreInOneSet new i j
    change_pairs (starts_set p) made i j pair = absurd pair
    change_pairs (adds_key p q) made i j (inl same) =
        subst (λ (x : (ℕ × Gen) × (ℕ × Gen)). AreInOneSet new x.0 x.1) same
        (made.1.set, (made.1.beside.0, kept_key old.keys new.keys made.0 made.1.set q made.1.key p made.1.set made.1.beside.0 made.1.beside.1), (made.0, made.1.key.entries.stored))
    change_pairs (adds_key p q) made i j (inr none) = absurd none
    change_pairs (unites p q) made i j (inl same) =
        subst (λ (x : (ℕ × Gen) × (ℕ × Gen)). AreInOneSet new x.0 x.1) same (⊎_elim
        (λ first. absorbed_joins made.2.v made.2.w made.0 first.1 p q made.2.first made.2.second)
        (λ second. let one = absorbed_joins made.2.w made.2.v made.0 second.1 q p made.2.second made.2.first in (one.0, one.2, one.1))
        made.2.absorbed)
    change_pairs (unites p q) made i j (inr none) = absurd none
    change_pairs grows made i j pair = absurd pair

    pub change_equates : (pairs : List ((ℕ × Gen) × (ℕ × Gen))) (change : Change Gen) → Makes following old change new → ((i j : ℕ × Gen) → HasPair (pairs_of (change ∷ [])) i j → HasPair pairs i j)
        → ((i j : ℕ × Gen) → AreInOneSet old i j → AreEquated pairs i j) → (i j : ℕ × Gen) → AreInOneSet new i j → AreEquated pairs i j
    change_equates pairs (starts_set p) made among old_equates i j one =
        by (added_key old.keys new.keys made.0 made.2.set p made.2.key i one.0 one.1.0 one.1.1) (added_key old.keys new.keys made.0 made.2.set p made.2.key j one.0 one.2.0 one.2.1)
      where
        fresh : (x u : ℕ × Gen) → u ≡ made.2.set → IsKeyOf old u x → ⊥
        fresh x u same in_u =
            let known = is.valued x.0 u (set_of old u x in_u) in
            none_some (u.1, (known.0, known.1)) (entry_in old.values made.2.set.0) made.2.value.entries.free (ap (λ (w : ℕ × Gen). entry_in old.values w.0) (sym same) ∙ known.2)

        by : ((i ≡ p) × (one.0 ≡ made.2.set)) ⊎ (entry_in old.keys i.0 ≡ Some (i.1, (one.1.0, one.0))) → ((j ≡ p) × (one.0 ≡ made.2.set)) ⊎ (entry_in old.keys j.0 ≡ Some (j.1, (one.2.0, one.0))) → AreEquated pairs i j
        by (inl x) (inl y) = subst (λ (z : ℕ × Gen). AreEquated pairs i z) (x.0 ∙ sym y.0) (itself i)
        by (inl x) (inr y) = absurd (fresh j one.0 x.1 (one.2.0, y))
        by (inr x) (inl y) = absurd (fresh i one.0 y.1 (one.1.0, x))
        by (inr x) (inr y) = old_equates i j (one.0, (one.1.0, x), (one.2.0, y))
    change_equates pairs (adds_key p q) made among old_equates i j one =
        by (added_key old.keys new.keys made.0 made.1.set q made.1.key i one.0 one.1.0 one.1.1) (added_key old.keys new.keys made.0 made.1.set q made.1.key j one.0 one.2.0 one.2.1)
      where
        beside : (x u : ℕ × Gen) → u ≡ made.1.set → IsKeyOf old u x → AreEquated pairs q x
        beside x u same in_u = chained q p x (turned p q (paired p q (among p q (inl refl)))) (old_equates p x (made.1.set, made.1.beside, subst (λ (w : ℕ × Gen). IsKeyOf old w x) same in_u))

        by : ((i ≡ q) × (one.0 ≡ made.1.set)) ⊎ (entry_in old.keys i.0 ≡ Some (i.1, (one.1.0, one.0))) → ((j ≡ q) × (one.0 ≡ made.1.set)) ⊎ (entry_in old.keys j.0 ≡ Some (j.1, (one.2.0, one.0))) → AreEquated pairs i j
        by (inl x) (inl y) = subst (λ (z : ℕ × Gen). AreEquated pairs i z) (x.0 ∙ sym y.0) (itself i)
        by (inl x) (inr y) = subst (λ (z : ℕ × Gen). AreEquated pairs z j) (sym x.0) (beside j one.0 x.1 (one.2.0, y))
        by (inr x) (inl y) = subst (λ (z : ℕ × Gen). AreEquated pairs i z) (sym y.0) (turned q i (beside i one.0 y.1 (one.1.0, x)))
        by (inr x) (inr y) = old_equates i j (one.0, (one.1.0, x), (one.2.0, y))
    change_equates pairs (unites p q) made among old_equates i j one = ⊎_elim
        (λ first. absorbed_equates made.2.v made.2.w made.0 first.1 pairs p q made.2.first made.2.second (paired p q (among p q (inl refl))) old_equates i j one)
        (λ second. absorbed_equates made.2.w made.2.v made.0 second.1 pairs q p made.2.second made.2.first (turned p q (paired p q (among p q (inl refl)))) old_equates i j one)
        made.2.absorbed
    change_equates pairs grows made among old_equates i j one = old_equates i j (subst (λ (s : Surjection Gen K V). AreInOneSet s i j) made.0 one)

  module _ (following : Gen → Gen) where
    history_equates : (pairs : List ((ℕ × Gen) × (ℕ × Gen))) (changes : List (Change Gen)) (old new : Surjection Gen K V) → History following old changes new → ((i j : ℕ × Gen) → HasPair (pairs_of changes) i j → HasPair pairs i j)
        → ((i j : ℕ × Gen) → AreInOneSet old i j → AreEquated pairs i j) → (i j : ℕ × Gen) → AreInOneSet new i j → AreEquated pairs i j
    history_equates pairs [] old new same among old_equates i j one = old_equates i j (subst (λ (s : Surjection Gen K V). AreInOneSet s i j) same one)
    history_equates pairs (change ∷ changes) old new history among old_equates i j one =
        history_equates pairs changes history.1 new history.3 (λ x y pair. among x y (later_pairs change changes x y pair))
        (change_equates following old history.1 history.0 pairs change history.2 (λ x y pair. among x y (first_pairs change changes x y pair)) old_equates) i j one

    history_keeps : (changes : List (Change Gen)) (old new : Surjection Gen K V) → History following old changes new → (i j : ℕ × Gen) → AreInOneSet old i j → AreInOneSet new i j
    history_keeps [] old new same i j one = subst (λ (s : Surjection Gen K V). AreInOneSet s i j) (sym same) one
    history_keeps (change ∷ changes) old new history i j one = history_keeps changes history.1 new history.3 i j (change_keeps following old history.1 history.0 change history.2 i j one)

    history_pairs : (changes : List (Change Gen)) (old new : Surjection Gen K V) → History following old changes new → (i j : ℕ × Gen) → HasPair (pairs_of changes) i j → AreInOneSet new i j
    history_pairs [] old new same i j pair = absurd pair
    history_pairs (change ∷ changes) old new history i j pair = ⊎_elim
        (λ first. history_keeps changes history.1 new history.3 i j (change_pairs following old history.1 history.0 change history.2 i j first))
        (λ later. history_pairs changes history.1 new history.3 i j later)
        (split_pairs change changes i j pair)

  pub equated_together : (s : Surjection Gen K V) (pairs : List ((ℕ × Gen) × (ℕ × Gen))) → ((i j : ℕ × Gen) → HasPair pairs i j → AreInOneSet s i j) → (p q : ℕ × Gen) → AreEquated pairs p q
      → (IsKey s p → AreInOneSet s p q) × (IsKey s q → AreInOneSet s p q)
  equated_together s pairs hold _ _ (itself p) = (λ valid. (valid.value.1, key_in_set s p valid, key_in_set s p valid), λ valid. (valid.value.1, key_in_set s p valid, key_in_set s p valid))
  equated_together s pairs hold _ _ (paired p q pair) = (λ valid. hold p q pair, λ valid. hold p q pair)
  equated_together s pairs hold _ _ (turned p q equated) =
      let both = equated_together s pairs hold p q equated in
      (λ valid. let one = both.1 valid in (one.0, one.2, one.1), λ valid. let one = both.0 valid in (one.0, one.2, one.1))
  equated_together s pairs hold _ _ (chained p q r first second) =
      let left = equated_together s pairs hold p q first in
      let right = equated_together s pairs hold q r second in (
        λ valid.
            let one = left.0 valid in
            let two = right.0 (is_key s one.0 q one.2) in
            (one.0, one.1, subst (λ (w : ℕ × Gen). IsKeyOf s w r) (one_set s two.0 one.0 q two.1 one.2) two.2),
        λ valid.
            let two = right.1 valid in
            let one = left.1 (is_key s two.0 q two.1) in
            (one.0, one.1, subst (λ (w : ℕ × Gen). IsKeyOf s w r) (one_set s two.0 one.0 q two.1 one.2) two.2),
      )

pub sets_are_the_classes : (Gen K V : Type 0) → SetsAreTheClasses Gen K V
sets_are_the_classes Gen K V following old new changes empty history is p q = (
  λ one. (
    is_key new one.0 p one.1,
    is_key new one.0 q one.2,
    history_equates following (pairs_of changes) changes old new history (λ i j pair. pair) (λ i j both. absurd (no_key i both.1.1)) p q one,
  ),
  λ both. (equated_together new (pairs_of changes) (history_pairs following changes old new history) p q both.2).0 both.0,
)
  where
    no_key : (i : ℕ × Gen) {x : Gen × (K × (ℕ × Gen))} → entry_in old.keys i.0 ≡ Some x → ⊥
    no_key i {x} stored = none_some x (entry_in old.keys i.0) (ap (found i.0) empty) stored
