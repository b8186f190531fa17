-- Values rewritten one after another, in ascending order of index.
use Rattle.std.proofs.Common.{◌≡◌, ℕ, zero, suc, ◌+◌, ◌≤◌, ◌<◌, cond, List, [], ◌∷◌, ◌++◌, map, length, Option, None, Some, refl, sym, ap, ap₂, ◌∙◌, subst, append_assoc, le_refl, arith}
use Rattle.std.specs.Prelude.{slice_index_or, slice_set, Result, Ok, Err}
use Rattle.std.specs.Option.{option_map}
use Rattle.std.proofs.lemmas.List.{append-nil, map-append}
use Rattle.std.proofs.lemmas.Bool.{lt-leb, eq-eqb, ne_eqb}
use Rattle.arena_traits.specs.Arena.{Arena, IsValid, slot_at, with_slot, entry_at}
use Rattle.arena_traits.specs.Entries.{found, with_replacement, first_key, AscendsFrom}
use Rattle.arena_traits.specs.EntryLaws.{entries_ascend, found-entries}
use Rattle.arena_traits.specs.Advancers.{entries_at_or_above, ahead, cursor_after, IsAdvance}
use Rattle.arena_traits.specs.Compressions.{values_in}
use Rattle.arena_traits.specs.declared.cursor.Cursor.{Cursor}
use Rattle.arena_traits.specs.declared.cursor.Cursor.TheVariants.{Up}
use Rattle.chain_links.specs.ChainArena.{LinkView, on_value, with_each, with_link_value, with_value_at, values_of, link_map, value_view, entry}
use Rattle.chain_arena.specs.Recasts.{link_without_value, AreAllRecast, IsRecast, IsRecastAt}
use Rattle.chain_traits.proofs.GenericArenaLemmas.{entries_at_or_above-ascends}
use Rattle.chain_links.proofs.MappedArenaLemmas.{map-with_slot, slot_at-map}

with_slot-own : {X : Type 0} (slots : List (Option X)) (n : ℕ) → with_slot slots n (slot_at slots n) ≡ slots
with_slot-own slots zero = refl
with_slot-own {X} slots (suc k) = by slots k where
  by : (xs : List (Option X)) (j : ℕ) → slice_set xs j (slice_index_or xs j None) ≡ xs
  by [] j = refl
  by (x ∷ xs) zero = refl
  by (x ∷ xs) (suc j) = ap (λ rest. x ∷ rest) (by xs j)

module _ {Gen T : Type 0} where
  abbrev bare : Option (Gen × LinkView T) → Option (Gen × LinkView (Unit {0}))
  bare o = option_map (on_value link_without_value) o

  pub value-written : (a : Arena Gen (LinkView T)) (i : ℕ) (t : T) → with_each link_without_value (with_value_at a i t) ≡ with_each link_without_value a
  value-written a i t = ap (λ (slots : List (Option (Gen × LinkView (Unit {0})))). let b : Arena Gen (LinkView (Unit {0})) = record (with_each link_without_value a) { slots = slots } in b)
      (map-with_slot bare a.slots i (option_map (on_value (with_link_value t)) (entry_at a i))
      ∙ (ap (with_slot (map bare a.slots) i) (by (entry_at a i) ∙ sym (slot_at-map (on_value link_without_value) a.slots i)) ∙ with_slot-own (map bare a.slots) i))
    where
      by : (o : Option (Gen × LinkView T)) → option_map (on_value link_without_value) (option_map (on_value (with_link_value t)) o) ≡ option_map (on_value link_without_value) o
      by None = refl
      by (Some e) = refl

  abbrev value_or : T → Option (Gen × T) → T
  value_or other None = other
  value_or other (Some e) = e.1

  ascends_to : (front : List ((ℕ × Gen) × T)) (e : (ℕ × Gen) × T) (rest : List ((ℕ × Gen) × T)) (m : ℕ) → AscendsFrom m (front ++ e ∷ rest) → m ≤ e.0.0
  ascends_to [] e rest m ascends = ascends.0
  ascends_to (f ∷ front) e rest m ascends = let later = ascends_to front e rest (suc f.0.0) ascends.1 in omega (arith, ascends.0, later)

  found-behind : (front : List ((ℕ × Gen) × T)) (e : (ℕ × Gen) × T) (rest : List ((ℕ × Gen) × T)) (m : ℕ) → AscendsFrom m (front ++ e ∷ rest) → found e.0.0 (front ++ e ∷ rest) ≡ Some (e.0.1, e.1)
  found-behind [] e rest m ascends = ap (λ b. cond b (Some (e.0.1, e.1)) (found e.0.0 rest)) (eq-eqb e.0.0 e.0.0 refl)
  found-behind (f ∷ front) e rest m ascends =
      let below = ascends_to front e rest (suc f.0.0) ascends.1 in
      ap (λ b. cond b (Some (f.0.1, f.1)) (found e.0.0 (front ++ e ∷ rest))) (ne_eqb f.0.0 e.0.0 (λ same. omega (arith, below, same)))
      ∙ found-behind front e rest (suc f.0.0) ascends.1

  replaced-behind : (u : T) (front : List ((ℕ × Gen) × T)) (e : (ℕ × Gen) × T) (rest : List ((ℕ × Gen) × T)) (m : ℕ) → AscendsFrom m (front ++ e ∷ rest)
      → with_replacement e.0.0 (λ (x : Gen × T). (x.0, u)) (front ++ e ∷ rest) ≡ front ++ (e.0, u) ∷ rest
  replaced-behind u [] e rest m ascends =
      ap (λ b. cond b ((e.0, u) ∷ rest) (e ∷ with_replacement e.0.0 (λ (x : Gen × T). (x.0, u)) rest)) (eq-eqb e.0.0 e.0.0 refl)
  replaced-behind u (f ∷ front) e rest m ascends =
      let below = ascends_to front e rest (suc f.0.0) ascends.1 in
      let left = with_replacement e.0.0 (λ (x : Gen × T). (x.0, u)) (front ++ e ∷ rest) in
      ap (λ b. cond b (((e.0.0, f.0.1), u) ∷ front ++ e ∷ rest) (f ∷ left)) (ne_eqb f.0.0 e.0.0 (λ same. omega (arith, below, same)))
      ∙ ap (λ es. f ∷ es) (replaced-behind u front e rest (suc f.0.0) ascends.1)

  entries_at_or_above-behind : (front : List ((ℕ × Gen) × T)) (e : (ℕ × Gen) × T) (rest : List ((ℕ × Gen) × T)) (m : ℕ) → AscendsFrom m (front ++ e ∷ rest) → entries_at_or_above (e.0.0 + 1) (front ++ e ∷ rest) ≡ rest
  entries_at_or_above-behind [] e rest m ascends =
      ap (λ b. cond b (e ∷ rest) (entries_at_or_above (e.0.0 + 1) rest)) (lt-leb (e.0.0 + 1) e.0.0 (omega arith)) ∙ entries_at_or_above-ascends (e.0.0 + 1) (suc e.0.0) rest (omega arith) ascends.1
  entries_at_or_above-behind (f ∷ front) e rest m ascends =
      let below = ascends_to front e rest (suc f.0.0) ascends.1 in
      ap (λ b. cond b (f ∷ front ++ e ∷ rest) (entries_at_or_above (e.0.0 + 1) (front ++ e ∷ rest))) (lt-leb (e.0.0 + 1) f.0.0 (omega (arith, below)))
      ∙ entries_at_or_above-behind front e rest (suc f.0.0) ascends.1

  values-push : (front : List ((ℕ × Gen) × T)) (e : (ℕ × Gen) × T) (rest : List ((ℕ × Gen) × T)) → values_in (front ++ e ∷ rest) ≡ values_in front ++ e.1 ∷ values_in rest
  values-push front e rest = map-append (λ (x : (ℕ × Gen) × T). x.1) front (e ∷ rest)

module _ {T I : Type 0} (recasts : T → T → Result (Unit {0}) I → Type 0) where
  all_pushed : (ts us : List T) (t u : T) → AreAllRecast recasts ts us → recasts t u (Ok tt) → AreAllRecast recasts (ts ++ t ∷ []) (us ++ u ∷ [])
  all_pushed [] [] t u all recast = (recast, tt)
  all_pushed (x ∷ ts) (y ∷ us) t u all recast = (all.0, all_pushed ts us t u all.1 recast)
  all_pushed [] (y ∷ us) t u all recast = absurd all
  all_pushed (x ∷ ts) [] t u all recast = absurd all

  module _ {Gen : Type 0} where
    -- The values so far are recast, and the rest are ahead.
    pub record IsRecasting (old now : Arena Gen (LinkView T)) (cursor : Cursor) : Type 0 where
      pub were : List T
      pub front : List ((ℕ × Gen) × T)
      pub left : List ((ℕ × Gen) × T)
      pub from : ℕ
      pub olds : values_in (value_view old).entries ≡ were ++ values_in left
      pub news : (value_view now).entries ≡ front ++ left
      pub all : AreAllRecast recasts were (values_in front)
      pub cursor_is : cursor ≡ Up from
      pub ahead : entries_at_or_above from (value_view now).entries ≡ left
      pub rest : with_each link_without_value now ≡ with_each link_without_value old
      pub links : link_map now ≡ link_map old

    pub recasting_begins : (old : Arena Gen (LinkView T)) (cursor : Cursor) → cursor ≡ Up 1 → IsRecasting old old cursor
    recasting_begins old cursor up = record {
      were = [];
      front = [];
      left = (value_view old).entries;
      from = 1;
      olds = refl;
      news = refl;
      all = tt;
      cursor_is = up;
      ahead = entries_at_or_above-ascends 1 1 (value_view old).entries (le_refl 1) (entries_ascend (values_of old));
      rest = refl;
      links = refl;
    }

    module _ (old now : Arena Gen (LinkView T)) (cursor : Cursor) (at : IsRecasting old now cursor) where
      left_ahead : ahead cursor (value_view now).entries ≡ at.left
      left_ahead = ap (λ (l : Cursor). ahead l (value_view now).entries) at.cursor_is ∙ at.ahead

      pub recast_all : (after : Cursor) → IsAdvance (value_view now).entries cursor None after → IsRecast recasts old now (Ok tt)
      recast_all after none = by at.left refl where
        by : (left : List ((ℕ × Gen) × T)) → at.left ≡ left → IsRecast recasts old now (Ok tt)
        by [] empty = record {
          rest = at.rest;
          links = at.links;
          values =
              let olds = at.olds ∙ (ap (λ (l : List ((ℕ × Gen) × T)). at.were ++ values_in l) empty ∙ append-nil at.were) in
              let news = ap values_in (at.news ∙ (ap (λ (l : List ((ℕ × Gen) × T)). at.front ++ l) empty ∙ append-nil at.front)) in
              subst (λ ts. AreAllRecast recasts ts (values_in (value_view now).entries)) (sym olds) (subst (AreAllRecast recasts at.were) (sym news) at.all);
        }
        by (e ∷ left) some = absurd (let met = none.first ∙ ap first_key (left_ahead ∙ some) in cc)

      -- The next entry, the first of those that are left.
      record IsNext (p : ℕ × Gen) : Type 0 where
        value : T
        later : List ((ℕ × Gen) × T)
        is : at.left ≡ (p, value) ∷ later

      next_is : (p : ℕ × Gen) (after : Cursor) → IsAdvance (value_view now).entries cursor (Some p) after → IsNext p
      next_is p after met = by at.left refl where
        by : (left : List ((ℕ × Gen) × T)) → at.left ≡ left → IsNext p
        by [] empty = absurd (let none = met.first ∙ ap first_key (left_ahead ∙ empty) in cc)
        by (e ∷ left) some =
            let first : Some p ≡ Some e.0 = met.first ∙ ap first_key (left_ahead ∙ some) in
            let same : p ≡ e.0 = cc in
            record { value = e.1; later = left; is = some ∙ ap (λ (q : ℕ × Gen). let es : List ((ℕ × Gen) × T) = (q, e.1) ∷ left in es) (sym same) }

      module _ (p : ℕ × Gen) (after : Cursor) (met : IsAdvance (value_view now).entries cursor (Some p) after) where
        abbrev next : IsNext p
        next = next_is p after met

        entries_are : (value_view now).entries ≡ at.front ++ (p, next.value) ∷ next.later
        entries_are = at.news ∙ ap (λ es. at.front ++ es) next.is

        ascends : AscendsFrom 1 (at.front ++ (p, next.value) ∷ next.later)
        ascends = subst (AscendsFrom 1) entries_are (entries_ascend (values_of now))

        stored : entry now p.0 ≡ Some (p.1, next.value)
        stored = sym (found-entries (values_of now) p.0) ∙ (ap (found p.0) entries_are ∙ found-behind at.front (p, next.value) next.later 1 ascends)

        pub next_valid : IsValid (entry now) p
        next_valid = record { value = next.value; stored = stored }

        module _ (new : Arena Gen (LinkView T)) (returned : Result (Unit {0}) I) (is : IsRecastAt recasts now new p returned) where
          was_value : is.was ≡ next.value
          was_value = ap (value_or next.value) (sym is.was_stored ∙ stored)

          entries_then : (value_view new).entries ≡ at.front ++ (p, is.is) ∷ next.later
          entries_then = is.entries ∙ (ap (with_replacement p.0 (λ (x : Gen × T). (x.0, is.is))) entries_are ∙ replaced-behind is.is at.front (p, next.value) next.later 1 ascends)

          rest_then : with_each link_without_value new ≡ with_each link_without_value old
          rest_then = ap (with_each link_without_value) is.state ∙ (value-written now p.0 is.is ∙ at.rest)

          olds_then : values_in (value_view old).entries ≡ at.were ++ is.was ∷ values_in next.later
          olds_then = at.olds ∙ (ap (λ (l : List ((ℕ × Gen) × T)). at.were ++ values_in l) next.is ∙ ap (λ t. at.were ++ t ∷ values_in next.later) (sym was_value))

          reports_then : link_map new ≡ link_map old
          reports_then = is.links ∙ at.links

          left_then : ahead after (value_view new).entries ≡ next.later
          left_then =
              let up : after ≡ Up (p.0 + 1) = met.moves ∙ ap (λ (l : Cursor). cursor_after l (Some p)) at.cursor_is in
              let es = at.front ++ (p, is.is) ∷ next.later in
              ap₂ (λ (l : Cursor) (xs : List ((ℕ × Gen) × T)). ahead l xs) up entries_then
              ∙ entries_at_or_above-behind at.front (p, is.is) next.later 1 (subst (AscendsFrom 1) entries_then (entries_ascend (values_of new)))

          pub fewer_left : length (ahead after (value_view new).entries) < length (ahead cursor (value_view now).entries)
          fewer_left = let few = ap (λ (l : List ((ℕ × Gen) × T)). length l) left_then in let many = ap (λ (l : List ((ℕ × Gen) × T)). length l) (left_ahead ∙ next.is) in omega (arith, few, many)

          pub recast_next : returned ≡ Ok tt → IsRecasting old new after
          recast_next ok = record {
            were = at.were ++ is.was ∷ [];
            front = at.front ++ (p, is.is) ∷ [];
            left = next.later;
            from = p.0 + 1;
            olds = olds_then ∙ sym (append_assoc at.were (is.was ∷ []) (values_in next.later));
            news = entries_then ∙ sym (append_assoc at.front ((p, is.is) ∷ []) next.later);
            all = subst (AreAllRecast recasts (at.were ++ is.was ∷ [])) (sym (values-push at.front (p, is.is) []))
                (all_pushed at.were (values_in at.front) is.was is.is at.all (subst (recasts is.was is.is) ok is.recast));
            cursor_is = met.moves ∙ ap (λ (l : Cursor). cursor_after l (Some p)) at.cursor_is;
            ahead = sym (ap (λ (l : Cursor). ahead l (value_view new).entries) (met.moves ∙ ap (λ (l : Cursor). cursor_after l (Some p)) at.cursor_is)) ∙ left_then;
            rest = rest_then;
            links = reports_then;
          }

          pub recast_refused : (refusal : I) → returned ≡ Err refusal → IsRecast recasts old new (Err refusal)
          recast_refused refusal err = record {
            rest = rest_then;
            links = reports_then;
            values = record {
              before = at.were;
              recast = values_in at.front;
              was = is.was;
              is = is.is;
              after = values_in next.later;
              old = olds_then;
              new = ap values_in entries_then ∙ values-push at.front (p, is.is) next.later;
              all = at.all;
              refuses = subst (recasts is.was is.is) err is.recast;
            };
          }
