-- Closing holes one by one: passed entries, then free slots, then slots not yet passed.
use Rattle.std.proofs.Common.{◌≡◌, ◌≢◌, ℕ, zero, suc, ◌+◌, ◌<◌, ◌≤◌, List, [], ◌∷◌, ◌++◌, map, length, drop, Option, None, Some, refl, ap, sym, ◌∙◌, subst, append_assoc, arith}
use Rattle.std.specs.Prelude.{replicate, slice_index_or, slice_set, IsSome}
use Rattle.std.specs.Option.{option_map}
use Rattle.std.specs.List.{FoldsTo}
use Rattle.std.specs.Fn.{Mut}
use Rattle.std.proofs.lemmas.List.{append-nil, map-append, length-append, length-map, length-replicate, length-drop, drop_all}
use Rattle.std.proofs.lemmas.Fn.{FoldsTo-push}
use denote.Ref.{MutBor}
use Rattle.arena_traits.specs.Arena.{Arena, slot_at, with_slot}
use Rattle.arena_traits.specs.Entries.{entries_from}
use Rattle.arena_base.specs.DetachedSlots.{DetachedView, IsPacked, with_touch, with_placement}
use Rattle.arena_traits.specs.Compressions.{Visit, IsVisit, VisitsAll}
use Rattle.arena_base.specs.GatheredSlots.{with_front, AreClosed, with_totals}
use Rattle.arena_base.proofs.TrimLemmas.{drop-at}

module _ {X : Type 0} where
  freed_behind : (n k : ℕ) (slot : Option X) (rest : List (Option X)) → n ≡ k → slice_set (replicate n None ++ slot ∷ rest) k None ≡ replicate (suc n) None ++ rest
  freed_behind zero zero slot rest at = refl
  freed_behind zero (suc k) slot rest at = absurd (omega (arith, at))
  freed_behind (suc n) zero slot rest at = absurd (omega (arith, at))
  freed_behind (suc n) (suc k) slot rest at = ap (λ es. None ∷ es) (freed_behind n k slot rest (omega (arith, at)))

  free_passed : (n : ℕ) (rest : List (Option X)) → replicate n None ++ None ∷ rest ≡ replicate (suc n) None ++ rest
  free_passed zero rest = refl
  free_passed (suc n) rest = ap (λ es. None ∷ es) (free_passed n rest)

module _ {Gen T : Type 0} (g : Gen) where
  next_slot_there : (values : List T) (n k : ℕ) (slot : Option (Gen × T)) (rest : List (Option (Gen × T))) → length values + n ≡ k → slice_index_or (with_front g values (replicate n None ++ slot ∷ rest)) k None ≡ slot
  next_slot_there [] zero zero slot rest at = refl
  next_slot_there [] zero (suc k) slot rest at = absurd (omega (arith, at))
  next_slot_there [] (suc n) zero slot rest at = absurd (omega (arith, at))
  next_slot_there [] (suc n) (suc k) slot rest at = next_slot_there [] n k slot rest (omega (arith, at))
  next_slot_there (v ∷ values) n zero slot rest at = absurd (omega (arith, at))
  next_slot_there (v ∷ values) n (suc k) slot rest at = next_slot_there values n k slot rest (omega (arith, at))

  free_behind : (values : List T) (n : ℕ) (rest : List (Option (Gen × T))) → 1 ≤ n → slice_index_or (with_front g values (replicate n None ++ rest)) (length values) None ≡ None
  free_behind [] zero rest some = absurd (omega (arith, some))
  free_behind [] (suc n) rest some = refl
  free_behind (v ∷ values) n rest some = free_behind values n rest some

  slot_behind : (values : List T) (slot : Option (Gen × T)) (rest : List (Option (Gen × T))) → slice_index_or (with_front g values (slot ∷ rest)) (length values) None ≡ slot
  slot_behind [] slot rest = refl
  slot_behind (v ∷ values) slot rest = slot_behind values slot rest

  brought : (values : List T) (n k : ℕ) (slot x : Option (Gen × T)) (rest : List (Option (Gen × T))) → length values + n ≡ k
      → slice_set (slice_set (with_front g values (replicate n None ++ slot ∷ rest)) k (slice_index_or (with_front g values (replicate n None ++ slot ∷ rest)) (length values) None)) (length values) x
      ≡ with_front g values (x ∷ (replicate n None ++ rest))
  brought [] zero zero slot x rest at = refl
  brought [] zero (suc k) slot x rest at = absurd (omega (arith, at))
  brought [] (suc n) zero slot x rest at = absurd (omega (arith, at))
  brought [] (suc n) (suc k) slot x rest at = ap (λ es. x ∷ es) (freed_behind n k slot rest (omega (arith, at)))
  brought (v ∷ values) n zero slot x rest at = absurd (omega (arith, at))
  brought (v ∷ values) n (suc k) slot x rest at = ap (λ (es : List (Option (Gen × T))). Some (g, v) ∷ es) (brought values n k slot x rest (omega (arith, at)))

  joined : (values : List T) (t w : T) (rest : List (Option (Gen × T))) → slice_set (with_front g values (Some (g, t) ∷ rest)) (length values) (Some (g, w)) ≡ with_front g (values ++ w ∷ []) rest
  joined [] t w rest = refl
  joined (v ∷ values) t w rest = ap (λ (es : List (Option (Gen × T))). Some (g, v) ∷ es) (joined values t w rest)

  placed_fronted : (values : List T) (n k from to : ℕ) (slots rest : List (Option (Gen × T))) (e : Gen × T) → slots ≡ with_front g values (replicate n None ++ Some e ∷ rest) → length values + n ≡ k → suc k ≡ from → suc (length values) ≡ to
      → with_slot (with_slot slots from (slot_at slots to)) to (option_map (λ (x : Gen × T). (g, x.1)) (slot_at slots from)) ≡ with_front g values (Some (g, e.1) ∷ (replicate n None ++ rest))
  placed_fronted values n k from to slots rest e is at at_from at_to =
      let moved = λ (i j : ℕ) (s : List (Option (Gen × T))). with_slot (with_slot s i (slot_at s j)) j (option_map (λ (x : Gen × T). (g, x.1)) (slot_at s i)) in
      let old = with_front g values (replicate n None ++ Some e ∷ rest) in
      ap (moved from to) is ∙ (ap (λ i. moved i to old) (sym at_from) ∙ (ap (λ j. moved (suc k) j old) (sym at_to)
      ∙ (ap (λ o. slice_set (slice_set old k (slice_index_or old (length values) None)) (length values) (option_map (λ (x : Gen × T). (g, x.1)) o)) (next_slot_there values n k (Some e) rest at)
      ∙ brought values n k (Some e) (Some (g, e.1)) rest at)))

  written_fronted : (values : List T) (to : ℕ) (slots rest : List (Option (Gen × T))) (t w : T) → slots ≡ with_front g values (Some (g, t) ∷ rest) → suc (length values) ≡ to
      → with_slot slots to (option_map (λ (x : Gen × T). (x.0, w)) (slot_at slots to)) ≡ with_front g (values ++ w ∷ []) rest
  written_fronted values to slots rest t w is at =
      let written = λ (j : ℕ) (s : List (Option (Gen × T))). with_slot s j (option_map (λ (x : Gen × T). (x.0, w)) (slot_at s j)) in
      let old = with_front g values (Some (g, t) ∷ rest) in
      ap (written to) is ∙ (ap (λ j. written j old) (sym at)
      ∙ (ap (λ o. slice_set old (length values) (option_map (λ (x : Gen × T). (x.0, w)) o)) (slot_behind values (Some (g, t)) rest) ∙ joined values t w rest))

  entries-joined : (values : List T) (i j : ℕ) (w : T) → i + length values ≡ j → entries_from i (with_front g (values ++ w ∷ []) []) ≡ entries_from i (with_front g values []) ++ ((j, g), w) ∷ []
  entries-joined [] i j w at = let same : i ≡ j = omega (arith, at) in ap (λ n. ((n, g), w) ∷ []) same
  entries-joined (v ∷ values) i j w at = ap (λ es. ((i, g), v) ∷ es) (entries-joined values (suc i) j w (omega (arith, at)))

  pub length-with_front : (values : List T) (i : ℕ) → length (entries_from i (with_front g values [])) ≡ length values
  length-with_front [] i = refl
  length-with_front (v ∷ values) i = ap suc (length-with_front values (suc i))

  pub entries-closed : (values : List T) (n i : ℕ) → entries_from i (with_front g values (replicate n None)) ≡ entries_from i (with_front g values [])
  entries-closed [] zero i = refl
  entries-closed [] (suc n) i = entries-closed [] n (suc i)
  entries-closed (v ∷ values) n i = ap (λ es. ((i, g), v) ∷ es) (entries-closed values n (suc i))

  packed-with_front : (values : List T) (n : ℕ) → IsPacked (with_front g values (replicate n None)) (length values)
  packed-with_front values n = record { taken = λ i low high. taken values i low high; free = λ i above. free values i above }
    where
      taken_at : (values : List T) (k : ℕ) → k < length values → IsSome (slice_index_or (with_front g values (replicate n None)) k None)
      taken_at [] k below = absurd (omega (arith, below))
      taken_at (v ∷ values) zero below = refl
      taken_at (v ∷ values) (suc k) below = taken_at values k (omega (arith, below))

      none_at : (n k : ℕ) → slice_index_or (replicate {A = Option (Gen × T)} n None) k None ≡ None
      none_at zero k = refl
      none_at (suc n) zero = refl
      none_at (suc n) (suc k) = none_at n k

      free_at : (values : List T) (k : ℕ) → length values ≤ k → slice_index_or (with_front g values (replicate n None)) k None ≡ None
      free_at [] k above = none_at n k
      free_at (v ∷ values) zero above = absurd (omega (arith, above))
      free_at (v ∷ values) (suc k) above = free_at values k (omega (arith, above))

      taken : (values : List T) (i : ℕ) → 1 ≤ i → i ≤ length values → IsSome (slot_at (with_front g values (replicate n None)) i)
      taken values zero low high = absurd (omega (arith, low))
      taken values (suc k) low high = taken_at values k (omega (arith, high))

      free : (values : List T) (i : ℕ) → length values < i → slot_at (with_front g values (replicate n None)) i ≡ None
      free values zero above = refl
      free values (suc k) above = free_at values k (omega (arith, above))

entry_there : {Gen T : Type 0} (o : Option (Gen × T)) (g : Gen) → Some g ≡ option_map (λ (e : Gen × T). e.0) o → (e : Gen × T) × (o ≡ Some e) × (e.0 ≡ g)
entry_there None g is = cc
entry_there (Some e) g is = (e, refl, cc)

pub none_there : {Gen T : Type 0} (o : Option (Gen × T)) → None ≡ option_map (λ (e : Gen × T). e.0) o → o ≡ None
none_there None is = refl
none_there (Some e) is = cc

value_there : {Gen T : Type 0} (o : Option (Gen × T)) (t : T) (e : Gen × T) → Some t ≡ option_map (λ (e : Gen × T). e.1) o → o ≡ Some e → t ≡ e.1
value_there None t e is there = cc
value_there (Some d) t e is there = cc

abbrev pub before_visit : {P T Gen : Type 0} → (P → ℕ × Gen) → Visit P T → (ℕ × Gen) × T
before_visit key v = (key v.from, v.value)

abbrev pub after_visit : {P T Gen : Type 0} → (P → ℕ × Gen) → Visit P T → (ℕ × Gen) × T
after_visit key v = (key v.to, v.left)

-- The slots up to `k` are passed, and `count` entries visited.
pub record IsClosing {F P T Gen : Type 0} (g : Mut F (P × (MutBor T × (P × Unit {0}))) (Unit {0} × (MutBor T × Unit {0}))) (key : P → ℕ × Gen) (generation : Gen) (first : F) (old : List (Option (Gen × T))) (k count : ℕ) (f : F) (slots : List (Option (Gen × T))) : Type 0 where
  pub visits : List (Visit P T)
  pub values : List T
  pub free : ℕ
  pub in_turn : FoldsTo (IsVisit g) first visits f
  pub before : map (before_visit key) visits ++ entries_from (suc k) (drop k old) ≡ entries_from 1 old
  pub after : map (after_visit key) visits ≡ entries_from 1 (with_front generation values [])
  pub now : slots ≡ with_front generation values (replicate free None ++ drop k old)
  pub counted : length values ≡ count
  pub passed : count + free ≡ k

module _ {F P T Gen : Type 0} (g : Mut F (P × (MutBor T × (P × Unit {0}))) (Unit {0} × (MutBor T × Unit {0}))) (key : P → ℕ × Gen) (generation : Gen) (first : F) (old : List (Option (Gen × T))) where
  pub closing_length : (k count : ℕ) (f : F) (slots : List (Option (Gen × T))) (c : IsClosing g key generation first old k count f slots) → k ≤ length old → length slots ≡ length old
  closing_length k count f slots c below =
      let front = length-append (map (λ (t : T). let o : Option (Gen × T) = Some (generation, t) in o) c.values) (replicate c.free None ++ drop k old) in
      let rest = length-append (replicate {A = Option (Gen × T)} c.free None) (drop k old) in
      ap length c.now ∙ omega (arith, front, rest, length-map c.values (λ (t : T). let o : Option (Gen × T) = Some (generation, t) in o), length-replicate {A = Option (Gen × T)} c.free None, length-drop k old, c.counted, c.passed, below)

  pub closing_begins : IsClosing g key generation first old 0 0 first old
  closing_begins = record { visits = []; values = []; free = 0; in_turn = refl; before = refl; after = refl; now = refl; counted = refl; passed = refl }

  pub closing_free : (k count : ℕ) (f : F) (slots : List (Option (Gen × T))) → IsClosing g key generation first old k count f slots → (from to : ℕ) → from ≡ k + 1 → to ≡ count + 1 → to ≢ from → slot_at slots to ≡ None
  closing_free k count f slots c from to at_from at_to differs =
      let next : suc (length c.values) ≡ to = omega (arith, at_to, c.counted) in
      sym (ap (slot_at slots) next) ∙ (ap (λ es. slice_index_or es (length c.values) None) c.now ∙ free_behind generation c.values c.free (drop k old) (by c.free refl))
    where
      by : (n : ℕ) → c.free ≡ n → 1 ≤ c.free
      by zero is = absurd (differs (omega (arith, at_from, at_to, c.passed, is)))
      by (suc n) is = omega (arith, is)

  module _ (k count : ℕ) (f : F) (slots : List (Option (Gen × T))) (c : IsClosing g key generation first old k count f slots) (below : k < length old) where
    split_slots : (slot : Option (Gen × T)) (is : drop k old ≡ slot ∷ drop (suc k) old) → slots ≡ with_front generation c.values (replicate c.free None ++ slot ∷ drop (suc k) old)
    split_slots slot is = c.now ∙ ap (λ es. with_front generation c.values (replicate c.free None ++ es)) is

    pub next_slot : (n : ℕ) → n ≡ k + 1 → slot_at slots n ≡ slice_index_or old k None
    next_slot n at =
        let next : suc k ≡ n = omega (arith, at) in
        sym (ap (slot_at slots) next) ∙ (ap (λ es. slice_index_or es k None) (split_slots (slice_index_or old k None) (drop-at old k below))
        ∙ next_slot_there generation c.values c.free k (slice_index_or old k None) (drop (suc k) old) (omega (arith, c.counted, c.passed)))

    pub closing_frees : (from : ℕ) → from ≡ k + 1 → slot_at slots from ≡ None → IsClosing g key generation first old (k + 1) count f slots
    closing_frees from at none =
        let free : slice_index_or old k None ≡ None = sym (next_slot from at) ∙ none in
        let is : drop k old ≡ None ∷ drop (suc k) old = drop-at old k below ∙ ap (λ o. o ∷ drop (suc k) old) free in
        let number : suc k ≡ k + 1 = omega arith in
        subst (λ n. IsClosing g key generation first old n count f slots) number (record {
          visits = c.visits;
          values = c.values;
          free = suc c.free;
          in_turn = c.in_turn;
          before = ap (λ es. map (before_visit key) c.visits ++ entries_from (suc k) es) (sym is) ∙ c.before;
          after = c.after;
          now = split_slots None is ∙ ap (with_front generation c.values) (free_passed c.free (drop (suc k) old));
          counted = c.counted;
          passed = omega (arith, c.passed);
        })

    module _ (from to : ℕ) (was : Gen) (mid : List (Option (Gen × T))) (at_from : from ≡ k + 1) (at_to : to ≡ count + 1) (returned : Some was ≡ option_map (λ (e : Gen × T). e.0) (slot_at slots from))
        (placed : mid ≡ with_slot (with_slot slots from (slot_at slots to)) to (option_map (λ (e : Gen × T). (generation, e.1)) (slot_at slots from))) where
      moved_entry : (e : Gen × T) × (slot_at slots from ≡ Some e) × (e.0 ≡ was)
      moved_entry = entry_there (slot_at slots from) was returned

      abbrev later : List (Option (Gen × T))
      later = drop (suc k) old

      from_number : suc k ≡ from
      from_number = omega (arith, at_from)

      to_number : suc (length c.values) ≡ to
      to_number = omega (arith, at_to, c.counted)

      split : drop k old ≡ Some moved_entry.0 ∷ later
      split = drop-at old k below ∙ ap (λ o. o ∷ later) (sym (next_slot from at_from) ∙ moved_entry.1)

      is_mid : mid ≡ with_front generation c.values (Some (generation, moved_entry.0.1) ∷ (replicate c.free None ++ later))
      is_mid = placed ∙ placed_fronted generation c.values c.free k from to slots later moved_entry.0 (split_slots (Some moved_entry.0) split) (omega (arith, c.counted, c.passed)) from_number to_number

      stored : slot_at mid to ≡ Some (generation, moved_entry.0.1)
      stored =
          let now = with_front generation c.values (Some (generation, moved_entry.0.1) ∷ (replicate c.free None ++ later)) in
          ap (λ es. slot_at es to) is_mid ∙ (sym (ap (slot_at now) to_number) ∙ slot_behind generation c.values (Some (generation, moved_entry.0.1)) (replicate c.free None ++ later))

      pub brought_stored : None ≡ option_map (λ (e : Gen × T). e.1) (slot_at mid to) → ⊥
      brought_stored none = let both = none ∙ ap (option_map (λ (e : Gen × T). e.1)) stored in cc

      pub closing_moves : (v : Visit P T) (next : F) (after : List (Option (Gen × T))) → Some v.value ≡ option_map (λ (e : Gen × T). e.1) (slot_at mid to)
          → after ≡ with_slot mid to (option_map (λ (e : Gen × T). (e.0, v.left)) (slot_at mid to)) → key v.from ≡ (from, was) → key v.to ≡ (to, generation) → IsVisit g f v next
          → IsClosing g key generation first old (k + 1) (count + 1) next after
      closing_moves v next after lent written from_key to_key visit =
          let value = value_there (slot_at mid to) v.value (generation, moved_entry.0.1) lent stored in
          let before : before_visit key v ≡ ((suc k, moved_entry.0.0), moved_entry.0.1) = λ i. ((from_key ∙ (λ j. (sym from_number j, sym moved_entry.2 j))) i, value i) in
          let left : after_visit key v ≡ ((to, generation), v.left) = λ i. (to_key i, v.left) in
          let number : suc k ≡ k + 1 = omega arith in
          subst (λ n. IsClosing g key generation first old n (count + 1) next after) number (record {
            visits = c.visits ++ v ∷ [];
            values = c.values ++ v.left ∷ [];
            free = c.free;
            in_turn = FoldsTo-push (IsVisit g) first c.visits f v next c.in_turn visit;
            before = ap (λ es. es ++ entries_from (suc (suc k)) later) (map-append (before_visit key) c.visits (v ∷ []))
                ∙ (append_assoc (map (before_visit key) c.visits) (before_visit key v ∷ []) (entries_from (suc (suc k)) later)
                ∙ (ap (λ b. map (before_visit key) c.visits ++ b ∷ entries_from (suc (suc k)) later) before
                ∙ (ap (λ es. map (before_visit key) c.visits ++ entries_from (suc k) es) (sym split) ∙ c.before)));
            after = map-append (after_visit key) c.visits (v ∷ [])
                ∙ (ap (λ es. es ++ after_visit key v ∷ []) c.after ∙ (ap (λ b. entries_from 1 (with_front generation c.values []) ++ b ∷ []) left ∙ sym (entries-joined generation c.values 1 to v.left (omega (arith, at_to, c.counted)))));
            now = written ∙ written_fronted generation c.values to mid (replicate c.free None ++ later) moved_entry.0.1 v.left is_mid to_number;
            counted = length-append c.values (v.left ∷ []) ∙ omega (arith, c.counted);
            passed = omega (arith, c.passed);
          })

  module _ (k count : ℕ) (f : F) (slots : List (Option (Gen × T))) (c : IsClosing g key generation first old k count f slots) (all : k ≡ length old) where
    nothing_left : drop k old ≡ []
    nothing_left = drop_all k old (omega (arith, all))

    closed_now : slots ≡ with_front generation c.values (replicate c.free None)
    closed_now = c.now ∙ (ap (λ es. with_front generation c.values (replicate c.free None ++ es)) nothing_left ∙ ap (with_front generation c.values) (append-nil (replicate c.free None)))

    before_all : map (before_visit key) c.visits ≡ entries_from 1 old
    before_all = sym (append-nil (map (before_visit key) c.visits)) ∙ (ap (λ es. map (before_visit key) c.visits ++ entries_from (suc k) es) (sym nothing_left) ∙ c.before)

    after_all : map (after_visit key) c.visits ≡ entries_from 1 slots
    after_all = c.after ∙ (sym (entries-closed generation c.values c.free 1) ∙ ap (entries_from 1) (sym closed_now))

    pub closing_packs : IsPacked slots count
    closing_packs = subst (λ (p : List (Option (Gen × T)) × ℕ). IsPacked p.0 p.1) (λ i. (sym closed_now i, c.counted i)) (packed-with_front generation c.values c.free)

    pub closing_visits : VisitsAll g key first (entries_from 1 old) (entries_from 1 slots)
    closing_visits = record { visits = c.visits; last = f; in_turn = c.in_turn; before = before_all; after = after_all }

    pub closing_counts : count ≡ length (entries_from 1 old)
    closing_counts =
        sym c.counted ∙ (sym (length-with_front generation c.values 1) ∙ (ap length (sym c.after)
        ∙ (length-map c.visits (after_visit key) ∙ (sym (length-map c.visits (before_visit key)) ∙ ap length before_all))))

    pub closing_closes : (before after : DetachedView Gen T) → before.slots ≡ old → after.slots ≡ slots → after.stack_capacity ≡ before.stack_capacity → after.maximum ≡ before.maximum → AreClosed generation before after
    closing_closes before after is_old is_new capacity maximum = record {
      values = c.values;
      free = c.free;
      detached = λ i. record { slots = (is_new ∙ closed_now) i; stack_capacity = capacity i; maximum = maximum i };
      same_length = omega (arith, c.counted, c.passed, all, ap length is_old);
    }

module _ {Gen T : Type 0} (old now next : Arena Gen T) (k count : ℕ) where
  pub totals_read : now ≡ with_totals old count (k + count) → next ≡ with_touch now → next ≡ with_totals old count ((k + 1) + count)
  totals_read is was_read =
      let touches : (old.touched + (k + count)) + 1 ≡ old.touched + ((k + 1) + count) = omega arith in
      was_read ∙ (ap with_touch is ∙ (λ i. record old { placed = old.placed + count; touched = touches i }))

  pub totals_brought : (mid : Arena Gen T) → now ≡ with_totals old count (k + count) → mid ≡ with_placement (with_touch now) → next ≡ with_touch mid → next ≡ with_totals old (count + 1) ((k + 1) + (count + 1))
  totals_brought mid is placed was_read =
      let placements : (old.placed + count) + 1 ≡ old.placed + (count + 1) = omega arith in
      let touches : ((old.touched + (k + count)) + 1) + 1 ≡ old.touched + ((k + 1) + (count + 1)) = omega arith in
      was_read ∙ (ap with_touch (placed ∙ ap (λ (a : Arena Gen T). with_placement (with_touch a)) is) ∙ (λ i. record old { placed = placements i; touched = touches i }))

pub totals_begin : {Gen T : Type 0} (old : Arena Gen T) → old ≡ with_totals old 0 (0 + 0)
totals_begin old =
    let placements : old.placed ≡ old.placed + 0 = omega arith in
    let touches : old.touched ≡ old.touched + (0 + 0) = omega arith in
    λ i. record old { placed = placements i; touched = touches i }
