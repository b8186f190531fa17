-- A drain of all links removes them step by step, in ascending order of index.
use Rattle.std.proofs.Common.{◌≡◌, ℕ, zero, suc, ◌≤◌, ◌<◌, arith, Bool, true, false, List, [], ◌∷◌, map, length, ◌+◌, ◌⊎◌, inl, inr, ⊎_elim, Option, None, Some, refl, ap, sym, subst, ◌∙◌}
use Rattle.std.specs.Prelude.{cond, leb, min, ◌==◌, All, is_some, slice_index_or}
use Rattle.std.specs.Option.{option_map}
use Rattle.std.proofs.lemmas.Bool.{leb-true, leb-false, le-leb, lt-leb, eq-eqb, ne_eqb}
use Rattle.std.proofs.lemmas.List.Elements.{All-head, All-tail}
use Rattle.arena_core.specs.Numbers.{IsWithin}
use Rattle.arena_core.specs.Invalidation.{value_in, is_overflow, value_within, is_overflow_result, invalidation_result, invalidation_option}
use Rattle.arena_core.specs.declared.invalidation.InvalidationOption.{InvalidationOption}
use Rattle.arena_core.specs.declared.invalidation.InvalidationOption.TheVariants as option
use Rattle.arena_core.specs.declared.invalidation.InvalidationResult.{InvalidationResult}
use Rattle.arena_traits.specs.Arena.{Arena, entry_at}
use Rattle.arena_traits.specs.Entries.{ArenaView, entries, entries_from, index_of, found, without_index, first_key, AscendsFrom}
use Rattle.arena_traits.specs.Entries.{view_after_removal}
use Rattle.arena_traits.specs.EntryLaws.{entries_ascend, found-entries}
use Rattle.arena_traits.specs.Advancers.{entries_at_or_above}
use Rattle.chain_links.specs.ChainArena.{LinkView, values_of, value_view, remove_link}
use Rattle.chain_arena.specs.Effects.{IsRemoval}
use Rattle.chain_links.specs.Links.{pair_view}
use Rattle.chain_links.specs.declared.links.RawLink.{RawLink}
use Rattle.chain_arena.proofs.LinkRemovalLemmas.{value_known}
use Rattle.chain_traits.proofs.GenericArenaLemmas.{entries_at_or_above-ascends}
use Rattle.chain_arena.specs.Drains.{entries_left, without_each, IsLinkTaken, IsLinkDrainStep}
use Rattle.chain_arena.proofs.ChainDrainLemmas.{is_overflow_result-made}
use Rattle.chain_linking.proofs.UnlinkLemmas.{view_after-removed}

value_in-made : {X : Type 0} (overflow : Bool) (x : X) → value_in (invalidation_option overflow x) ≡ x
value_in-made true x = refl
value_in-made false x = refl

is_overflow-made : {X : Type 0} (overflow : Bool) (x : X) → is_overflow (invalidation_option overflow x) ≡ overflow
is_overflow-made true x = refl
is_overflow-made false x = refl

module _ {Gen T : Type 0} where
  entries_at_or_above-beyond : (greatest i : ℕ) (es : List ((ℕ × Gen) × T)) → greatest < i → All (λ e. IsWithin greatest (index_of e)) es → entries_at_or_above i es ≡ []
  entries_at_or_above-beyond greatest i [] beyond within = refl
  entries_at_or_above-beyond greatest i (e ∷ es) beyond within =
      let here : IsWithin greatest (index_of e) = All-head (λ (x : (ℕ × Gen) × T). IsWithin greatest (index_of x)) e es within in
      ap (λ b. cond b (e ∷ es) (entries_at_or_above i es)) (lt-leb i e.0.0 (omega (arith, beyond, here.1))) ∙ entries_at_or_above-beyond greatest i es beyond (All-tail (λ (x : (ℕ × Gen) × T). IsWithin greatest (index_of x)) e es within)

  -- The first entry from an index on, and those left once it is removed.
  record IsFirst (i : ℕ) (p : ℕ × Gen) (es : List ((ℕ × Gen) × T)) : Type 0 where
    value : T
    stored : found p.0 es ≡ Some (p.1, value)
    left : entries_at_or_above i es ≡ (p, value) ∷ entries_at_or_above p.0 (without_index p.0 es)
    behind : entries_at_or_above p.0 (without_index p.0 es) ≡ entries_at_or_above (suc p.0) (without_index p.0 es)
    from : i ≤ p.0

  first_here : (i : ℕ) (p : ℕ × Gen) (e : (ℕ × Gen) × T) (es : List ((ℕ × Gen) × T)) → AscendsFrom e.0.0 (e ∷ es) → leb i e.0.0 ≡ true → Some p ≡ first_key (entries_at_or_above i (e ∷ es)) → IsFirst i p (e ∷ es)
  first_here i p e es ascends here first =
      let is : entries_at_or_above i (e ∷ es) ≡ e ∷ es = ap (λ b. cond b (e ∷ es) (entries_at_or_above i es)) here in
      let met : Some p ≡ Some e.0 = first ∙ ap first_key is in
      let key : p ≡ e.0 = cc in
      let index : e.0.0 ≡ p.0 = ap (λ (k : ℕ × Gen). k.0) (sym key) in
      let same : (e.0.0 == p.0) ≡ true = eq-eqb e.0.0 p.0 index in
      let least = leb-true i e.0.0 here in
      record {
        value = e.1;
        stored = ap (λ b. cond b (Some (e.0.1, e.1)) (found p.0 es)) same ∙ ap (λ (k : ℕ × Gen). let o : Option (Gen × T) = Some (k.1, e.1) in o) (sym key);
        left = is ∙ (ap (λ (k : ℕ × Gen). (k, e.1) ∷ es) (sym key)
            ∙ ap (λ (l : List ((ℕ × Gen) × T)). (p, e.1) ∷ l) (sym (ap (λ b. entries_at_or_above p.0 (cond b es (e ∷ without_index p.0 es))) same ∙ entries_at_or_above-ascends p.0 (suc e.0.0) es (omega (arith, index)) ascends.1)));
        behind = ap (λ b. entries_at_or_above p.0 (cond b es (e ∷ without_index p.0 es))) same
            ∙ (entries_at_or_above-ascends p.0 (suc e.0.0) es (omega (arith, index)) ascends.1
            ∙ (sym (entries_at_or_above-ascends (suc p.0) (suc e.0.0) es (omega (arith, index)) ascends.1)
            ∙ sym (ap (λ b. entries_at_or_above (suc p.0) (cond b es (e ∷ without_index p.0 es))) same)));
        from = omega (arith, least, index);
      }

  first_later : (i : ℕ) (p : ℕ × Gen) (e : (ℕ × Gen) × T) (es : List ((ℕ × Gen) × T)) → leb i e.0.0 ≡ false → IsFirst i p es → IsFirst i p (e ∷ es)
  first_later i p e es later rest =
      let below = leb-false i e.0.0 later in
      let before : e.0.0 < p.0 = omega (arith, below, rest.from) in
      let other : (e.0.0 == p.0) ≡ false = ne_eqb e.0.0 p.0 (λ same. omega (arith, before, same)) in
      record {
        value = rest.value;
        stored = ap (λ b. cond b (Some (e.0.1, e.1)) (found p.0 es)) other ∙ rest.stored;
        left = ap (λ b. cond b (e ∷ es) (entries_at_or_above i es)) later
            ∙ (rest.left
            ∙ ap (λ (l : List ((ℕ × Gen) × T)). (p, rest.value) ∷ l) (sym (ap (λ b. entries_at_or_above p.0 (cond b es (e ∷ without_index p.0 es))) other
            ∙ ap (λ b. cond b (e ∷ without_index p.0 es) (entries_at_or_above p.0 (without_index p.0 es))) (lt-leb p.0 e.0.0 before))));
        behind = ap (λ b. entries_at_or_above p.0 (cond b es (e ∷ without_index p.0 es))) other
            ∙ (ap (λ b. cond b (e ∷ without_index p.0 es) (entries_at_or_above p.0 (without_index p.0 es))) (lt-leb p.0 e.0.0 before)
            ∙ (rest.behind
            ∙ (sym (ap (λ b. cond b (e ∷ without_index p.0 es) (entries_at_or_above (suc p.0) (without_index p.0 es))) (lt-leb (suc p.0) e.0.0 (omega (arith, before))))
            ∙ sym (ap (λ b. entries_at_or_above (suc p.0) (cond b es (e ∷ without_index p.0 es))) other))));
        from = rest.from;
      }

  first_in : (i m : ℕ) (p : ℕ × Gen) (es : List ((ℕ × Gen) × T)) → AscendsFrom m es → Some p ≡ first_key (entries_at_or_above i es) → IsFirst i p es
  first_in i m p [] ascends first = absurd (cc)
  first_in i m p (e ∷ es) ascends first = by (leb i e.0.0) refl (first_in i (suc e.0.0) p es ascends.1)
    where
      by : (b : Bool) → leb i e.0.0 ≡ b → (Some p ≡ first_key (entries_at_or_above i es) → IsFirst i p es) → IsFirst i p (e ∷ es)
      by true here rest = first_here i p e es (omega arith, ascends.1) here first
      by false later rest = first_later i p e es later (rest (first ∙ ap (λ b. first_key (cond b (e ∷ es) (entries_at_or_above i es))) later))

  pub first_left : (a : Arena Gen (LinkView T)) (at : ℕ) (p : ℕ × Gen) → Some p ≡ first_key (entries_left a at)
      → (t : T) × (entry_at (values_of a) p.0 ≡ Some (p.1, t)) × (entries_left a at ≡ (p, t) ∷ entries_at_or_above p.0 (without_index p.0 (entries (values_of a)))) × (1 ≤ p.0)
      × (entries_at_or_above p.0 (without_index p.0 (entries (values_of a))) ≡ entries_at_or_above (suc p.0) (without_index p.0 (entries (values_of a))))
  first_left a zero p first = absurd (cc)
  first_left a (suc k) p first =
      let met = first_in (suc k) 1 p (entries (values_of a)) (entries_ascend (values_of a)) first in
      (met.value, sym (found-entries (values_of a) p.0) ∙ met.stored, met.left, omega (arith, met.from), met.behind)

  pub first_has : (a : Arena Gen (LinkView T)) (at : ℕ) (p : ℕ × Gen) → Some p ≡ first_key (entries_left a at) → entry_at (values_of a) p.0 ≡ None → ⊥
  first_has a at p first none = let both = sym none ∙ (first_left a at p first).1 in cc

  pub none_left : (greatest : ℕ) (a : Arena Gen (LinkView T)) (at : ℕ) → (IsWithin greatest at → ⊥) → All (λ e. IsWithin greatest (index_of e)) (entries (values_of a)) → entries_left a at ≡ []
  none_left greatest a zero beyond within = refl
  none_left greatest a (suc k) beyond within = entries_at_or_above-beyond greatest (suc k) (entries (values_of a)) (omega (arith, λ (le : suc k ≤ greatest). beyond (omega arith, le))) within

  entries_left-at : (a : Arena Gen (LinkView T)) (n : ℕ) → 1 ≤ n → entries_left a n ≡ entries_at_or_above n (entries (values_of a))
  entries_left-at a zero some = absurd (omega (arith, some))
  entries_left-at a (suc k) some = refl

  first_at : (i j k : ℕ) (e : Gen × T) (slots : List (Option (Gen × T))) → j + k ≡ i → slice_index_or slots k None ≡ Some e → first_key (entries_at_or_above i (entries_from j slots)) ≡ Some (i, e.0)
  first_at i j k e [] at stored = absurd (let h = stored in cc)
  first_at i j zero e (None ∷ slots) at stored = absurd (let h = stored in cc)
  first_at i j (suc k) e (None ∷ slots) at stored = first_at i (suc j) k e slots (omega (arith, at)) stored
  first_at i j zero e (Some x ∷ slots) at stored =
      let later = entries_from (suc j) slots in
      let same : x ≡ e = cc in
      ap (λ b. first_key (cond b (((j, x.0), x.1) ∷ later) (entries_at_or_above i later))) (le-leb i j (omega (arith, at)))
      ∙ (ap (λ (n : ℕ). let o : Option (ℕ × Gen) = Some (n, x.0) in o) (omega (arith, at)) ∙ ap (λ (y : Gen × T). let o : Option (ℕ × Gen) = Some (i, y.0) in o) same)
  first_at i j (suc k) e (Some x ∷ slots) at stored =
      let later = entries_from (suc j) slots in
      ap (λ b. first_key (cond b (((j, x.0), x.1) ∷ later) (entries_at_or_above i later))) (lt-leb i j (omega (arith, at))) ∙ first_at i (suc j) k e slots (omega (arith, at)) stored

  pub stored_first : (a : Arena Gen (LinkView T)) (at : ℕ) (p : ℕ × Gen) (t : T) → p.0 ≡ at → entry_at (values_of a) at ≡ Some (p.1, t) → Some p ≡ first_key (entries_left a at)
  stored_first a zero p t is stored = absurd (let h = stored in cc)
  stored_first a (suc k) p t is stored =
      sym (first_at (suc k) 1 k (p.1, t) (values_of a).slots (omega arith) stored ∙ ap (λ (n : ℕ). let o : Option (ℕ × Gen) = Some (n, p.1) in o) (sym is))

  pub all_left : (a : Arena Gen (LinkView T)) → entries_left a 1 ≡ entries (values_of a)
  all_left a = entries_at_or_above-ascends 1 1 (entries (values_of a)) (omega arith) (entries_ascend (values_of a))

  pub without_each-all : (following : Gen → Gen) (a : Arena Gen (LinkView T)) (es : List ((ℕ × Gen) × T)) → entries (values_of a) ≡ es → entries (values_of (without_each following a (map index_of es))) ≡ []
  without_each-all following a [] all = all
  without_each-all following a (e ∷ es) all = without_each-all following (remove_link following a e.0.0) es
      (ap (λ (s : ArenaView Gen T). s.entries) (view_after-removed following a (remove_link following a e.0.0) e.0.0 refl)
      ∙ (ap (without_index e.0.0) all ∙ ap (λ b. cond b es (e ∷ without_index e.0.0 es)) (eq-eqb e.0.0 e.0.0 refl)))

pub overflow_known : {X : Type 0} (w : Bool) (r : InvalidationResult X) (x : X) → r ≡ invalidation_result w (value_within r) → value_within r ≡ Some x → is_overflow_result r ≡ w
overflow_known w r x made has = ap is_overflow_result made ∙ (ap (λ (o : Option _). is_overflow_result (invalidation_result w o)) has ∙ is_overflow_result-made w x)

-- The index after another, unless there is no greater number.
abbrev pub IsBehind : ℕ → ℕ → Type 0
IsBehind i next = (next ≡ i) ⊎ (next ≡ suc i)

pub is_behind : (most i next : ℕ) → next ≡ min (i + 1) most → i ≤ most → IsBehind i next
is_behind most i next is within = by (leb (i + 1) most) refl
  where
    by : (b : Bool) → leb (i + 1) most ≡ b → IsBehind i next
    by true fits = inr (is ∙ omega (arith, leb-true (i + 1) most fits))
    by false beyond = inl (is ∙ omega (arith, leb-false (i + 1) most beyond, within))

module _ {P Gen T : Type 0} (key : P → ℕ × Gen) (following : Gen → Gen) (wraps : Gen → Bool) where
  module _ (old new : Arena Gen (LinkView T)) (at next : ℕ) (p : P) (first : Some (key p) ≡ first_key (entries_left old at)) (taken : Option T)
      (value : taken ≡ option_map (λ (e : Gen × T). e.1) (entry_at (values_of old) (key p).0)) where
    value_is : taken ≡ Some (first_left old at (key p) first).0
    value_is = value ∙ ap (option_map (λ (e : Gen × T). e.1)) (first_left old at (key p) first).1

    left_behind : IsBehind (key p).0 next → entries (values_of new) ≡ without_index (key p).0 (entries (values_of old)) → entries_at_or_above (key p).0 (without_index (key p).0 (entries (values_of old))) ≡ entries_left new next
    left_behind index es =
        let met = first_left old at (key p) first in
        ⊎_elim
        (λ (same : next ≡ (key p).0). ap (λ n. entries_at_or_above n (without_index (key p).0 (entries (values_of old)))) (sym same) ∙ (ap (entries_at_or_above next) (sym es) ∙ sym (entries_left-at new next (omega (arith, met.3, same)))))
        (λ (after : next ≡ suc (key p).0). met.4 ∙ (ap (λ n. entries_at_or_above n (without_index (key p).0 (entries (values_of old)))) (sym after) ∙ (ap (entries_at_or_above next) (sym es) ∙ sym (entries_left-at new next (omega (arith, after))))))
        index

    pub drained_first : (t : T) (overflow : Bool) (gone : InvalidationOption (P × T)) → value_view new ≡ view_after_removal following (value_view old) (key p).0 → new ≡ remove_link following old (key p).0
        → taken ≡ Some t → overflow ≡ wraps old.counter → gone ≡ invalidation_option overflow (p, t) → IsBehind (key p).0 next → IsLinkDrainStep key following wraps old at gone new next
    drained_first t overflow gone loses removal has known responded index =
        let met = first_left old at (key p) first in
        let both : Some t ≡ Some met.0 = sym has ∙ value_is in
        let same : t ≡ met.0 = cc in
        let item : value_in gone ≡ (p, t) = ap value_in responded ∙ value_in-made overflow (p, t) in
        let es : entries (values_of new) ≡ without_index (key p).0 (entries (values_of old)) = ap (λ (s : ArenaView Gen T). s.entries) loses in
        let keyed : key (value_in gone).0 ≡ key p = ap (λ (x : P × T). key x.0) item in
        let left : entries_left old at ≡ (key (value_in gone).0, (value_in gone).1) ∷ entries_left new next = met.2
        ∙ (ap (λ (u : T). (key p, u) ∷ entries_at_or_above (key p).0 (without_index (key p).0 (entries (values_of old)))) (sym same)
        ∙ (ap (λ (x : P × T). (key x.0, x.1) ∷ entries_at_or_above (key p).0 (without_index (key p).0 (entries (values_of old)))) (sym item)
        ∙ ap (λ (l : List ((ℕ × Gen) × T)). (key (value_in gone).0, (value_in gone).1) ∷ l) (left_behind index es))) in
        record {
          left = left;
          all = λ whole. sym (es
              ∙ (ap (without_index (key p).0) (sym whole ∙ left)
              ∙ ap (λ b. cond b (entries_left new next) ((key (value_in gone).0, (value_in gone).1) ∷ without_index (key p).0 (entries_left new next)))
              (eq-eqb (key (value_in gone).0).0 (key p).0 (ap (λ (k : ℕ × Gen). k.0) keyed))));
          overflow = ap is_overflow responded ∙ (is_overflow-made overflow (p, t) ∙ known);
          state = removal ∙ ap (λ (x : P × T). remove_link following old (key x.0).0) (sym item);
        }

  pub link_taken : {K : Type 0} (packed : K → Option ℕ) (old new : Arena Gen (LinkView T)) (i : ℕ) (r : InvalidationResult (Gen × RawLink K T)) (e : Gen × RawLink K T) → value_within r ≡ Some e
      → option_map (pair_view packed) (value_within r) ≡ entry_at old i → r ≡ invalidation_result (wraps old.counter) (value_within r) → (is_some (value_within r) ≡ true → IsRemoval following old i new)
      → (p : P) → key p ≡ (i, e.0) → (overflow : Bool) → overflow ≡ is_overflow_result r → (gone : InvalidationOption (P × T)) → gone ≡ invalidation_option overflow (p, e.1.t) → IsLinkTaken key following wraps old i gone new
  link_taken packed old new i r e has returned made removal p named overflow flag gone responded =
      let item : value_in gone ≡ (p, e.1.t) = ap value_in responded ∙ value_in-made overflow (p, e.1.t) in
      let keyed : key (value_in gone).0 ≡ (i, e.0) = ap (λ (x : P × T). key x.0) item ∙ named in
      record {
        index = ap (λ (k : ℕ × Gen). k.0) keyed;
        stored = sym (value_known packed following old new i (value_within r) returned)
            ∙ (ap (option_map (λ (x : Gen × RawLink _ T). (x.0, x.1.t))) has
            ∙ (ap (λ (h : Gen). let o : Option (Gen × T) = Some (h, e.1.t) in o) (sym (ap (λ (k : ℕ × Gen). k.1) keyed))
            ∙ ap (λ (u : T). let o : Option (Gen × T) = Some ((key (value_in gone).0).1, u) in o) (sym (ap (λ (x : P × T). x.1) item))));
        overflow = ap is_overflow responded ∙ (is_overflow-made overflow (p, e.1.t) ∙ (flag ∙ overflow_known (wraps old.counter) r e made has));
        state = (removal (ap is_some has)).state;
      }

  taken_made : (gone : InvalidationOption (P × T)) → gone ≡ invalidation_option (is_overflow gone) ((value_in gone).0, (value_in gone).1)
  taken_made (option.Success t) = refl
  taken_made (option.GenerationOverflow t) = refl

  pub taken_first : (old new : Arena Gen (LinkView T)) (at i next : ℕ) (gone : InvalidationOption (P × T)) → IsLinkTaken key following wraps old i gone new
      → Some (key (value_in gone).0) ≡ first_key (entries_left old at) → IsBehind i next → IsLinkDrainStep key following wraps old at gone new next
  taken_first old new at i next gone taken first behind =
      let p = (value_in gone).0 in
      let t = (value_in gone).1 in
      let state : new ≡ remove_link following old (key p).0 = taken.state ∙ ap (remove_link following old) (sym taken.index) in
      drained_first old new at next p first (Some t) (sym (ap (option_map (λ (e : Gen × T). e.1)) (ap (entry_at (values_of old)) taken.index ∙ taken.stored)))
      t (is_overflow gone) gone (view_after-removed following old new (key p).0 state) state refl taken.overflow (taken_made gone) (subst (λ j. IsBehind j next) (sym taken.index) behind)

  pub same_first : (old new : Arena Gen (LinkView T)) (at i : ℕ) (p : P) (gone : InvalidationOption (P × T)) → (key p).0 ≡ i → Some (key p) ≡ first_key (entries_left old at)
      → IsLinkTaken key following wraps old i gone new → Some (key (value_in gone).0) ≡ first_key (entries_left old at)
  same_first old new at i p gone named first taken =
      let met = (first_left old at (key p) first).1 in
      let same = sym met ∙ (ap (entry_at (values_of old)) named ∙ taken.stored) in
      let q = key (value_in gone).0 in
      let both : Some (key p).1 ≡ Some q.1 = ap (option_map (λ (e : Gen × T). e.0)) same in
      let generation : (key p).1 ≡ q.1 = cc in
      let keyed : q ≡ key p = ap (λ (n : ℕ). let k : ℕ × Gen = (n, q.1) in k) (taken.index ∙ sym named) ∙ ap (λ (h : Gen). let k : ℕ × Gen = ((key p).0, h) in k) (sym generation) in
      ap (λ (k : ℕ × Gen). let o : Option (ℕ × Gen) = Some k in o) keyed ∙ first

  pub without_each-first : (old new : Arena Gen (LinkView T)) (at next : ℕ) (gone : InvalidationOption (P × T)) → IsLinkDrainStep key following wraps old at gone new next
      → without_each following new (map index_of (entries_left new next)) ≡ without_each following old (map index_of (entries_left old at))
  without_each-first old new at next gone step =
      ap (λ (a : Arena Gen (LinkView T)). without_each following a (map index_of (entries_left new next))) step.state
      ∙ sym (ap (λ (es : List ((ℕ × Gen) × T)). without_each following old (map index_of es)) step.left)

  pub entries_left-step : (old new : Arena Gen (LinkView T)) (at next : ℕ) (gone : InvalidationOption (P × T)) → IsLinkDrainStep key following wraps old at gone new next
      → length (entries_left new next) < length (entries_left old at)
  entries_left-step old new at next gone step = let longer = ap (length {A = (ℕ × Gen) × T}) step.left in omega (arith, longer)
