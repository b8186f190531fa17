-- Removals of the keys of a set, one by one.
use Rattle.std.proofs.Common.{◌≡◌, ◌≢◌, ℕ, suc, ◌+◌, ◌-◌, ◌<◌, inl, inr, ⊎_elim, List, [], ◌∷◌, length, Bool, true, false, Option, None, Some, refl, sym, ap, ◌∙◌, subst, arith}
use Rattle.std.specs.Prelude.{◌||◌, cond, IfSome}
use Rattle.std.specs.Option.{option_map}
use Rattle.std.proofs.lemmas.Bool.{cases_eq, eq-eqb, ne_eqb}
use Rattle.arena_core.specs.Invalidation.{invalidation_result, value_within, is_overflow_result}
use Rattle.arena_core.specs.declared.invalidation.InvalidationResult.{InvalidationResult}
use Rattle.arena_core.specs.declared.invalidation.InvalidationResult.TheVariants.{Success, GenerationOverflow, InvalidPtr}
use Rattle.arena_traits.specs.CallOutcomes.{ReportsOverflow, counter_after, wraps_within}
use Rattle.arena_traits.specs.Entries.{ArenaView, AscendsFrom, count, found, without_index, with_replacement, view_with_value, view_after_removal}
use Rattle.arena_traits.proofs.EntryChangeLemmas.{valued, writes_first, writes_later, found-written}
use Rattle.arena_traits.proofs.EntrySearchLemmas.{found-gone, found-kept}
use Rattle.chain_laws.specs.Chains.{IsMember}
use Rattle.chain_laws.proofs.ListLemmas.Members.{IsMember-or_not}
use Rattle.surject_arena.specs.Surjections.{Surjection, entry_in, set_at, IsKey, IsKeyOf, AreInOneSet, HasValue, SharesSet, IsAlone, IsSurjection}
use Rattle.surject_arena.specs.SetCalls.{IsKeyTaken}
use Rattle.surject_arena.specs.SetRemovals.{view_after_removals, IsSetRemoved, IsSetReduced}
use Rattle.surject_arena.proofs.EntrySumLemmas.{length-without}
use Rattle.surject_arena.proofs.OptionLemmas.{same_some, none_some}

without-written : {Gen X : Type 0} (i : ℕ) (t : X) (es : List ((ℕ × Gen) × X)) → without_index i (with_replacement i (valued t) es) ≡ without_index i es
without-written i t [] = refl
without-written {Gen} {X} i t (e ∷ es) = ⊎_elim
    (λ same. ap (without_index i) (writes_first i t e es same) ∙ (first ((i, e.0.1), t) refl ∙ sym (first e same)))
    (λ other. ap (without_index i) (writes_later i t e es other) ∙ (later e (with_replacement i (valued t) es) other ∙ (ap (λ l. e ∷ l) (without-written i t es) ∙ sym (later e es other))))
    (cases_eq e.0.0 i)
  where
    first : (d : (ℕ × Gen) × X) → d.0.0 ≡ i → without_index i (d ∷ es) ≡ es
    first d same = ap (λ b. cond b es (d ∷ without_index i es)) (eq-eqb d.0.0 i same)

    later : (d : (ℕ × Gen) × X) (ds : List ((ℕ × Gen) × X)) → d.0.0 ≢ i → without_index i (d ∷ ds) ≡ d ∷ without_index i ds
    later d ds other = ap (λ b. cond b ds (d ∷ without_index i ds)) (ne_eqb d.0.0 i other)

removed-written : {Gen X : Type 0} (following : Gen → Gen) (s : ArenaView Gen X) (i : ℕ) (t : X) → view_after_removal following (view_with_value s i t) i ≡ view_after_removal following s i
removed-written following s i t = ap (λ es. record (view_after_removal following s i) { entries = es }) (without-written i t s.entries)

module _ {Gen : Type 0} (wraps : Gen → Bool) (following : Gen → Gen) where
  counter_removed : {X : Type 0} (s : ArenaView Gen X) (indexes : List ℕ) → (view_after_removals following s indexes).counter ≡ option_map (counter_after following (length indexes)) s.counter
  counter_removed s [] = same s.counter
    where
      same : (c : Option Gen) → c ≡ option_map (λ g. g) c
      same None = refl
      same (Some g) = refl
  counter_removed s (i ∷ indexes) = ap (option_map following) (counter_removed s indexes) ∙ twice s.counter
    where
      twice : (c : Option Gen) → option_map following (option_map (counter_after following (length indexes)) c) ≡ option_map (counter_after following (suc (length indexes))) c
      twice None = refl
      twice (Some g) = refl

  none_wraps : (c : Option Gen) → IfSome c (λ g. wraps_within wraps following 0 g ≡ false)
  none_wraps None = tt
  none_wraps (Some g) = refl

  one_more_wraps : (c : Option Gen) (n : ℕ) (wrapped overflow : Bool) → IfSome c (λ g. wraps_within wraps following n g ≡ wrapped) → IfSome (option_map (counter_after following n) c) (λ g. wraps g ≡ overflow)
      → IfSome c (λ g. wraps_within wraps following (suc n) g ≡ (wrapped || overflow))
  one_more_wraps None n wrapped overflow before now = tt
  one_more_wraps (Some g) n wrapped overflow before now = ap (λ b. b || wraps (counter_after following n g)) before ∙ ap (λ b. wrapped || b) now

  pub reports_flag : {X : Type 0} (counter : Option Gen) (invalid : Type 0) (done : X → Type 0) (b : Bool) (x : X) → IfSome counter (λ g. wraps g ≡ b) → done x → ReportsOverflow wraps counter invalid done (invalidation_result b (Some x))
  reports_flag counter invalid done true x flag is = (flag, is)
  reports_flag counter invalid done false x flag is = (flag, is)

module _ {Gen K V : Type 0} (s : Surjection Gen K V) where
  set_of_key : (p w : ℕ × Gen) → IsKeyOf s w p → set_at s p.0 ≡ Some w
  set_of_key p w is = ap (option_map (λ e. e.1.1)) is.1

  one_set : (p v w : ℕ × Gen) → IsKeyOf s v p → IsKeyOf s w p → v ≡ w
  one_set p v w first second = same_some v w (sym (set_of_key p v first) ∙ set_of_key p w second)

  one_value : (v w : ℕ × Gen) (t u : V) (n m : ℕ) → v ≡ w → HasValue s v t n → HasValue s w u m → (t ≡ u) × (n ≡ m)
  one_value v w t u n m same first second =
      let at_w : HasValue s w t n = subst (λ (x : ℕ × Gen). HasValue s x t n) same first in
      let pair : (w.1, (t, n)) ≡ (w.1, (u, m)) = same_some (w.1, (t, n)) (w.1, (u, m)) (sym at_w ∙ second) in
      (ap (λ (x : Gen × (V × ℕ)). x.1.0) pair, ap (λ (x : Gen × (V × ℕ)). x.1.1) pair)

pub taken_of : {Gen K V : Type 0} (wraps : Gen → Bool) (following : Gen → Gen) (mid new : Surjection Gen K V) (q : ℕ × Gen) (result : InvalidationResult (K × Option V))
    → ReportsOverflow wraps mid.keys.counter (IsKey mid q → ⊥) (λ e. IsKeyTaken mid new following q e.0 e.1) result → IsKey mid q
    → (e : K × Option V) × (value_within result ≡ Some e) × IsKeyTaken mid new following q e.0 e.1 × IfSome mid.keys.counter (λ g. wraps g ≡ is_overflow_result result)
taken_of wraps following mid new q (Success e) is valid = (e, refl, is.1, is.0)
taken_of wraps following mid new q (GenerationOverflow e) is valid = (e, refl, is.1, is.0)
taken_of wraps following mid new q InvalidPtr is valid = absurd (is valid)

module _ {Gen K V : Type 0} (wraps : Gen → Bool) (following : Gen → Gen) (old : Surjection Gen K V) (p : ℕ × Gen) where
  pub none_removed : IsKey old p → IsSurjection old → IsSetReduced old old wraps following p false
  none_removed valid sound =
      let w = valid.value.1 in
      let known = sound.valued p.0 w (ap (option_map (λ e. e.1.1)) valid.stored) in
      record {
        set = w;
        key = (valid.value.0, valid.stored);
        value = known.0;
        left = known.1;
        indexes = [];
        once = tt;
        members = λ i has. absurd has;
        not_first = λ has. has;
        keys = refl;
        gone = λ i has. absurd has;
        rest = λ i other. refl;
        was = subst (λ (n : ℕ). HasValue old w known.0 n) (omega arith) known.2;
        counts = known.2;
        values = refl;
        redirected = refl;
        overflow = none_wraps wraps following old.keys.counter;
      }

  module _ (mid new : Surjection Gen K V) (wrapped : Bool) (is : IsSetReduced old mid wraps following p wrapped) (ascends : AscendsFrom 1 mid.keys.entries) (q : ℕ × Gen) (k : K) (o : Option V) (taken : IsKeyTaken mid new following q k o) where
    stays : IsKeyOf mid is.set p
    stays = (is.key.0, is.rest p.0 is.not_first ∙ is.key.1)

    new_index : IsMember is.indexes q.0 → ⊥
    new_index has = none_some (q.1, (k, taken.set)) (entry_in mid.keys q.0) (is.gone q.0 has) taken.stored

    gone_now : entry_in new.keys q.0 ≡ None
    gone_now = ap (λ (s : ArenaView Gen (K × (ℕ × Gen))). found q.0 s.entries) taken.keys ∙ found-gone q.0 1 mid.keys.entries ascends

    kept_now : (i : ℕ) → i ≢ q.0 → entry_in new.keys i ≡ entry_in mid.keys i
    kept_now i other = ap (λ (s : ArenaView Gen (K × (ℕ × Gen))). found i s.entries) taken.keys ∙ found-kept i q.0 mid.keys.entries other

    in_set : taken.set ≡ is.set → set_at old q.0 ≡ Some is.set
    in_set same = ap (option_map (λ e. e.1.1)) (sym (is.rest q.0 new_index) ∙ taken.stored) ∙ ap Some same

    all_gone : (i : ℕ) → IsMember (q.0 ∷ is.indexes) i → entry_in new.keys i ≡ None
    all_gone i has = ⊎_elim
        (λ same. subst (λ (j : ℕ). entry_in new.keys j ≡ None) same gone_now)
        (λ had. kept_now i (λ same. new_index (subst (IsMember is.indexes) same had)) ∙ is.gone i had)
        has

    others_stay : (i : ℕ) → (IsMember (q.0 ∷ is.indexes) i → ⊥) → entry_in new.keys i ≡ entry_in old.keys i
    others_stay i absent = kept_now i (λ same. absent (inl (sym same))) ∙ is.rest i (λ has. absent (inr has))

    keys_now : new.keys ≡ view_after_removals following old.keys (q.0 ∷ is.indexes)
    keys_now = taken.keys ∙ ap (λ (s : ArenaView Gen (K × (ℕ × Gen))). view_after_removal following s q.0) is.keys

    pub flag_now : (overflow : Bool) → IfSome mid.keys.counter (λ g. wraps g ≡ overflow) → IfSome old.keys.counter (λ g. wraps_within wraps following (suc (length is.indexes)) g ≡ (wrapped || overflow))
    flag_now overflow flag = one_more_wraps wraps following old.keys.counter (length is.indexes) wrapped overflow is.overflow
        (subst (λ (c : Option Gen). IfSome c (λ g. wraps g ≡ overflow)) (ap (λ (s : ArenaView Gen (K × (ℕ × Gen))). s.counter) is.keys ∙ counter_removed wraps following old.keys is.indexes) flag)

    pub fewer : count new.keys < count mid.keys
    fewer =
        let less = length-without q.0 mid.keys.entries (q.1, (k, taken.set)) taken.stored in
        let now : count new.keys ≡ length (without_index q.0 mid.keys.entries) = ap (λ (s : ArenaView Gen (K × (ℕ × Gen))). length s.entries) taken.keys in
        omega (arith, less, now)

    pub one_removed : (overflow : Bool) → IfSome mid.keys.counter (λ g. wraps g ≡ overflow) → AreInOneSet mid p q → SharesSet mid p → q.0 ≢ p.0 → IsSetReduced old new wraps following p (wrapped || overflow)
    one_removed overflow flag one shared other =
        let same_shared : shared.0 ≡ is.set = one_set mid p shared.0 is.set shared.3 stays in
        let many : 1 < is.left = subst (λ (n : ℕ). 1 < n) (one_value mid shared.0 is.set shared.1 is.value shared.2 is.left same_shared shared.4 is.counts).1 shared.5 in
        let same : taken.set ≡ is.set = one_set mid q taken.set one.0 (k, taken.stored) one.2 ∙ one_set mid p one.0 is.set one.1 stays in
        let valued_same = one_value mid taken.set is.set taken.value is.value taken.size is.left same taken.valued is.counts in
        let written : new.values ≡ view_with_value mid.values is.set.0 (is.value, is.left - 1) = ⊎_elim
        (λ more. more.2 ∙ (ap (λ (w : ℕ × Gen). view_with_value mid.values w.0 (taken.value, taken.size - 1)) same
        ∙ (ap (λ (t : V). view_with_value mid.values is.set.0 (t, taken.size - 1)) valued_same.0 ∙ ap (λ (n : ℕ). view_with_value mid.values is.set.0 (is.value, n - 1)) valued_same.1)))
        (λ last. absurd (omega (arith, many, last.1, valued_same.1)))
        taken.values in
        let sum : length is.indexes + is.left ≡ suc (length is.indexes) + (is.left - 1) = omega (arith, many) in
        record {
          set = is.set;
          key = is.key;
          value = is.value;
          left = is.left - 1;
          indexes = q.0 ∷ is.indexes;
          once = (new_index, is.once);
          members = λ i has. ⊎_elim (λ here. subst (λ (j : ℕ). set_at old j ≡ Some is.set) here (in_set same)) (λ had. is.members i had) has;
          not_first = λ has. ⊎_elim (λ here. other here) (λ had. is.not_first had) has;
          keys = keys_now;
          gone = all_gone;
          rest = others_stay;
          was = subst (λ (n : ℕ). HasValue old is.set is.value n) sum is.was;
          counts = ap (λ (s : ArenaView Gen (V × ℕ)). found is.set.0 s.entries) written ∙ (found-written is.set.0 (is.value, is.left - 1) mid.values.entries ∙ ap (option_map (valued (is.value, is.left - 1))) is.counts);
          values = ap (λ (s : ArenaView Gen (V × ℕ)). view_after_removal following s is.set.0) written ∙ (removed-written following mid.values is.set.0 (is.value, is.left - 1) ∙ is.values);
          redirected = taken.redirected ∙ is.redirected;
          overflow = flag_now overflow flag;
        }

  pub key_beside_removed : (mid new : Surjection Gen K V) (wrapped : Bool) → IsSetReduced old mid wraps following p wrapped → AscendsFrom 1 mid.keys.entries → (q : ℕ × Gen) → AreInOneSet mid p q × SharesSet mid p × (q.0 ≢ p.0)
      → (result : InvalidationResult (K × Option V)) → ReportsOverflow wraps mid.keys.counter (IsKey mid q → ⊥) (λ e. IsKeyTaken mid new following q e.0 e.1) result
      → (count new.keys < count mid.keys) × IsSetReduced old new wraps following p (wrapped || is_overflow_result result)
  key_beside_removed mid new wrapped is ascends q beside result outcome =
      let t = taken_of wraps following mid new q result outcome (record { value = (beside.0.2.0, beside.0.0); stored = beside.0.2.1 }) in (
        fewer mid new wrapped is ascends q t.0.0 t.0.1 t.2,
        one_removed mid new wrapped is ascends q t.0.0 t.0.1 t.2 (is_overflow_result result) t.3 beside.0 beside.1 beside.2,
      )

  module _ (mid new : Surjection Gen K V) (wrapped : Bool) (is : IsSetReduced old mid wraps following p wrapped) (alone : IsAlone mid p) (k : K) (o : Option V) (taken : IsKeyTaken mid new following p k o) where
    last_stays : IsKeyOf mid is.set p
    last_stays = (is.key.0, is.rest p.0 is.not_first ∙ is.key.1)

    same_alone : alone.0 ≡ is.set
    same_alone = one_set mid p alone.0 is.set alone.2 last_stays

    one_left : 1 ≡ is.left
    one_left = (one_value mid alone.0 is.set alone.1 is.value 1 is.left same_alone alone.3 is.counts).1

    same_set : taken.set ≡ is.set
    same_set = one_set mid p taken.set is.set (k, taken.stored) last_stays

    valued_last : (taken.value ≡ is.value) × (taken.size ≡ is.left)
    valued_last = one_value mid taken.set is.set taken.value is.value taken.size is.left same_set taken.valued is.counts

    taken_out : (o ≡ Some is.value) × (new.values ≡ view_after_removal following old.values is.set.0)
    taken_out = ⊎_elim
        (λ more. absurd (omega (arith, more.1, valued_last.1, one_left)))
        (λ last. (last.0 ∙ ap Some valued_last.0, last.2 ∙ (ap (λ (w : ℕ × Gen). view_after_removal following mid.values w.0) same_set ∙ is.values)))
        taken.values

    pub value_returned : o ≢ None
    value_returned none = none_some is.value o none taken_out.0

    only : IsSurjection mid → (i : ℕ) → set_at mid i ≡ Some is.set → i ≡ p.0
    only sound i at =
        let held = sound.counted is.set is.value is.left is.counts in
        single held.0 (held.2 ∙ sym one_left) ((held.1.members i).1 at) ((held.1.members p.0).1 (set_of_key mid p is.set last_stays))
      where
        single : (indexes : List ℕ) → length indexes ≡ 1 → IsMember indexes i → IsMember indexes p.0 → i ≡ p.0
        single [] size has first = absurd has
        single (j ∷ []) size has first = ⊎_elim (λ here. ⊎_elim (λ there. sym here ∙ there) (λ none. absurd none) first) (λ none. absurd none) has
        single (j ∷ l ∷ indexes) size has first = absurd (omega (arith, size))

    pub set_removed : AscendsFrom 1 mid.keys.entries → IsSurjection mid → (t : V) → o ≡ Some t → IsSetRemoved old new following p (suc (length is.indexes)) t
    set_removed ascends sound t returned =
        let value_is : is.value ≡ t = same_some is.value t (sym taken_out.0 ∙ returned) in
        record {
          set = is.set;
          key = is.key;
          valued = subst (λ (u : V). HasValue old is.set u (suc (length is.indexes))) value_is (subst (λ (n : ℕ). HasValue old is.set is.value n) (omega (arith, one_left)) is.was);
          indexes = p.0 ∷ is.indexes;
          members = record { once = (is.not_first, is.once); members = λ i. (in_set_of i, listed i) };
          size = refl;
          keys = taken.keys ∙ ap (λ (s : ArenaView Gen (K × (ℕ × Gen))). view_after_removal following s p.0) is.keys;
          gone = λ i at. gone_at i (listed i at);
          rest = λ i other. kept_at i (λ has. other (in_set_of i has));
          values = taken_out.1;
          redirected = taken.redirected ∙ is.redirected;
        }
      where
        in_set_of : (i : ℕ) → IsMember (p.0 ∷ is.indexes) i → set_at old i ≡ Some is.set
        in_set_of i has = ⊎_elim (λ here. subst (λ (j : ℕ). set_at old j ≡ Some is.set) here (set_of_key old p is.set is.key)) (λ had. is.members i had) has

        listed : (i : ℕ) → set_at old i ≡ Some is.set → IsMember (p.0 ∷ is.indexes) i
        listed i at = ⊎_elim
            (λ had. inr had)
            (λ absent. inl (sym (only sound i (ap (option_map (λ e. e.1.1)) (is.rest i absent) ∙ at))))
            (IsMember-or_not is.indexes i)

        gone_at : (i : ℕ) → IsMember (p.0 ∷ is.indexes) i → entry_in new.keys i ≡ None
        gone_at = all_gone mid new wrapped is ascends p k o taken

        kept_at : (i : ℕ) → (IsMember (p.0 ∷ is.indexes) i → ⊥) → entry_in new.keys i ≡ entry_in old.keys i
        kept_at = others_stay mid new wrapped is ascends p k o taken

  module _ (mid new : Surjection Gen K V) (wrapped : Bool) (is : IsSetReduced old mid wraps following p wrapped) (alone : IsAlone mid p) (result : InvalidationResult (K × Option V))
      (outcome : ReportsOverflow wraps mid.keys.counter (IsKey mid p → ⊥) (λ e. IsKeyTaken mid new following p e.0 e.1) result) where
    taken_last : (e : K × Option V) × (value_within result ≡ Some e) × IsKeyTaken mid new following p e.0 e.1 × IfSome mid.keys.counter (λ g. wraps g ≡ is_overflow_result result)
    taken_last = taken_of wraps following mid new p result outcome (record { value = (alone.2.0, alone.0); stored = alone.2.1 })

    pub key_returned : value_within result ≡ None → ⊥
    key_returned none = none_some taken_last.0 (value_within result) none taken_last.1

    pub last_value_returned : (k : K) → value_within result ≡ Some (k, None) → ⊥
    last_value_returned k some =
        let same : taken_last.0 ≡ (k, None) = same_some taken_last.0 (k, None) (sym taken_last.1 ∙ some) in
        value_returned mid new wrapped is alone taken_last.0.0 taken_last.0.1 taken_last.2 (ap (λ (e : K × Option V). e.1) same)

    pub whole_set_removed : AscendsFrom 1 mid.keys.entries → IsSurjection mid → (k : K) (t : V) → value_within result ≡ Some (k, Some t)
        → IsSetRemoved old new following p (suc (length is.indexes)) t × IfSome old.keys.counter (λ g. wraps_within wraps following (suc (length is.indexes)) g ≡ (wrapped || is_overflow_result result))
    whole_set_removed ascends sound k t some =
        let same : taken_last.0 ≡ (k, Some t) = same_some taken_last.0 (k, Some t) (sym taken_last.1 ∙ some) in (
          set_removed mid new wrapped is alone taken_last.0.0 taken_last.0.1 taken_last.2 ascends sound t (ap (λ (e : K × Option V). e.1) same),
          flag_now mid new wrapped is ascends p taken_last.0.0 taken_last.0.1 taken_last.2 (is_overflow_result result) taken_last.3,
        )
