-- The outcomes of calls on a surjection arena.
use Rattle.std.specs.Prelude.{◌≡◌, ◌≢◌, ◌↔◌, ℕ, ◌+◌, ◌-◌, ◌<◌, ◌≤◌, ◌⊎◌, ◌^◌, min, map, IsSome, IfSome, Option, None, Some, Result, Ok, Err}
use Rattle.std.specs.Option.{option_map}
use Rattle.std.specs.Borrow.{Bor}
use Rattle.arena_core.specs.SlotStack.{IsWithinMaximum}
use Rattle.arena_core.specs.PointerKinds.{PointerKind}
use Rattle.arena_core.specs.declared.errors.ChainInsertionError.{ChainInsertionError}
use Rattle.arena_core.specs.declared.errors.ReallocationError.{ReallocationError}
use Rattle.arena_core.specs.declared.invalidation.InvalidationResult.{InvalidationResult}
use Rattle.arena_core.specs.Invalidation.{invalidation_option}
use Rattle.arena_core.specs.declared.invalidation.InvalidationOption.{InvalidationOption}
use Rattle.arena_traits.specs.Arena.{IsInserted, overflows_after_clear}
use Rattle.arena_traits.specs.CallOutcomes.{ReportsOverflow, IsCopied, RefusesCopy}
use Rattle.arena_traits.specs.Entries.{ArenaView, IsNew, index_of, count, with_capacity, next_slot, with_next_filled, view_with_value, view_after_removal, view_after_clear}
use Rattle.arena_traits.specs.Growth.{IsGrowthResult, RefusesOneMore, GrowsForOneMore}
use Rattle.chain_links.specs.Insertions.{IsInsertionResult}
use Rattle.surject_arena.specs.Surjections.{Surjection, entry_in, key_at, set_at, IsKey, IsKeyOf, HasValue, SharesSet, IsAlone}

-- The value x is inserted at p.
pub record IsAdded {Gen X : Type 0} (old : ArenaView Gen X) (x : X) (p : ℕ × Gen) (new : ArenaView Gen X) : Type 0 where
  pub entries : IsInserted (entry_in old) (entry_in new) p x
  pub more : count new ≡ count old + 1
  pub generation : IfSome old.counter (λ g. p.1 ≡ g)
  pub index : IfSome old.slots (λ slots. p.0 ≡ next_slot slots)
  pub slots : new.slots ≡ option_map with_next_filled old.slots
  pub counter : new.counter ≡ old.counter
  pub maximum : new.maximum ≡ old.maximum

abbrev pub IsNewFor : {Gen X : Type 0} → Gen → ℕ → ℕ → ArenaView Gen X → Type 0
IsNewFor first greatest n a = IsNew first a × (n ≤ a.capacity) × (n ≤ greatest) × IsWithinMaximum a.maximum n

module _ {Gen K V : Type 0} where
  -- `new`: no keys, no values and no capacity.
  pub record StartsEmpty (first : Gen) (s : Surjection Gen K V) : Type 0 where
    pub keys : IsNew first s.keys
    pub values : IsNew first s.values
    pub key_capacity : s.keys.capacity ≡ 0
    pub value_capacity : s.values.capacity ≡ 0
    pub redirected : s.redirected ≡ 0

  -- `with_capacity`: no keys, no values and these capacities, or an error.
  abbrev pub StartsWithCapacities : {E : Type 0} → Gen → ℕ → ℕ → ℕ → Result (Surjection Gen K V) E → Type 0
  StartsWithCapacities first greatest n m (Ok s) = IsNewFor first greatest n s.keys × IsNewFor first greatest m s.values × (s.redirected ≡ 0)
  StartsWithCapacities first greatest n m (Err why) = (0 < n) ⊎ (0 < m)

  module _ (old new : Surjection Gen K V) where
    -- Only the capacity for keys may have grown.
    abbrev pub GrowsKeys : Type 0
    GrowsKeys = (new ≡ record old { keys = with_capacity old.keys new.keys.capacity }) × (old.keys.capacity ≤ new.keys.capacity)

    -- The key k at p is in a new set with the value t.
    pub record IsSetAdded (k : K) (t : V) (p : ℕ × Gen) : Type 0 where
      pub set : ℕ × Gen
      pub key : IsAdded old.keys (k, set) p new.keys
      pub value : IsAdded old.values (t, 1) set new.values
      pub redirected : new.redirected ≡ old.redirected

    pub record IsKeyAdded (p : ℕ × Gen) (k : K) (q : ℕ × Gen) : Type 0 where
      pub set : ℕ × Gen
      pub beside : IsKeyOf old set p
      pub key : IsAdded old.keys (k, set) q new.keys
      pub value : V
      pub size : ℕ
      pub valued : HasValue old set value size
      pub values : new.values ≡ view_with_value old.values set.0 (value, size + 1)
      pub redirected : new.redirected ≡ old.redirected

    -- The set `from` is merged into `to`, and its value t removed.
    pub record IsAbsorbed (following : Gen → Gen) (to from : ℕ × Gen) (t : V) : Type 0 where
      pub differ : to ≢ from
      pub moved : (i : ℕ) → set_at old i ≡ Some from → set_at new i ≡ Some to
      pub sets : (i : ℕ) → set_at old i ≢ Some from → set_at new i ≡ set_at old i
      pub keys : (i : ℕ) → key_at new i ≡ key_at old i
      pub indexes : map index_of new.keys.entries ≡ map index_of old.keys.entries
      pub key_sizes : new.keys ≡ record old.keys { entries = new.keys.entries }
      pub value : V
      pub size : ℕ
      pub more : ℕ
      pub valued : HasValue old to value size
      pub dropped : HasValue old from t more
      pub values : new.values ≡ view_after_removal following (view_with_value old.values to.0 (value, size + more)) from.0
      pub redirected : new.redirected ≡ min (old.redirected + more) (2 ^ 128 - 1)

    -- The sets of p and q unite; that of r, the smaller or else q's, loses its value t.
    pub record AreUnited (following : Gen → Gen) (p q : ℕ × Gen) (t : V) (r : ℕ × Gen) : Type 0 where
      pub v : ℕ × Gen
      pub w : ℕ × Gen
      pub first : IsKeyOf old v p
      pub second : IsKeyOf old w q
      pub first_value : V
      pub first_size : ℕ
      pub first_valued : HasValue old v first_value first_size
      pub second_value : V
      pub second_size : ℕ
      pub second_valued : HasValue old w second_value second_size
      pub absorbed : ((second_size ≤ first_size) × IsAbsorbed following v w t × (r ≡ q)) ⊎ ((first_size < second_size) × IsAbsorbed following w v t × (r ≡ p))

    -- The key k at p is removed, and with a set's last key its value, as o.
    pub record IsKeyTaken (following : Gen → Gen) (p : ℕ × Gen) (k : K) (o : Option V) : Type 0 where
      pub set : ℕ × Gen
      pub stored : entry_in old.keys p.0 ≡ Some (p.1, (k, set))
      pub keys : new.keys ≡ view_after_removal following old.keys p.0
      pub value : V
      pub size : ℕ
      pub valued : HasValue old set value size
      pub values : ((o ≡ None) × (1 < size) × (new.values ≡ view_with_value old.values set.0 (value, size - 1)))
          ⊎ ((o ≡ Some value) × (size ≡ 1) × (new.values ≡ view_after_removal following old.values set.0))
      pub redirected : new.redirected ≡ old.redirected

    -- The key at p is k in place of `former`.
    pub record IsKeyReplaced (p : ℕ × Gen) (k former : K) : Type 0 where
      pub set : ℕ × Gen
      pub stored : entry_in old.keys p.0 ≡ Some (p.1, (former, set))
      pub keys : new.keys ≡ view_with_value old.keys p.0 (k, set)
      pub values : new.values ≡ old.values
      pub redirected : new.redirected ≡ old.redirected

    -- The value of the set of p is t in place of `former`.
    pub record IsValueReplaced (p : ℕ × Gen) (t former : V) : Type 0 where
      pub set : ℕ × Gen
      pub key : IsKeyOf old set p
      pub size : ℕ
      pub valued : HasValue old set former size
      pub values : new.values ≡ view_with_value old.values set.0 (t, size)
      pub keys : new.keys ≡ old.keys
      pub redirected : new.redirected ≡ old.redirected

    pub record AreValuesSwapped (v w : ℕ × Gen) : Type 0 where
      pub first_value : V
      pub first_size : ℕ
      pub first_valued : HasValue old v first_value first_size
      pub second_value : V
      pub second_size : ℕ
      pub second_valued : HasValue old w second_value second_size
      pub values : new.values ≡ view_with_value (view_with_value old.values v.0 (second_value, first_size)) w.0 (first_value, second_size)
      pub keys : new.keys ≡ old.keys
      pub redirected : new.redirected ≡ old.redirected

    pub record AreSetsSwapped (p q : ℕ × Gen) : Type 0 where
      pub v : ℕ × Gen
      pub w : ℕ × Gen
      pub first : IsKeyOf old v p
      pub second : IsKeyOf old w q
      pub swapped : ((v ≡ w) × (new ≡ old)) ⊎ ((v.0 ≢ w.0) × AreValuesSwapped v w)

    -- The key at p leaves its set for a new one with the value t.
    pub record IsKeySetApart (p : ℕ × Gen) (t : V) : Type 0 where
      pub set : ℕ × Gen
      pub own : ℕ × Gen
      pub key : K
      pub stored : entry_in old.keys p.0 ≡ Some (p.1, (key, set))
      pub keys : new.keys ≡ view_with_value old.keys p.0 (key, own)
      pub value : V
      pub size : ℕ
      pub valued : HasValue old set value size
      pub shared : 1 < size
      pub grown : ArenaView Gen (V × ℕ)
      pub added : IsAdded old.values (t, 1) own grown
      pub values : new.values ≡ view_with_value grown set.0 (value, size - 1)
      pub redirected : new.redirected ≡ old.redirected

    -- The key at p is set apart with the value t, or gets t if alone.
    abbrev pub IsKeySplit : ℕ → ℕ × Gen → V → Option V → Type 0
    IsKeySplit greatest p t None = IsKeySetApart p t × GrowsForOneMore greatest old.values new.values
    IsKeySplit greatest p t (Some former) = IsAlone old p × IsValueReplaced p t former

  -- `insert`: a key is inserted into a set of its own, or an arena could not grow.
  abbrev pub InsertsSet : {P : Type 0} → (P → ℕ × Gen) → ℕ → Surjection Gen K V → K → V → Result P ReallocationError → Surjection Gen K V → Type 0
  InsertsSet key greatest old k t result new =
      IsGrowthResult (λ why. RefusesOneMore old.keys why ⊎ RefusesOneMore old.values why)
      (λ p. IsSetAdded old new k t (key p) × GrowsForOneMore greatest old.keys new.keys × GrowsForOneMore greatest old.values new.values) result

  -- `insert_key`: a key is inserted into the set of p, or refused.
  abbrev pub InsertsKey : {P : Type 0} → (P → ℕ × Gen) → ℕ → Surjection Gen K V → P → K → Result P ChainInsertionError → Surjection Gen K V → Type 0
  InsertsKey key greatest old p k result new =
      IsInsertionResult (IsKey old (key p)) (RefusesOneMore old.keys) (λ q. IsKeyAdded old new (key p) k (key q) × GrowsForOneMore greatest old.keys new.keys) result

  -- `union`: the sets of p and q unite, if they are two.
  abbrev pub UnitesSets : {P : Type 0} → (P → ℕ × Gen) → (Gen → Gen) → Surjection Gen K V → P → P → Option (V × P) → Surjection Gen K V → Type 0
  UnitesSets key following old p q None new = (v w : ℕ × Gen) → IsKeyOf old v (key p) → IsKeyOf old w (key q) → v ≡ w
  UnitesSets key following old p q (Some e) new = AreUnited old new following (key p) (key q) e.0 (key e.1)

  -- `remove_key`: the key of p is removed, if p is valid.
  abbrev pub RemovesKey : {P I W : Type 0} → PointerKind P I Gen W → Surjection Gen K V → P → InvalidationResult (K × Option V) → Surjection Gen K V → Type 0
  RemovesKey pointers old p result new =
      ReportsOverflow pointers.wraps old.keys.counter (IsKey old (pointers.key p) → ⊥) (λ e. IsKeyTaken old new pointers.following (pointers.key p) e.0 e.1) result

  -- `replace_val`: the set of p gets another value, if p is valid.
  abbrev pub ReplacesValueOf : {P : Type 0} → (P → ℕ × Gen) → Surjection Gen K V → P → V → Option V → Surjection Gen K V → Type 0
  ReplacesValueOf key old p t None new = IsKey old (key p) → ⊥
  ReplacesValueOf key old p t (Some former) new = IsValueReplaced old new (key p) t former

  -- `swap_vals`: the sets of p and q exchange values, if both are valid.
  abbrev pub SwapsValuesOf : {P : Type 0} → (P → ℕ × Gen) → Surjection Gen K V → P → P → Option (Unit {0}) → Surjection Gen K V → Type 0
  SwapsValuesOf key old p q None new = IsKey old (key p) → IsKey old (key q) → ⊥
  SwapsValuesOf key old p q (Some done) new = AreSetsSwapped old new (key p) (key q)

  -- `split_key`: the key of p becomes alone in its set, or is refused.
  abbrev pub SplitsKey : {P : Type 0} → (P → ℕ × Gen) → ℕ → Surjection Gen K V → P → V → Result (Option V) ChainInsertionError → Surjection Gen K V → Type 0
  SplitsKey key greatest old p t result new =
      IsInsertionResult (IsKey old (key p)) (λ why. SharesSet old (key p) × RefusesOneMore old.values why) (λ o. IsKeySplit old new greatest (key p) t o) result

  -- `clear`: all keys and values are removed, and an overflow of keys is reported.
  abbrev pub ClearsSets : {P I W : Type 0} → PointerKind P I Gen W → Surjection Gen K V → InvalidationOption Unit → Surjection Gen K V → Type 0
  ClearsSets pointers old result new = record {
    keys : new.keys ≡ view_after_clear pointers.following old.keys;
    values : new.values ≡ view_after_clear pointers.following old.values;
    redirected : new.redirected ≡ old.redirected;
    overflow : IfSome old.keys.counter (λ g. result ≡ invalidation_option (overflows_after_clear pointers.wraps (count old.keys) g) tt);
  }

  -- `clone`: both arenas are copied, keys first, or one is refused.
  abbrev pub CopiesSets : ℕ → Option ℕ → Option ℕ → Surjection Gen K V → Result (Surjection Gen K V) ReallocationError → Type 0
  CopiesSets greatest most_keys most_values old (Ok copy) = IsCopied greatest most_keys old.keys copy.keys × IsCopied greatest most_values old.values copy.values × (copy.redirected ≡ old.redirected)
  CopiesSets greatest most_keys most_values old (Err why) =
      IfSome old.keys.slots (λ slots. RefusesCopy most_keys slots.count why)
      ⊎ (IfSome old.keys.slots (λ slots. IsWithinMaximum most_keys slots.count) × IfSome old.values.slots (λ slots. RefusesCopy most_values slots.count why))

  -- `get_key`: the key of p, if p is valid.
  abbrev pub ReadsKey : {P : Type 0} → (P → ℕ × Gen) → Surjection Gen K V → P → Option (Bor K) → Type 0
  ReadsKey key s p result = record {
    some : IsSome result ↔ IsKey s (key p);
    key : IfSome result (λ k. key_at s (key p).0 ≡ Some ((key p).1, k.now));
  }

  abbrev pub ReadsValue : {P : Type 0} → (P → ℕ × Gen) → Surjection Gen K V → P → Option (Bor V) → Type 0
  ReadsValue key s p result = record {
    some : IsSome result ↔ IsKey s (key p);
    value : IfSome result (λ t. (w : ℕ × Gen) × (n : ℕ) × IsKeyOf s w (key p) × HasValue s w t.now n);
  }

  abbrev pub CountsKeys : {P : Type 0} → (P → ℕ × Gen) → Surjection Gen K V → P → Option ℕ → Type 0
  CountsKeys key s p result = record {
    some : IsSome result ↔ IsKey s (key p);
    size : IfSome result (λ n. (w : ℕ × Gen) × (t : V) × IsKeyOf s w (key p) × HasValue s w t n);
  }
