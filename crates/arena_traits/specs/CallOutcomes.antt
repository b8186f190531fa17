use Rattle.std.specs.Prelude.{◌≡◌, ℕ, zero, suc, ◌+◌, ◌<◌, ◌≤◌, Bool, true, false, ◌||◌, IfSome, Option, None, Some, Result, Ok, Err}
use Rattle.std.specs.Option.{option_map}
use Rattle.arena_core.specs.Invalidation.{invalidation_option}
use Rattle.arena_core.specs.PointerKinds.{PointerKind}
use Rattle.arena_core.specs.SlotStack.{IsWithinMaximum, IsBeyond}
use Rattle.arena_core.specs.declared.errors.ReallocationError.{ReallocationError}
use Rattle.arena_core.specs.declared.errors.ReallocationError.TheVariants as refused
use Rattle.arena_core.specs.declared.invalidation.InvalidationOption.{InvalidationOption}
use Rattle.arena_core.specs.declared.invalidation.InvalidationResult.{InvalidationResult}
use Rattle.arena_core.specs.declared.invalidation.InvalidationResult.TheVariants.{Success, GenerationOverflow, InvalidPtr}
use Rattle.arena_traits.specs.Arena.{IsValid, IsInserted, IsCapacityFor, overflows_after_clear}
use Rattle.arena_traits.specs.Entries.{ArenaView, ArenaState, count, HasFreeCapacity, IsNew, next_slot, with_next_filled, with_totals_zero, view_with_value, view_after_removal, view_after_invalidation, view_after_clear}
use Rattle.arena_traits.specs.Growth.{IsFull, IsGrowthResult, RefusesOneMore, GrowsForOneMore}
use Rattle.arena_traits.specs.Compressions.{IsCompressed, overflows_after_compression}

-- `invalid`, or `done` with whether a known counter wrapped.
abbrev pub ReportsOverflow : {X Gen : Type 0} → (Gen → Bool) → Option Gen → Type 0 → (X → Type 0) → InvalidationResult X → Type 0
ReportsOverflow wraps counter invalid done InvalidPtr = invalid
ReportsOverflow wraps counter invalid done (Success x) = IfSome counter (λ g. wraps g ≡ false) × done x
ReportsOverflow wraps counter invalid done (GenerationOverflow x) = IfSome counter (λ g. wraps g ≡ true) × done x

abbrev pub counter_after : {Gen : Type 0} → (Gen → Gen) → ℕ → Gen → Gen
counter_after following zero g = g
counter_after following (suc n) g = following (counter_after following n g)

-- Whether a counter wraps in one of n increments.
abbrev pub wraps_within : {Gen : Type 0} → (Gen → Bool) → (Gen → Gen) → ℕ → Gen → Bool
wraps_within wraps following zero g = false
wraps_within wraps following (suc n) g = wraps_within wraps following n g || wraps (counter_after following n g)

-- A new arena has capacity for n entries, or a positive n is refused.
abbrev pub StartsWithCapacity : {A Gen T E : Type 0} → (A → ArenaView Gen T) → Gen → ℕ → ℕ → Result A E → Type 0
StartsWithCapacity view first greatest n (Ok a) = IsNew first (view a) × (n ≤ (view a).capacity) × (n ≤ greatest) × IsWithinMaximum (view a).maximum n
StartsWithCapacity view first greatest n (Err why) = 0 < n

module _ {A Gen T : Type 0} {view : A → ArenaView Gen T} {entry : A → ℕ → Option (Gen × T)} (state : (a : A) → ArenaState (view a) (entry a)) where
  -- The value t is inserted at p: the next slot and the counter, if known.
  pub record IsEntryInserted (old : A) (t : T) (p : ℕ × Gen) (new : A) : Type 0 where
    pub entries : IsInserted (entry old) (entry new) p t
    pub more : count (view new) ≡ count (view old) + 1
    pub generation : IfSome (view old).counter (λ g. p.1 ≡ g)
    pub index : IfSome (view old).slots (λ slots. p.0 ≡ next_slot slots)
    pub slots : (view new).slots ≡ option_map with_next_filled (view old).slots
    pub counter : (view new).counter ≡ (view old).counter
    pub maximum : (view new).maximum ≡ (view old).maximum

  module _ {P : Type 0} (key : P → ℕ × Gen) where
    -- `insert_within_capacity`: t is inserted, or the arena is full.
    abbrev pub InsertsEntryWithin : {E : Type 0} → A → T → Result P E → A → Type 0
    InsertsEntryWithin old t (Ok p) new = HasFreeCapacity (view old) × IsEntryInserted old t (key p) new × ((view new).capacity ≡ (view old).capacity)
    InsertsEntryWithin old t (Err why) new = IsFull (view old)

    -- `insert_reallocating`: t is inserted, after growth if needed, or refused.
    abbrev pub InsertsEntry : ℕ → A → T → Result P ReallocationError → A → Type 0
    InsertsEntry greatest old t result new =
        IsGrowthResult (RefusesOneMore (view old)) (λ p. IsEntryInserted old t (key p) new × GrowsForOneMore greatest (view old) (view new)) result

    -- `replace`: t becomes the value of p, if p is valid.
    abbrev pub ReplacesValue : A → P → T → Option T → A → Type 0
    ReplacesValue old p t None new = IsValid (entry old) (key p) → ⊥
    ReplacesValue old p t (Some former) new = (entry old (key p).0 ≡ Some ((key p).1, former)) × (view new ≡ view_with_value (view old) (key p).0 t)

    -- `swap`: p and q exchange their values, if both are valid.
    abbrev pub SwapsValues : A → P → P → Option (Unit {0}) → A → Type 0
    SwapsValues old p q None new = IsValid (entry old) (key p) → IsValid (entry old) (key q) → ⊥
    SwapsValues old p q (Some done) new = (t u : T) × (entry old (key p).0 ≡ Some ((key p).1, t))
        × (entry old (key q).0 ≡ Some ((key q).1, u))
        × (view new ≡ view_with_value (view_with_value (view old) (key p).0 u) (key q).0 t)

module _ {A Gen T : Type 0} {view : A → ArenaView Gen T} {entry : A → ℕ → Option (Gen × T)} (state : (a : A) → ArenaState (view a) (entry a)) {P I W : Type 0} (pointers : PointerKind P I Gen W) where
  -- The value t at i, with generation g, is removed.
  abbrev pub IsEntryRemoved : A → ℕ → Gen → T → A → Type 0
  IsEntryRemoved old i g t new = (entry old i ≡ Some (g, t)) × (view new ≡ view_after_removal pointers.following (view old) i)

  -- `remove`: the entry of p is removed, if p is valid.
  abbrev pub RemovesEntry : A → P → InvalidationResult T → A → Type 0
  RemovesEntry old p result new =
      ReportsOverflow pointers.wraps (view old).counter (IsValid (entry old) (pointers.key p) → ⊥)
      (λ t. IsEntryRemoved old (pointers.key p).0 (pointers.key p).1 t new) result

  -- `remove_inx`: the entry at an index is removed, if any.
  abbrev pub RemovesEntryAt : A → I → InvalidationResult (Gen × T) → A → Type 0
  RemovesEntryAt old i result new =
      ReportsOverflow pointers.wraps (view old).counter (entry old (pointers.number i) ≡ None)
      (λ e. IsEntryRemoved old (pointers.number i) e.0 e.1 new) result

  -- `invalidate`: the entry of p gets the generation after the counter, and the pointer q.
  abbrev pub InvalidatesEntry : A → P → InvalidationResult P → A → Type 0
  InvalidatesEntry old p result new =
      ReportsOverflow pointers.wraps (view old).counter (IsValid (entry old) (pointers.key p) → ⊥)
      (λ q. IsValid (entry old) (pointers.key p) × ((pointers.key q).0 ≡ (pointers.key p).0)
      × IfSome (view old).counter (λ g. (pointers.key q).1 ≡ pointers.following g)
      × (view new ≡ view_after_invalidation (view old) (pointers.key q))) result

  -- `clear`: no entries and slots are left, with the overflow.
  abbrev pub ClearsEntries : A → InvalidationOption Unit → A → Type 0
  ClearsEntries old result new = record {
    after : view new ≡ view_after_clear pointers.following (view old);
    overflow : IfSome (view old).counter (λ g. result ≡ invalidation_option (overflows_after_clear pointers.wraps (count (view old)) g) tt);
  }

  -- A compression: the entries are moved to the indexes from 1.
  abbrev pub CompressesEntries : A → Bool → InvalidationOption Unit → A → Type 0
  CompressesEntries old reset result new = record {
    compressed : IsCompressed pointers.first pointers.following reset (view old) (view new);
    overflow : IfSome (view old).counter (λ g. result ≡ invalidation_option (overflows_after_compression pointers.wraps reset (count (view old)) g) tt);
  }

-- A copy has the same entries, counter and freed list over new slots.
pub record IsCopied {Gen T : Type 0} (greatest : ℕ) (initial : Option ℕ) (old copy : ArenaView Gen T) : Type 0 where
  pub entries : copy.entries ≡ old.entries
  pub counter : copy.counter ≡ old.counter
  pub slots : copy.slots ≡ option_map with_totals_zero old.slots
  pub maximum : copy.maximum ≡ initial
  pub capacity : IfSome old.slots (λ slots. IsCapacityFor greatest initial slots.count copy.capacity)

-- A copy of n slots exceeds the maximum, or an allocation fails.
abbrev pub RefusesCopy : Option ℕ → ℕ → ReallocationError → Type 0
RefusesCopy maximum n refused.BeyondMaxCapacity = IsBeyond maximum n
RefusesCopy maximum n refused.AllocError = (0 < n) × (IsBeyond maximum n → ⊥)

-- `try_clone`: a copy is made, or refused.
abbrev pub MakesCopy : {A Gen T : Type 0} → (A → ArenaView Gen T) → ℕ → Option ℕ → A → Result A ReallocationError → Type 0
MakesCopy view greatest maximum old (Ok copy) = IsCopied greatest maximum (view old) (view copy)
MakesCopy view greatest maximum old (Err why) = IfSome (view old).slots (λ slots. RefusesCopy maximum slots.count why)
