use Rattle.std.specs.Prelude.{◌≡◌, ℕ, ◌+◌, ◌*◌, ◌≤◌, Bool, true, false, List, [], map, length, All, Option, None, Some, IfSome}
use Rattle.std.specs.Option.{option_map}
use Rattle.std.specs.List.{FoldsTo, range_with_len}
use Rattle.std.specs.Fn.{Mut, Called}
use denote.Ref.{MutBor}
use Rattle.arena_traits.specs.Arena.{counter_after_clear, overflows_after_clear}
use Rattle.arena_traits.specs.Entries.{ArenaView, Slots, index_of}

-- The counter after a compression: the first, or stepped if there are entries.
abbrev pub counter_after_compression : {Gen : Type 0} → Gen → (Gen → Gen) → Bool → ℕ → Gen → Gen
counter_after_compression first following true count g = first
counter_after_compression first following false count g = counter_after_clear following count g

abbrev pub overflows_after_compression : {Gen : Type 0} → (Gen → Bool) → Bool → ℕ → Gen → Bool
overflows_after_compression wraps true count g = false
overflows_after_compression wraps false count g = overflows_after_clear wraps count g

-- The entries fill exactly as many slots, each placed once, with at most `most` touches.
pub record AreFilledAnew (entries most : ℕ) (old new : Slots) : Type 0 where
  pub count : new.count ≡ entries
  pub freed : new.freed ≡ []
  pub placed : new.placed ≡ old.placed + entries
  pub touches : ℕ
  pub few : touches ≤ most
  pub touched : new.touched ≡ old.touched + touches

abbrev pub IfKnown : (Slots → Slots → Type 0) → Option Slots → Option Slots → Type 0
IfKnown related None new = new ≡ None
IfKnown related (Some old) None = ⊥
IfKnown related (Some old) (Some new) = related old new

-- Slots, if known, are filled anew with at most four touches per old slot.
abbrev pub AreCompacted : ℕ → Option Slots → Option Slots → Type 0
AreCompacted count = IfKnown (λ old. AreFilledAnew count (4 * old.count) old)

-- A call of the closure: old pointer, value passed, new pointer, and value left.
pub record Visit (P T : Type 0) : Type 0 where
  pub from : P
  pub value : T
  pub to : P
  pub left : T

module _ {F P T : Type 0} (g : Mut F (P × (MutBor T × (P × Unit {0}))) (Unit {0} × (MutBor T × Unit {0}))) where
  pub record IsVisit (f : F) (visit : Visit P T) (next : F) : Type 0 where
    pub lent : MutBor T
    pub lends : lent.now ≡ visit.value
    pub back : MutBor T
    pub called : Called g f (visit.from, (lent, (visit.to, tt))) (tt, (back, tt)) next
    pub leaves : back.now ≡ visit.left

  -- The closure visits each entry once, in order, and leaves the new entries.
  pub record VisitsAll {Gen : Type 0} (key : P → ℕ × Gen) (f : F) (old new : List ((ℕ × Gen) × T)) : Type 0 where
    pub visits : List (Visit P T)
    pub last : F
    pub in_turn : FoldsTo IsVisit f visits last
    pub before : map (λ v. (key v.from, v.value)) visits ≡ old
    pub after : map (λ v. (key v.to, v.left)) visits ≡ new

module _ {Gen T : Type 0} where
  -- The entries are moved to the indexes from 1; values are not compared.
  pub record IsCompressed (first : Gen) (following : Gen → Gen) (reset : Bool) (old new : ArenaView Gen T) : Type 0 where
    pub indexes : map index_of new.entries ≡ range_with_len 1 (length old.entries)
    pub counter : new.counter ≡ option_map (counter_after_compression first following reset (length old.entries)) old.counter
    pub generation : Gen
    pub generations : All (λ e. e.0.1 ≡ generation) new.entries
    pub is_counter : IfSome new.counter (λ g. g ≡ generation)
    pub slots : AreCompacted (length old.entries) old.slots new.slots
    pub capacity : new.capacity ≡ old.capacity
    pub maximum : new.maximum ≡ old.maximum

  abbrev pub values_in : List ((ℕ × Gen) × T) → List T
  values_in es = map (λ e. e.1) es
