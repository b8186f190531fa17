-- Entries moved to their destinations by exchanges of slots.
use Rattle.std.specs.Prelude.{◌≡◌, ◌≢◌, ℕ, ◌+◌, ◌*◌, ◌⊎◌, ◌<◌, ◌≤◌, Bool, List, length, slice_index, Option, None, Some, count_by, is_some}
use Rattle.std.specs.Option.{option_and_then}
use Rattle.arena_traits.specs.Arena.{Arena, slot_at}
use Rattle.chain_links.specs.declared.links.RawLink.{RawLink}
use Rattle.chain_compaction.specs.DetachedLinks.{IsWork}

abbrev pub IsInBlock : ℕ → ℕ → ℕ → Type 0
IsInBlock start count j = (start < j) × (j ≤ start + count)

-- Each entry may have a destination, its `goal`.
module _ {E : Type 0} where
  -- The entry e is at i and waits for d.
  pub record HasDestination (goal : E → Option ℕ) (now : ℕ → Option E) (i : ℕ) (e : E) (d : ℕ) : Type 0 where
    pub stored : now i ≡ Some e
    pub to : goal e ≡ Some d

  -- What e has become is at d.
  pub record IsSettledAt (Settles : E → E → Type 0) (now : ℕ → Option E) (d : ℕ) (e : E) : Type 0 where
    pub entry : E
    pub stored : now d ≡ Some entry
    pub settled : Settles e entry

  -- e, now at j, waits as at first.
  pub record StillWaits (goal : E → Option ℕ) (old now : ℕ → Option E) (j : ℕ) (e : E) : Type 0 where
    pub from : ℕ
    pub to : ℕ
    pub waited : HasDestination goal old from e to
    pub waits : HasDestination goal now j e to

  -- e is what an entry that waited for j has become.
  pub record HasArrived (goal : E → Option ℕ) (Settles : E → E → Type 0) (old : ℕ → Option E) (j : ℕ) (e : E) : Type 0 where
    pub from : ℕ
    pub entry : E
    pub waited : HasDestination goal old from entry j
    pub settled : Settles entry e

  -- Each entry still waits or is settled.
  pub record IsMoving (goal : E → Option ℕ) (Settles : E → E → Type 0) (old now : ℕ → Option E) : Type 0 where
    pub apart : (i j d : ℕ) (e f : E) → HasDestination goal now i e d → HasDestination goal now j f d → i ≡ j
    pub unsettled : (i d : ℕ) (e f : E) → HasDestination goal now i e d → now d ≡ Some f → goal f ≢ None
    pub there : (i d : ℕ) (e : E) → HasDestination goal old i e d → ((j : ℕ) × HasDestination goal now j e d) ⊎ IsSettledAt Settles now d e
    pub back : (j : ℕ) (e : E) → now j ≡ Some e → StillWaits goal old now j e ⊎ HasArrived goal Settles old j e

  -- Each destination holds its entry, settled, and there is no other.
  pub record HaveMoved (goal : E → Option ℕ) (Settles : E → E → Type 0) (old new : ℕ → Option E) : Type 0 where
    pub there : (i d : ℕ) (e : E) → HasDestination goal old i e d → IsSettledAt Settles new d e
    pub back : (j : ℕ) (e : E) → new j ≡ Some e → HasArrived goal Settles old j e

  abbrev pub waits : (E → Option ℕ) → Option E → Bool
  waits goal slot = is_some (option_and_then goal slot)

  abbrev pub waiting_count : (E → Option ℕ) → List (Option E) → ℕ
  waiting_count goal slots = count_by (waits goal) slots

  -- Each waiting entry waits for an existing slot.
  pub record WaitsWithin (goal : E → Option ℕ) (slots : List (Option E)) : Type 0 where
    pub within : (i d : ℕ) (e : E) → HasDestination goal (slot_at slots) i e d → (1 ≤ d) × (d ≤ length slots)

  -- How slots change while a block is moved.
  pub record IsSettling (goal : E → Option ℕ) (Settles : E → E → Type 0) (block : ℕ → Type 0) (old now : List (Option E)) : Type 0 where
    pub moves : (first : ℕ → Option E) → IsMoving goal Settles first (slot_at old) → IsMoving goal Settles first (slot_at now)
    pub within : WaitsWithin goal old → WaitsWithin goal now
    pub length : length now ≡ length old
    pub stays : (j d : ℕ) (e : E) → (block j → ⊥) → HasDestination goal (slot_at now) j e d → HasDestination goal (slot_at old) j e d

  -- The first `left` positions include each slot of the block where an entry waits; position p is
  -- index p + 1.
  pub record ListsWaiting (goal : E → Option ℕ) (start count : ℕ) (positions : List ℕ) (left : ℕ) (now : ℕ → Option E) : Type 0 where
    pub length : length positions ≡ 64
    pub few : left ≤ count
    pub within : (p : ℕ) → p < left → (start ≤ slice_index positions p) × (slice_index positions p < start + count)
    pub listed : (j d : ℕ) (e : E) → IsInBlock start count j → HasDestination goal now j e d → (p : ℕ) × (p < left) × (j ≡ slice_index positions p + 1)

  -- No entry waits up to k.
  pub record ArePassed (goal : E → Option ℕ) (Settles : E → E → Type 0) (old now : List (Option E)) (k : ℕ) : Type 0 where
    pub moves : IsMoving goal Settles (slot_at old) (slot_at now)
    pub within : WaitsWithin goal now
    pub length : length now ≡ length old
    pub passed : (j d : ℕ) (e : E) → j ≤ k → HasDestination goal (slot_at now) j e d → ⊥

  -- Each entry waits for an existing slot, no two for one.
  pub record CanMoveAll (goal : E → Option ℕ) (old : List (Option E)) : Type 0 where
    pub apart : (i j d : ℕ) (e f : E) → HasDestination goal (slot_at old) i e d → HasDestination goal (slot_at old) j f d → i ≡ j
    pub within : WaitsWithin goal old
    pub each : (i : ℕ) (e : E) → slot_at old i ≡ Some e → (d : ℕ) × (goal e ≡ Some d)

  -- The destinations are the indexes from 1 to n.
  pub record AreMovedToFront (goal : E → Option ℕ) (old : List (Option E)) (n : ℕ) : Type 0 where
    pub few : (i d : ℕ) (e : E) → HasDestination goal (slot_at old) i e d → d ≤ n
    pub each : (d : ℕ) → 1 ≤ d → d ≤ n → (i : ℕ) × (e : E) × HasDestination goal (slot_at old) i e d

module _ {Gen K T : Type 0} where
  -- Only the generation was set, and the destination removed.
  pub record Settles (number : K → Option ℕ) (g : Gen) (e f : Gen × RawLink K T) : Type 0 where
    pub generation : f.0 ≡ g
    pub empty : number f.1.destination ≡ None
    pub rest : f.1 ≡ record e.1 { destination = f.1.destination }

module _ {Gen T : Type 0} where
  -- A placement and at most two touches per entry moved, and at most `more` touches.
  pub record IsWorkOn (old new : Arena Gen T) (waited wait more : ℕ) : Type 0 where
    pub moved : ℕ
    pub work : IsWork old new moved (2 * moved + more)
    pub count : wait + moved ≡ waited

  -- As `IsWorkOn`, with at most four touches per entry moved, of which two for each of `left`
  -- entries are unused yet.
  pub record IsWorkInRounds (old new : Arena Gen T) (waited wait more left : ℕ) : Type 0 where
    pub moved : ℕ
    pub most : ℕ
    pub work : IsWork old new moved most
    pub few : most + 2 * left ≤ 4 * moved + more
    pub count : wait + moved ≡ waited
