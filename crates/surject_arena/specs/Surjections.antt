-- A surjection arena in contracts.
use Rattle.std.specs.Prelude.{◌≡◌, ◌↔◌, ◌<◌, ℕ, List, map, length, Option, Some}
use Rattle.std.specs.Option.{option_map}
use Rattle.chain_laws.specs.Chains.{IsMember, AreDistinct}
use Rattle.arena_traits.specs.Arena.{IsValid}
use Rattle.arena_traits.specs.Entries.{ArenaView, found}

-- The keys in sets, named by their values' indexes and generations, and the values, with their
-- numbers of keys.
pub record Surjection (Gen K V : Type 0) : Type 0 where
  pub keys : ArenaView Gen (K × (ℕ × Gen))
  pub values : ArenaView Gen (V × ℕ)
  pub redirected : ℕ

abbrev pub map_view : {Gen X Y : Type 0} → (X → Y) → ArenaView Gen X → ArenaView Gen Y
map_view f s = record {
  entries = map (λ e. (e.0, f e.1)) s.entries;
  counter = s.counter;
  slots = s.slots;
  capacity = s.capacity;
  maximum = s.maximum;
}

abbrev pub entry_in : {Gen X : Type 0} → ArenaView Gen X → ℕ → Option (Gen × X)
entry_in s i = found i s.entries

module _ {Gen K V : Type 0} (s : Surjection Gen K V) where
  -- The generation and the key at an index.
  abbrev pub key_at : ℕ → Option (Gen × K)
  key_at i = option_map (λ e. (e.0, e.1.0)) (entry_in s.keys i)

  abbrev pub set_at : ℕ → Option (ℕ × Gen)
  set_at i = option_map (λ e. e.1.1) (entry_in s.keys i)

  -- p is the pointer of a key.
  abbrev pub IsKey : ℕ × Gen → Type 0
  IsKey p = IsValid (entry_in s.keys) p

  -- p is the pointer of a key of the set w.
  abbrev pub IsKeyOf : ℕ × Gen → ℕ × Gen → Type 0
  IsKeyOf w p = (k : K) × (entry_in s.keys p.0 ≡ Some (p.1, (k, w)))

  -- p and q are pointers of keys of one set.
  abbrev pub AreInOneSet : ℕ × Gen → ℕ × Gen → Type 0
  AreInOneSet p q = (w : ℕ × Gen) × IsKeyOf w p × IsKeyOf w q

  -- The set w has the value t and n keys.
  abbrev pub HasValue : ℕ × Gen → V → ℕ → Type 0
  HasValue w t n = entry_in s.values w.0 ≡ Some (w.1, (t, n))

  -- The key of p shares its set.
  abbrev pub SharesSet : ℕ × Gen → Type 0
  SharesSet p = (w : ℕ × Gen) × (t : V) × (n : ℕ) × IsKeyOf w p × HasValue w t n × (1 < n)

  -- The key of p is alone in its set.
  abbrev pub IsAlone : ℕ × Gen → Type 0
  IsAlone p = (w : ℕ × Gen) × (t : V) × IsKeyOf w p × HasValue w t 1

  -- The indexes of the keys of the set w, each once.
  pub record AreKeysOf (w : ℕ × Gen) (indexes : List ℕ) : Type 0 where
    pub once : AreDistinct indexes
    pub members : (i : ℕ) → IsMember indexes i ↔ (set_at i ≡ Some w)

  -- Each key has a value, and each value the keys that it counts, at least one.
  pub record IsSurjection : Type 0 where
    pub valued : (i : ℕ) (w : ℕ × Gen) → set_at i ≡ Some w → (t : V) × (n : ℕ) × HasValue w t n
    pub counted : (w : ℕ × Gen) (t : V) (n : ℕ) → HasValue w t n → (indexes : List ℕ) × AreKeysOf w indexes × (length indexes ≡ n)
    pub onto : (w : ℕ × Gen) (t : V) (n : ℕ) → HasValue w t n → (i : ℕ) × (set_at i ≡ Some w)
