-- Compressions of keys and values.
use Rattle.std.specs.Prelude.{◌≡◌, ◌↔◌, ℕ, ◌<◌, Bool, List, map, Option, IfSome, Result, Ok, Err, Some}
use Rattle.arena_core.specs.PointerKinds.{PointerKind}
use Rattle.arena_core.specs.Invalidation.{invalidation_option}
use Rattle.arena_core.specs.declared.invalidation.InvalidationOption.{InvalidationOption}
use Rattle.arena_traits.specs.Arena.{IsValid}
use Rattle.arena_traits.specs.Compressions.{IsCompressed, overflows_after_compression, values_in}
use Rattle.arena_traits.specs.Entries.{ArenaView, count, index_of}
use Rattle.chain_laws.specs.Arrangements.{place_in}
use Rattle.surject_arena.specs.Surjections.{Surjection, entry_in, IsKey, IsKeyOf, AreInOneSet}

-- The place, from 1, of an index among the entries.
abbrev pub place_among : {Gen X : Type 0} → List ((ℕ × Gen) × X) → ℕ → Option ℕ
place_among es i = place_in (map index_of es) i

pub record IsMoved {Gen X : Type 0} (old new : ArenaView Gen X) (p q : ℕ × Gen) : Type 0 where
  pub was : IsValid (entry_in old) p
  pub place : place_among old.entries p.0 ≡ Some q.0
  pub is : IsValid (entry_in new) q

module _ {Gen K V : Type 0} where
  -- The keys by ascending index, with their pointers.
  abbrev pub keys_in : Surjection Gen K V → List ((ℕ × Gen) × K)
  keys_in s = map (λ e. (e.0, e.1.0)) s.keys.entries

  -- Keys and values are compressed, and each key keeps its set and value.
  pub record AreSetsCompressed (first : Gen) (following : Gen → Gen) (reset : Bool) (old new : Surjection Gen K V) : Type 0 where
    pub keys : IsCompressed first following reset old.keys new.keys
    pub values : IsCompressed first following reset old.values new.values
    pub moved : (p : ℕ × Gen) → IsKey old p → (p' : ℕ × Gen) × IsMoved old.keys new.keys p p'
    pub values_stay : values_in new.values.entries ≡ values_in old.values.entries
    pub sets : (p p' w w' : ℕ × Gen) → IsMoved old.keys new.keys p p' → IsMoved old.values new.values w w' → IsKeyOf old w p → IsKeyOf new w' p'
    pub together : (p p' q q' : ℕ × Gen) → IsMoved old.keys new.keys p p' → IsMoved old.keys new.keys q q' → AreInOneSet old p q ↔ AreInOneSet new p' q'
    pub redirected : new.redirected ≡ old.redirected

  -- `compress_with`, `compress`: keys and values are compressed, or memory was refused.
  abbrev pub CompressesSets : {P I W E : Type 0} → PointerKind P I Gen W → Surjection Gen K V → Bool → Result (InvalidationOption Unit) E → Surjection Gen K V → Type 0
  CompressesSets pointers old reset (Err why) new = 0 < count old.values
  CompressesSets pointers old reset (Ok result) new = record {
    compressed : AreSetsCompressed pointers.first pointers.following reset old new;
    overflow : IfSome old.keys.counter (λ g. result ≡ invalidation_option (overflows_after_compression pointers.wraps reset (count old.keys) g) tt);
  }
