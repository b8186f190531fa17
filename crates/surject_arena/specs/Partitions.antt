-- Partitions: each set is one cyclic chain of keys, and its value counts them.
use Rattle.std.specs.Prelude.{◌≡◌, ◌↔◌, ℕ, List, length, map, Option, Some}
use Rattle.std.specs.Option.{option_map}
use Rattle.chain_laws.specs.Chains.{LinkMap, cyclic, IsChain, IsMember}
use Rattle.chain_laws.specs.Walks.{IsWalk}
use Rattle.arena_traits.specs.Arena.{IsValid}
use Rattle.arena_traits.specs.Entries.{ArenaView, ArenaState, index_of}
use Rattle.surject_arena.specs.Surjections.{Surjection, map_view}
use Rattle.surject_arena.specs.declared.members.Member.{Member}
use Rattle.surject_arena.specs.declared.members.Counted.{Counted}

abbrev pub member : {P K : Type 0} → K → P → Member P K
member k w = record { key = k; set = w }

abbrev pub counted : {V : Type 0} → V → ℕ → Counted V
counted t n = record { value = t; size = n }

abbrev pub member_view : {P Gen K : Type 0} → (P → ℕ × Gen) → Member P K → K × (ℕ × Gen)
member_view key m = (m.key, key m.set)

abbrev pub counted_view : {V : Type 0} → Counted V → V × ℕ
counted_view c = (c.value, c.size)

abbrev pub surjection_of : {P Gen K V : Type 0} → (P → ℕ × Gen) → ArenaView Gen (Member P K) → ArenaView Gen (Counted V) → ℕ → Surjection Gen K V
surjection_of key keys values redirected = record {
  keys = map_view (member_view key) keys;
  values = map_view counted_view values;
  redirected = redirected;
}

-- The set of the key at an index.
abbrev pub set_in : {P Gen K : Type 0} → (P → ℕ × Gen) → (ℕ → Option (Gen × Member P K)) → ℕ → Option (ℕ × Gen)
set_in key entry i = option_map (λ e. key e.1.set) (entry i)

-- The generation and number of keys of the value at an index.
abbrev pub size_in : {Gen V : Type 0} → (ℕ → Option (Gen × Counted V)) → ℕ → Option (Gen × ℕ)
size_in entry j = option_map (λ e. (e.0, e.1.size)) (entry j)

module _ {Gen : Type 0} (set : ℕ → Option (ℕ × Gen)) (links : LinkMap) where
  pub record IsSet (w : ℕ × Gen) (n : ℕ) : Type 0 where
    pub items : List ℕ
    pub chain : IsChain links (cyclic items)
    pub size : length items ≡ n
    pub members : (i : ℕ) → IsMember items i ↔ (set i ≡ Some w)

  -- Each key has a value, and each value the keys that it counts.
  pub record IsPartition (size : ℕ → Option (Gen × ℕ)) : Type 0 where
    pub valued : (i : ℕ) (w : ℕ × Gen) → set i ≡ Some w → (n : ℕ) × (size w.0 ≡ Some (w.1, n))
    pub sets : (w : ℕ × Gen) (n : ℕ) → size w.0 ≡ Some (w.1, n) → IsSet w n

pub record AreRedirected {P Gen K : Type 0} (entry after : ℕ → Option (Gen × Member P K)) (links : LinkMap) (j : ℕ) (w : P) : Type 0 where
  pub items : List ℕ
  pub walk : IsWalk links j items
  pub there : (i : ℕ) → IsMember items i → after i ≡ option_map (λ e. (e.0, member e.1.key w)) (entry i)
  pub rest : (i : ℕ) → (IsMember items i → ⊥) → after i ≡ entry i

-- If q is valid, its chain is redirected to w; only values of entries change.
pub record IsRedirection {A P Gen K : Type 0} {view : A → ArenaView Gen (Member P K)} {entry : A → ℕ → Option (Gen × Member P K)} (state : (a : A) → ArenaState (view a) (entry a)) (links : A → LinkMap) (key : P → ℕ × Gen) (old : A) (q w : P) (new : A) : Type 0 where
  pub redirected : IsValid (entry old) (key q) → AreRedirected (entry old) (entry new) (links old) (key q).0 w
  pub indexes : map index_of (view new).entries ≡ map index_of (view old).entries
  pub rest : view new ≡ record (view old) { entries = (view new).entries }
  pub same_links : links new ≡ links old
