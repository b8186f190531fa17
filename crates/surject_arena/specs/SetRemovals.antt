-- Removals of whole sets.
use Rattle.std.specs.Prelude.{◌≡◌, ◌≢◌, ℕ, ◌+◌, List, [], ◌∷◌, length, Bool, IfSome, None, Some}
use Rattle.arena_core.specs.PointerKinds.{PointerKind}
use Rattle.arena_core.specs.declared.invalidation.InvalidationResult.{InvalidationResult}
use Rattle.arena_traits.specs.CallOutcomes.{ReportsOverflow, wraps_within}
use Rattle.arena_traits.specs.Entries.{ArenaView, view_after_removal}
use Rattle.chain_laws.specs.Chains.{IsMember, AreDistinct}
use Rattle.surject_arena.specs.Surjections.{Surjection, entry_in, set_at, IsKey, IsKeyOf, HasValue, AreKeysOf}

-- A view after removals at these indexes, the first one last.
abbrev pub view_after_removals : {Gen X : Type 0} → (Gen → Gen) → ArenaView Gen X → List ℕ → ArenaView Gen X
view_after_removals following s [] = s
view_after_removals following s (i ∷ indexes) = view_after_removal following (view_after_removals following s indexes) i

module _ {Gen K V : Type 0} (old new : Surjection Gen K V) where
  pub record IsSetRemoved (following : Gen → Gen) (p : ℕ × Gen) (n : ℕ) (t : V) : Type 0 where
    pub set : ℕ × Gen
    pub key : IsKeyOf old set p
    pub valued : HasValue old set t n
    pub indexes : List ℕ
    pub members : AreKeysOf old set indexes
    pub size : length indexes ≡ n
    pub keys : new.keys ≡ view_after_removals following old.keys indexes
    pub gone : (i : ℕ) → set_at old i ≡ Some set → entry_in new.keys i ≡ None
    pub rest : (i : ℕ) → set_at old i ≢ Some set → entry_in new.keys i ≡ entry_in old.keys i
    pub values : new.values ≡ view_after_removal following old.values set.0
    pub redirected : new.redirected ≡ old.redirected

  -- Keys of the set of p other than p are removed, and `wrapped` states an overflow.
  pub record IsSetReduced (wraps : Gen → Bool) (following : Gen → Gen) (p : ℕ × Gen) (wrapped : Bool) : Type 0 where
    pub set : ℕ × Gen
    pub key : IsKeyOf old set p
    pub value : V
    pub left : ℕ
    pub indexes : List ℕ
    pub once : AreDistinct indexes
    pub members : (i : ℕ) → IsMember indexes i → set_at old i ≡ Some set
    pub not_first : IsMember indexes p.0 → ⊥
    pub keys : new.keys ≡ view_after_removals following old.keys indexes
    pub gone : (i : ℕ) → IsMember indexes i → entry_in new.keys i ≡ None
    pub rest : (i : ℕ) → (IsMember indexes i → ⊥) → entry_in new.keys i ≡ entry_in old.keys i
    pub was : HasValue old set value (length indexes + left)
    pub counts : HasValue new set value left
    pub values : view_after_removal following new.values set.0 ≡ view_after_removal following old.values set.0
    pub redirected : new.redirected ≡ old.redirected
    pub overflow : IfSome old.keys.counter (λ g. wraps_within wraps following (length indexes) g ≡ wrapped)

  -- `remove`: the set of p is removed, if p is valid, and an overflow in any removal reported.
  abbrev pub RemovesSet : {P I W : Type 0} → PointerKind P I Gen W → P → InvalidationResult V → Type 0
  RemovesSet pointers p result = (n : ℕ) × ReportsOverflow (wraps_within pointers.wraps pointers.following n) old.keys.counter (IsKey old (pointers.key p) → ⊥)
      (λ t. IsSetRemoved pointers.following (pointers.key p) n t) result
