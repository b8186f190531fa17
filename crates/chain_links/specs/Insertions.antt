use Rattle.std.specs.Prelude.{◌≡◌, ℕ, ◌+◌, length, IsSome, IfSome, Option, Result, Ok, Err}
use Rattle.std.specs.Option.{option_map}
use Rattle.arena_core.specs.PointerKinds.{PointerKind}
use Rattle.arena_core.specs.declared.errors.ChainInsertionError.{ChainInsertionError}
use Rattle.arena_core.specs.declared.errors.ChainInsertionError.TheVariants as failed
use Rattle.arena_core.specs.declared.errors.ReallocationError.{ReallocationError}
use Rattle.arena_core.specs.declared.errors.ReallocationError.TheVariants as refused
use Rattle.chain_laws.specs.Chains.{LinkMap}
use Rattle.chain_laws.specs.Insertions.{MayInsert, link_before, link_after, with_insertion, InsertsPairs, Inserts}
use Rattle.chain_laws.specs.declared.insert_kind.InsertKind.{InsertKind}
use Rattle.arena_traits.specs.Arena.{IsValid, IsInserted}
use Rattle.arena_traits.specs.Entries.{ArenaView, ArenaState, HasFreeCapacity, next_slot, with_next_filled}
use Rattle.arena_traits.specs.Growth.{IsGrowthResult, IsFull, RefusesOneMore, GrowsForOneMore}

-- Why an insertion is refused: its requirement (`may`) is not met, or a growth fails.
abbrev pub IsInsertionRefusal : Type 0 → (ReallocationError → Type 0) → ChainInsertionError → Type 0
IsInsertionRefusal may refuses failed.FailedLinkRequirement = may → ⊥
IsInsertionRefusal may refuses failed.BeyondMaxCapacity = may × refuses refused.BeyondMaxCapacity
IsInsertionRefusal may refuses failed.AllocError = may × refuses refused.AllocError
IsInsertionRefusal may refuses failed.NotWithinCapacity = ⊥

-- The same within the capacity.
abbrev pub IsWithinRefusal : (may full : Type 0) → ChainInsertionError → Type 0
IsWithinRefusal may full failed.FailedLinkRequirement = may → ⊥
IsWithinRefusal may full failed.NotWithinCapacity = may × full
IsWithinRefusal may full failed.BeyondMaxCapacity = ⊥
IsWithinRefusal may full failed.AllocError = ⊥

module _ {P : Type 0} where
  -- An insertion's outcome.
  abbrev pub IsInsertionResult : Type 0 → (ReallocationError → Type 0) → (P → Type 0) → Result P ChainInsertionError → Type 0
  IsInsertionResult may refuses inserted (Ok p) = may × inserted p
  IsInsertionResult may refuses inserted (Err why) = IsInsertionRefusal may refuses why

  -- An insertion's outcome within the capacity.
  abbrev pub IsInsertionWithinResult : (may has_capacity full : Type 0) → (P → Type 0) → Result P ChainInsertionError → Type 0
  IsInsertionWithinResult may has_capacity full inserted (Ok p) = may × has_capacity × inserted p
  IsInsertionWithinResult may has_capacity full inserted (Err why) = IsWithinRefusal may full why

module _ {P I Gen W : Type 0} (pointers : PointerKind P I Gen W) (interlinks : LinkMap) (kind : InsertKind P I) where
  abbrev pub before_new : ℕ → Option ℕ
  before_new q = link_before (λ p. (pointers.key p).0) pointers.number interlinks kind q

  abbrev pub after_new : ℕ → Option ℕ
  after_new q = link_after (λ p. (pointers.key p).0) pointers.number interlinks kind q

module _ {A Gen T : Type 0} {view : A → ArenaView Gen T} {entry : A → ℕ → Option (Gen × T)} (state : (a : A) → ArenaState (view a) (entry a)) (interlinks : A → LinkMap) where
  -- A link was inserted at p between u and v.
  pub record IsInsertedBetween (u v : Option ℕ) (old : A) (t : T) (p : ℕ × Gen) (new : A) : Type 0 where
    pub entries : IsInserted (entry old) (entry new) p t
    pub links : interlinks new ≡ with_insertion (interlinks old) p.0 u v
    pub pairs : InsertsPairs (interlinks old) (interlinks new) p.0 u v
    pub chains : Inserts (interlinks old) (interlinks new) p.0 u v
    -- The counter is unchanged.
    pub more : length (view new).entries ≡ length (view old).entries + 1
    pub generation : IfSome (view old).counter (λ g. p.1 ≡ g)
    pub index : IfSome (view old).slots (λ slots. p.0 ≡ next_slot slots)
    pub slots : (view new).slots ≡ option_map with_next_filled (view old).slots
    pub counter : (view new).counter ≡ (view old).counter
    pub maximum : (view new).maximum ≡ (view old).maximum

  module _ {P I W : Type 0} (pointers : PointerKind P I Gen W) where
    -- A link of the kind may be inserted.
    abbrev pub MayInsertIn : A → InsertKind P I → Type 0
    MayInsertIn a kind =
        MayInsert (λ p. (pointers.key p).0) pointers.number (λ p. IsValid (entry a) (pointers.key p)) (λ i. IsSome (entry a (pointers.number i))) (interlinks a) kind

    -- A link of the kind is inserted at p.
    abbrev pub IsLinkInserted : A → InsertKind P I → T → P → A → Type 0
    IsLinkInserted old kind t p new =
        IsInsertedBetween (before_new pointers (interlinks old) kind (pointers.key p).0) (after_new pointers (interlinks old) kind (pointers.key p).0) old t (pointers.key p) new

    -- An insertion within the capacity.
    abbrev pub InsertsLinkWithin : A → InsertKind P I → T → Result P ChainInsertionError → A → Type 0
    InsertsLinkWithin old kind t result new =
        IsInsertionWithinResult (MayInsertIn old kind) (HasFreeCapacity (view old)) (IsFull (view old)) (λ p. IsLinkInserted old kind t p new × ((view new).capacity ≡ (view old).capacity)) result

    -- A link is inserted at p, after a growth if the arena was full.
    abbrev pub IsLinkInsertedAfterGrowth : A → InsertKind P I → T → P → A → Type 0
    IsLinkInsertedAfterGrowth old kind t p new = IsLinkInserted old kind t p new × GrowsForOneMore pointers.greatest (view old) (view new)

    -- An insertion for which a full arena grows.
    abbrev pub InsertsLink : A → InsertKind P I → T → Result P ChainInsertionError → A → Type 0
    InsertsLink old kind t result new = IsInsertionResult (MayInsertIn old kind) (RefusesOneMore (view old)) (λ p. IsLinkInsertedAfterGrowth old kind t p new) result

    -- An insertion of a kind that may be inserted.
    abbrev pub InsertsAllowedLink : A → InsertKind P I → T → Result P ReallocationError → A → Type 0
    InsertsAllowedLink old kind t result new = IsGrowthResult (RefusesOneMore (view old)) (λ p. IsLinkInsertedAfterGrowth old kind t p new) result
