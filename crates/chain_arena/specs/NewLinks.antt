use Rattle.std.specs.Prelude.{◌≡◌, ◌↔◌, ℕ, ◌+◌, ◌<◌, IsSome, IfSome, Option, None, Some, Result, Ok, Err}
use Rattle.std.specs.Borrow.{Bor}
use Rattle.std.specs.Option.{option_map}
use Rattle.arena_core.specs.PointerKinds.{PointerKind}
use Rattle.arena_core.specs.declared.errors.ChainInsertionError.{ChainInsertionError}
use Rattle.arena_core.specs.declared.errors.ReallocationError.{ReallocationError}
use Rattle.arena_traits.specs.Arena.{ReachesCapacity, IsListed, entry_count, next_index, with_capacity_of}
use Rattle.arena_traits.specs.Entries.{HasFreeCapacity}
use Rattle.arena_traits.specs.Growth.{IsFull, RefusesOneMore, GrowsForOneMore}
use Rattle.arena_base.specs.Growths.{HasGrownFor}
use Rattle.chain_laws.specs.Chains.{IsWellLinked}
use Rattle.chain_laws.specs.declared.insert_kind.InsertKind.{InsertKind}
use Rattle.chain_links.specs.ChainArena.{link_map, value_view, value_state, insert_between, interlinks_in, nonzero_index}
use Rattle.chain_links.specs.Insertions.{IsInsertionWithinResult, MayInsertIn, IsLinkInserted, before_new, after_new}
use Rattle.chain_links.specs.Links.{link_view}
use Rattle.chain_links.specs.declared.links.RawLink.{RawLink}
use Rattle.chain_arena.specs.Effects.{Links}

-- The link at i, exactly if it is given, and its index.
abbrev pub NamesLink : {K I Gen T : Type 0} → (K → Option ℕ) → (I → ℕ) → Links Gen T → ℕ → (given : Type 0) → Option (Bor (RawLink K T)) × I → Type 0
NamesLink packed number a i given result = record {
  some : IsSome result.0 ↔ given;
  link : IfSome result.0 (λ link. link_map a i ≡ Some (interlinks_in (link_view packed link.now)));
  index : number result.1 ≡ i;
}

abbrev pub AreIndexes : {I : Type 0} → (I → ℕ) → (u v : Option ℕ) → Option I × Option I → Type 0
AreIndexes number u v beside = record {
  before : option_map number beside.0 ≡ u;
  after : option_map number beside.1 ≡ v;
}

-- u and v are returned, exactly if a link may be inserted.
abbrev pub ReturnsBeside : {I : Type 0} → (I → ℕ) → (may : Type 0) → (u v : Option ℕ) → Option (Option I × Option I) → Type 0
ReturnsBeside number may u v result = record {
  some : IsSome result ↔ may;
  beside : IfSome result (AreIndexes number u v);
}

module _ {P I Gen W T : Type 0} (pointers : PointerKind P I Gen W) where
  -- A new link of the kind comes between these.
  abbrev pub AreBesideNew : Links Gen T → InsertKind P I → Option I × Option I → Type 0
  AreBesideNew old kind beside = AreIndexes pointers.number (before_new pointers (link_map old) kind (next_index old)) (after_new pointers (link_map old) kind (next_index old)) beside

  -- The links beside a new one, exactly if it may be inserted.
  abbrev pub FindsBeside : Links Gen T → InsertKind P I → Option (Option I × Option I) → Type 0
  FindsBeside old kind result = record {
    some : IsSome result ↔ MayInsertIn value_state link_map pointers old kind;
    beside : entry_count old < pointers.greatest → IfSome result (AreBesideNew old kind);
  }

  -- The same, within the capacity.
  abbrev pub FindsBesideWithin : (ℕ → Option ℕ → ℕ → ℕ → Type 0) → Links Gen T → InsertKind P I → Result (Option I × Option I) ChainInsertionError → Type 0
  FindsBesideWithin may_reach old kind result =
      IsInsertionWithinResult (MayInsertIn value_state link_map pointers old kind) (HasFreeCapacity (value_view old)) (IsFull (value_view old))
      (λ beside. AreBesideNew old kind beside × HasGrownFor may_reach pointers.greatest (entry_count old + 1) old old) result

  -- The same, where a full arena grows.
  abbrev pub FindsBesideGrowing : (ℕ → Option ℕ → ℕ → ℕ → Type 0) → Links Gen T → InsertKind P I → Result (Option (Option I × Option I)) ReallocationError → Links Gen T → Type 0
  FindsBesideGrowing may_reach old kind (Ok (Some beside)) new =
      MayInsertIn value_state link_map pointers old kind × AreBesideNew old kind beside × HasGrownFor may_reach pointers.greatest (entry_count old + 1) old new
  FindsBesideGrowing may_reach old kind (Ok None) new = (MayInsertIn value_state link_map pointers old kind → ⊥) × (new ≡ old)
  FindsBesideGrowing may_reach old kind (Err why) new = MayInsertIn value_state link_map pointers old kind × RefusesOneMore (value_view old) why × (new ≡ old)

  -- A link is inserted between these, at p.
  pub record InsertsBeside (old : Links Gen T) (beside : Option I × Option I) (t : T) (p : P) (new : Links Gen T) : Type 0 where
    pub pointer : pointers.key p ≡ (next_index old, old.counter)
    pub state : new ≡ insert_between old t (option_map pointers.number beside.0) (option_map pointers.number beside.1)
    pub listed : IsListed old
    pub agreed : IsWellLinked (link_map old)

  -- The arena with a link of the kind.
  abbrev pub with_new_link : Links Gen T → InsertKind P I → T → Links Gen T
  with_new_link old kind t = insert_between old t (before_new pointers (link_map old) kind (next_index old)) (after_new pointers (link_map old) kind (next_index old))

  -- A link of a kind is inserted, after a growth if the arena was full.
  pub record IsNewLink (may_reach : ℕ → Option ℕ → ℕ → ℕ → Type 0) (old : Links Gen T) (kind : InsertKind P I) (t : T) (new : Links Gen T) (p : P) : Type 0 where
    pub pointer : pointers.key p ≡ (next_index old, old.counter)
    pub state : new ≡ with_capacity_of (with_new_link old kind t) new
    pub state_within_capacity : HasFreeCapacity (value_view old) → new ≡ with_new_link old kind t
    pub grown : ReachesCapacity may_reach pointers.greatest (entry_count old + 1) old new

  -- The same, with what any arena of links states.
  abbrev pub InsertsNewLink : (ℕ → Option ℕ → ℕ → ℕ → Type 0) → Links Gen T → InsertKind P I → T → P → Links Gen T → Type 0
  InsertsNewLink may_reach old kind t p new =
      (IsLinkInserted value_state link_map pointers old kind t p new × GrowsForOneMore pointers.greatest (value_view old) (value_view new)) × IsNewLink may_reach old kind t new p

  -- An entry for a link of a kind, after a growth if the arena was full.
  pub record IsEntryFor (may_reach : ℕ → Option ℕ → ℕ → ℕ → Type 0) (old : Links Gen T) (kind : InsertKind P I) (arena : Links Gen T) (prev next : ℕ) : Type 0 where
    pub grown : HasGrownFor may_reach pointers.greatest (entry_count old + 1) old arena
    pub before : nonzero_index prev ≡ before_new pointers (link_map old) kind (next_index old)
    pub after : nonzero_index next ≡ after_new pointers (link_map old) kind (next_index old)
