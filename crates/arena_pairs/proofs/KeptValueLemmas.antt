-- Transfers whose closure returns each value keep the values.
use Rattle.std.proofs.Common.{◌≡◌, ◌≤◌, ℕ, List, [], ◌∷◌, Bool, Option, None, Some, Result, Ok, Err, refl}
use Rattle.std.specs.Prelude.{IsOk}
use Rattle.std.specs.Fn.{Mut, Called}
use Rattle.std.specs.List.{FoldsTo}
use Rattle.arena_core.specs.Invalidation.{value_in}
use Rattle.arena_core.specs.PointerKinds.{PointerKind}
use Rattle.arena_core.specs.declared.errors.ReallocationError.{ReallocationError}
use Rattle.arena_core.specs.declared.invalidation.InvalidationOption.{InvalidationOption}
use Rattle.arena_traits.specs.Arena.{IsValid, ReachesCapacity}
use Rattle.chain_links.specs.ChainArena.{entry}
use Rattle.chain_arena.specs.ChainTransfers.{IsChainTransferred, TransfersOrRefuses}
use Rattle.chain_arena.specs.Effects.{Links, HaveSameCapacity}
use Rattle.chain_arena.specs.Transfers.{TransferredLink, IsMapCall}
use Rattle.arena_pairs.specs.PairSteps.{passed_value, count_with_chain, TransferStep}

module _ {P Gen T F : Type 0} (key : P → ℕ × Gen) (following : Gen → Gen) (wraps : Gen → Bool) (call : Mut F (P × (InvalidationOption T × (P × Unit {0}))) T)
    (each : (f : F) (p : P) (value : InvalidationOption T) (q : P) (t : T) (next : F) → Called call f (p, (value, (q, tt))) t next → t ≡ value_in value) where
  kept_in_turn : (links : List (TransferredLink P P T T)) (f last : F) → FoldsTo (IsMapCall key key following wraps call) f links last → FoldsTo (IsMapCall key key following wraps passed_value) tt links tt
  kept_in_turn [] f last calls = refl
  kept_in_turn (c ∷ links) f last calls = (tt, record { met = each f c.from c.value c.to c.returned calls.0 calls.1 }, kept_in_turn links calls.0 last calls.2)

  moved_with_values : (f : F) (p : ℕ × Gen) (q : P) (source source_after old new : Links Gen T) → IsChainTransferred key key following wraps call f p q source source_after old new
      → IsChainTransferred key key following wraps passed_value tt p q source source_after old new
  moved_with_values f p q source source_after old new moved = record {
    transferred = moved.transferred;
    first = moved.first;
    walk = moved.walk;
    removed = moved.removed;
    last = tt;
    in_turn = kept_in_turn moved.transferred f moved.last moved.in_turn;
    was_stored = moved.was_stored;
    overflow = moved.overflow;
    inserted = moved.inserted;
    moved = moved.moved;
    rest = moved.rest;
  }

module _ {P I Gen W T F : Type 0} (pointers : PointerKind P I Gen W) (may_reach : ℕ → Option ℕ → ℕ → ℕ → Type 0) (call : Mut F (P × (InvalidationOption T × (P × Unit {0}))) T) (f : F)
    (each : (f : F) (p : P) (value : InvalidationOption T) (q : P) (t : T) (next : F) → Called call f (p, (value, (q, tt))) t next → t ≡ value_in value)
    (source target : Links Gen T) (p : P) (source_after target_after : Links Gen T) where
  abbrev IsDone : P → Type 0
  IsDone q =
      IsChainTransferred pointers.key pointers.key pointers.following pointers.wraps call f (pointers.key p) q source source_after target target_after
      × ReachesCapacity may_reach pointers.greatest (count_with_chain pointers source target p) target target_after

  abbrev IsSame : Type 0
  IsSame = (source_after ≡ source) × (target_after ≡ target)

  pub transfer_steps : (returned : Result (Option P) ReallocationError)
      → TransfersOrRefuses (IsValid (entry source) (pointers.key p)) (count_with_chain pointers source target p) pointers.greatest target.maximum IsDone IsSame returned
      → (count_with_chain pointers source target p ≤ target.capacity → IsOk returned × HaveSameCapacity target_after target) → TransferStep pointers source target p returned source_after target_after
  transfer_steps (Ok None) outcome within = (outcome, within)
  transfer_steps (Ok (Some q)) outcome within =
      let moved = moved_with_values pointers.key pointers.following pointers.wraps call each f (pointers.key p) q source source_after target target_after outcome.1.0.0 in
      ((outcome.0, ((moved, outcome.1.0.1.capacity), outcome.1.1, outcome.1.2)), within)
  transfer_steps (Err why) outcome within = (outcome, within)
