-- Steps on two arenas, which leave open what `Step` does, refusals of memory, and the reach of
-- growths.
use Rattle.std.specs.Prelude.{◌≡◌, ℕ, ◌+◌, ◌≤◌, ⊤, List, [], ◌∷◌, length, Option, Result, IsOk}
use Rattle.std.specs.Fn.{Mut}
use Rattle.arena_core.specs.Invalidation.{value_in}
use Rattle.arena_core.specs.PointerKinds.{PointerKind}
use Rattle.arena_core.specs.declared.errors.ReallocationError.{ReallocationError}
use Rattle.arena_core.specs.declared.invalidation.InvalidationOption.{InvalidationOption}
use Rattle.arena_traits.specs.Arena.{IsValid, HasCapacityFor, entry_count}
use Rattle.chain_links.specs.ChainArena.{entry}
use Rattle.chain_arena.specs.ChainTransfers.{IsChainTransferred, TransfersOrRefuses}
use Rattle.chain_arena.specs.Drains.{walk_left}
use Rattle.chain_arena.specs.Effects.{Links, HaveSameCapacity}
use Rattle.chain_arena.specs.Steps.{Step}
use Rattle.chain_arena.specs.declared.calls.Reply.{Reply}
use Rattle.arena_pairs.specs.declared.calls.PairCall.{PairCall}
use Rattle.arena_pairs.specs.declared.calls.PairCall.TheVariants as call
use Rattle.arena_pairs.specs.declared.calls.PairReply.{PairReply}
use Rattle.arena_pairs.specs.declared.calls.PairReply.TheVariants as reply

abbrev pub LinksPair : Type 0 → Type 0 → Type 0
LinksPair Gen T = Links Gen T × Links Gen T

-- The function that returns the value between a link's old and new pointer.
abbrev pub passed_value : {P T : Type 0} → Mut (Unit {0}) (P × (InvalidationOption T × (P × Unit {0}))) T
passed_value = record {
  pre = λ f link. ⊤;
  post = λ f link returned. returned ≡ value_in link.1.0;
  steps = λ f link returned next. returned ≡ value_in link.1.0;
}

module _ {P I Gen W T : Type 0} (pointers : PointerKind P I Gen W) where
  -- The chain of p is moved from `source` to `target`, with its values and the new pointer q.
  abbrev pub MovesChainWithValues : (source target : Links Gen T) → P → P → (source_after target_after : Links Gen T) → Type 0
  MovesChainWithValues source target p q source_after target_after =
      IsChainTransferred pointers.key pointers.key pointers.following pointers.wraps passed_value tt (pointers.key p) q source source_after target target_after

  -- The number of links of `target` and the chain of p.
  abbrev pub count_with_chain : (source target : Links Gen T) → P → ℕ
  count_with_chain source target p = entry_count target + length (walk_left source (pointers.key p).0)

  -- The chain of p is moved, or nothing is changed; within the capacity of `target`, a valid p
  -- moves.
  abbrev pub TransferStep : (source target : Links Gen T) → P → Result (Option P) ReallocationError → (source_after target_after : Links Gen T) → Type 0
  TransferStep source target p returned source_after target_after =
      TransfersOrRefuses (IsValid (entry source) (pointers.key p)) (count_with_chain source target p) pointers.greatest target.maximum
      (λ q. MovesChainWithValues source target p q source_after target_after × HasCapacityFor pointers.greatest (count_with_chain source target p) target_after)
      ((source_after ≡ source) × (target_after ≡ target)) returned
      × (count_with_chain source target p ≤ target.capacity → IsOk returned × HaveSameCapacity target_after target)

  -- A call, its reply, and both arenas after it.
  abbrev pub PairStep : LinksPair Gen T → PairCall P T I Gen W → PairReply P T I Gen W → LinksPair Gen T → Type 0
  PairStep old (call.First c) r new = (returned : Reply P T I Gen W) × (r ≡ reply.Replied returned) × Step pointers old.0 c returned new.0 × (new.1 ≡ old.1)
  PairStep old (call.Second c) r new = (returned : Reply P T I Gen W) × (r ≡ reply.Replied returned) × Step pointers old.1 c returned new.1 × (new.0 ≡ old.0)
  PairStep old (call.TransferToSecond p) r new = (returned : Result (Option P) ReallocationError) × (r ≡ reply.Transferred returned) × TransferStep old.0 old.1 p returned new.0 new.1
  PairStep old (call.TransferToFirst p) r new = (returned : Result (Option P) ReallocationError) × (r ≡ reply.Transferred returned) × TransferStep old.1 old.0 p returned new.1 new.0

  -- Steps one after another, with one reply per call.
  abbrev pub PairRun : LinksPair Gen T → List (PairCall P T I Gen W) → List (PairReply P T I Gen W) → LinksPair Gen T → Type 0
  PairRun old [] [] new = new ≡ old
  PairRun old (call ∷ calls) (reply ∷ replies) new = (between : LinksPair Gen T) × PairStep old call reply between × PairRun between calls replies new
  PairRun old calls replies new = ⊥
