use Rattle.std.specs.Prelude.{◌≡◌, ℕ, ◌<◌, ◌≤◌, min, ◌+◌, List, [], length, map, Option, Result, Ok, Err, IfSome}
use Rattle.std.specs.Option.{option_map}
use Rattle.arena_core.specs.SlotStack.{IsBeyond}
use Rattle.arena_core.specs.declared.errors.ReallocationError.{ReallocationError}
use Rattle.arena_core.specs.declared.errors.ReallocationError.TheVariants as refused
use Rattle.arena_core.specs.declared.packed_option.PackedOption.{PackedOption}
use Rattle.arena_base.specs.Slots.{entry_of, ThreadsFreeList}
use Rattle.arena_base.specs.declared.compactor.Work.{Work}
use Rattle.arena_base.specs.declared.slot.ArenaSlot.{ArenaSlot}
use Rattle.chain_laws.specs.Chains.{prev_of, next_of}
use Rattle.chain_laws.specs.Cuts.{without_pair, TakesPair}
use Rattle.chain_laws.specs.Exchanges.{with_exchange, ExchangesPairs}
use Rattle.chain_laws.specs.Joins.{with_join, AddsPair}
use Rattle.chain_laws.specs.MoveAfter.{with_move_after}
use Rattle.chain_laws.specs.Removals.{RemovesPairs}
use Rattle.chain_laws.specs.Splices.{with_splice}
use Rattle.chain_laws.specs.Walks.{IsWalk, TakesWalk}
use Rattle.arena_traits.specs.Arena.{Arena, IsValid, HasCapacityFor, with_capacity_of}
use Rattle.chain_links.specs.CallEffects.{IsRemoved}
use Rattle.chain_links.specs.ChainArena.{LinkView, link_map, entry, value_state, with_link_map, remove_link}
use Rattle.chain_links.specs.Links.{pair_view}
use Rattle.chain_links.specs.declared.links.RawLink.{RawLink}
use Rattle.chain_linking.specs.ChainReversals.{arena_with_turns, walk_at}
use Rattle.chain_arena.specs.Drains.{without_each}

-- An arena of links.
abbrev pub Links : Type 0 → Type 0 → Type 0
Links Gen T = Arena Gen (LinkView T)

module _ {Gen T : Type 0} where
  -- `new` is `base` with capacity for n links, grown only if that of `old` did not suffice.
  pub record GrowsStackToFit (greatest n : ℕ) (old base new : Links Gen T) : Type 0 where
    pub state : new ≡ with_capacity_of base new
    pub enough : n ≤ old.capacity → new ≡ base
    pub grown : old.capacity < n → HasCapacityFor greatest n new

  -- The whole state after a link is connected.
  pub record IsJoin (old new : Links Gen T) (a b : ℕ) : Type 0 where
    pub state : new ≡ with_link_map old (with_join (link_map old) a b)
    pub pair : AddsPair (link_map old) (link_map new) a b

  pub record IsCut (old new : Links Gen T) (a b : ℕ) : Type 0 where
    pub state : new ≡ with_link_map old (without_pair (link_map old) a b)
    pub pair : TakesPair (link_map old) (link_map new) a b

  pub record IsExchange (old new : Links Gen T) (p q : ℕ) : Type 0 where
    pub state : new ≡ with_link_map old (with_exchange (link_map old) p q)
    pub pairs : ExchangesPairs (link_map old) (link_map new) p q

  -- The whole state after a reversal.
  abbrev pub IsReversal : Links Gen T → ℕ → Links Gen T → Type 0
  IsReversal old i new = new ≡ arena_with_turns old (walk_at old i)

  -- The whole state after p was moved after q.
  abbrev pub IsMove : Links Gen T → (p q : ℕ) → Links Gen T → Type 0
  IsMove old p q new = new ≡ with_link_map old (with_move_after (link_map old) p q)

  -- The whole state after a run was moved after p.
  abbrev pub IsSplice : Links Gen T → (p first last : ℕ) → Links Gen T → Type 0
  IsSplice old p first last new = new ≡ with_link_map old (with_splice (link_map old) p first last)

  -- The whole state after `break_prev`.
  abbrev pub IsCutBefore : Links Gen T → ℕ → Links Gen T → Type 0
  IsCutBefore old i new = IfSome (prev_of (link_map old) i) (λ a. IsCut old new a i)

  abbrev pub IsCutAfter : Links Gen T → ℕ → Links Gen T → Type 0
  IsCutAfter old i new = IfSome (next_of (link_map old) i) (λ b. IsCut old new i b)

  -- The whole state after a removal.
  pub record IsRemoval (following : Gen → Gen) (old : Links Gen T) (i : ℕ) (new : Links Gen T) : Type 0 where
    pub removed : IsRemoved value_state link_map old new following i
    pub state : new ≡ remove_link following old i
    pub pairs : RemovesPairs (link_map old) (link_map new) i

  abbrev pub HaveSameCapacity : Links Gen T → Links Gen T → Type 0
  HaveSameCapacity a b = (a.capacity ≡ b.capacity) × (a.stack_capacity ≡ b.stack_capacity)

  -- No slots, and capacity for n links, at most the greatest index.
  abbrev pub IsEmptyWithCapacity : ℕ → ℕ → Links Gen T → Type 0
  IsEmptyWithCapacity greatest n a = (a.slots ≡ []) × (a.freed ≡ []) × (n ≤ a.capacity) × (a.capacity ≤ greatest)

  -- The chain of p is removed; `count` is its length, at most `take`.
  pub record IsDrained (following : Gen → Gen) (old : Links Gen T) (p : ℕ × Gen) (take count : ℕ) (new : Links Gen T) : Type 0 where
    pub valid : IsValid (entry old) p
    pub walk : List ℕ
    pub is_walk : IsWalk (link_map old) p.0 walk
    pub counted : count ≡ min take (length walk)
    pub state : new ≡ without_each following old walk
    pub chains : TakesWalk (link_map old) (link_map new) walk

  -- The work is added to the totals.
  abbrev pub AddsWork : Links Gen T → Work → Links Gen T → Type 0
  AddsWork old work new = (new.placed ≡ old.placed + work.placed) × (new.touched ≡ old.touched + work.touched)

-- The arena's slots, on a stack of this capacity and maximum.
pub record IsBackedBy {P I W Gen T : Type 0} (packed : PackedOption I W → Option ℕ) (greatest : ℕ) (items : List (ArenaSlot P (RawLink (PackedOption I W) T) I Gen W)) (stack_capacity : ℕ) (most : Option ℕ) (now : Links Gen T) : Type 0 where
  pub slots : map (option_map (pair_view packed)) (map entry_of items) ≡ now.slots
  pub freed : ThreadsFreeList packed items now.freed
  pub capacity : stack_capacity ≡ now.stack_capacity
  pub arena_capacity : now.capacity ≡ min stack_capacity greatest
  pub maximum : most ≡ now.maximum

-- A call that needs capacity for n links is done, or all stays the `same`.
abbrev pub SucceedsOrRefuses : ℕ → (greatest : ℕ) → (maximum : Option ℕ) → (done same : Type 0) → Result (Unit {0}) ReallocationError → Type 0
SucceedsOrRefuses n greatest maximum done same (Ok success) = done × (n ≤ greatest) × (IsBeyond maximum n → ⊥)
SucceedsOrRefuses n greatest maximum done same (Err refused.BeyondMaxCapacity) = (n ≤ greatest) × IsBeyond maximum n × same
SucceedsOrRefuses n greatest maximum done same (Err refused.AllocError) = (n ≤ greatest → IsBeyond maximum n → ⊥) × same
