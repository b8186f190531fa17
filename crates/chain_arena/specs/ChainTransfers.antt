use Rattle.std.specs.Prelude.{◌≡◌, ◌↔◌, ℕ, Bool, true, false, if◌then◌else◌, List, [], ◌∷◌, ◌++◌, reverse, map, length, All, slice_get, Option, None, Some, Result, Ok, Err}
use Rattle.std.specs.Fn.{Mut}
use Rattle.std.specs.List.{FoldsTo}
use Rattle.std.specs.Option.{option_map}
use Rattle.arena_core.specs.Invalidation.{value_in, is_overflow}
use Rattle.arena_core.specs.declared.errors.ReallocationError.{ReallocationError}
use Rattle.arena_core.specs.declared.invalidation.InvalidationOption.{InvalidationOption}
use Rattle.chain_laws.specs.Chains.{LinkMap, Chain, linear, cyclic, items, IsMember, IsChain, first_or, last_or}
use Rattle.chain_laws.specs.Walks.{IsWalk}
use Rattle.arena_traits.specs.Arena.{Arena, next_index, insert_next, with_capacity_of}
use Rattle.chain_links.specs.ChainArena.{LinkView, link_map, entry, values_of}
use Rattle.chain_arena.specs.Drains.{RemovesWalk}
use Rattle.chain_arena.specs.Effects.{SucceedsOrRefuses}
use Rattle.chain_arena.specs.Transfers.{TransferredLink, old_index, overflows, IsMapCall}

-- A chain, by old and new indexes in walk order, moved and linear or cyclic as before.
pub data IsChainMoved (old new : LinkMap) : List (ℕ × ℕ) → Type 0 where
  linear_moved : (before after : List (ℕ × ℕ)) (i : ℕ × ℕ) → IsChain old (linear (map (λ m. m.0) (before ++ i ∷ after)))
      → IsChain new (linear (map (λ m. m.1) (before ++ i ∷ after))) → IsChainMoved old new (i ∷ after ++ reverse before)
  cyclic_moved : (after : List (ℕ × ℕ)) (i : ℕ × ℕ) → IsChain old (cyclic (map (λ m. m.0) (i ∷ after))) → IsChain new (cyclic (map (λ m. m.1) (i ∷ after)))
      → IsChainMoved old new (i ∷ after)

-- The chains without these indexes are the same.
abbrev pub HaveSameChainsWithout : List ℕ → LinkMap → LinkMap → Type 0
HaveSameChainsWithout indexes old new = (c : Chain) → ((j : ℕ) → IsMember indexes j → IsMember (items c) j → ⊥) → IsChain old c ↔ IsChain new c

abbrev pub new_index : {Q P Gen U T : Type 0} → (P → ℕ × Gen) → TransferredLink Q P U T → ℕ
new_index new_key c = (new_key c.to).0

-- The returned value is inserted next.
abbrev pub IsInsertedNext : {Q P Gen U T : Type 0} → (P → ℕ × Gen) → Arena Gen T → TransferredLink Q P U T → Arena Gen T → Type 0
IsInsertedNext new_key a c b = (new_key c.to ≡ (next_index a, a.counter)) × (b ≡ insert_next a c.returned)

module _ {Q P G Gen U T : Type 0} (key : Q → ℕ × G) (new_key : P → ℕ × Gen) where
  abbrev pub both_indexes : TransferredLink Q P U T → ℕ × ℕ
  both_indexes c = (old_index key c, new_index new_key c)

  abbrev pub both_keys : TransferredLink Q P U T → (ℕ × G) × (ℕ × Gen)
  both_keys c = (key c.from, new_key c.to)

module _ {Q P G Gen U T F : Type 0} (key : Q → ℕ × G) (new_key : P → ℕ × Gen) (following : G → G) (wraps : G → Bool) (call : Mut F (Q × (InvalidationOption U × (P × Unit {0}))) T) where
  -- The chain of p is moved to another arena, and p to q.
  pub record IsChainTransferred (f : F) (p : ℕ × G) (q : P) (source source_after : Arena G (LinkView U)) (old new : Arena Gen (LinkView T)) : Type 0 where
    -- In walk order.
    pub transferred : List (TransferredLink Q P U T)
    pub first : slice_get (map (both_keys key new_key) transferred) 0 ≡ Some (p, new_key q)
    pub walk : IsWalk (link_map source) p.0 (map (old_index key) transferred)
    pub removed : RemovesWalk following source (map (old_index key) transferred) source_after
    pub last : F
    pub in_turn : FoldsTo (IsMapCall key new_key following wraps call) f transferred last
    pub was_stored : All (λ c. entry source (old_index key c) ≡ Some ((key c.from).1, value_in c.value)) transferred
    pub overflow : map (λ c. is_overflow c.value) transferred ≡ overflows following wraps (length transferred) source.counter
    pub inserted : FoldsTo (IsInsertedNext new_key) (values_of (with_capacity_of old new)) transferred (values_of new)
    pub moved : IsChainMoved (link_map source) (link_map new) (map (both_indexes key new_key) transferred)
    pub rest : HaveSameChainsWithout (map (new_index new_key) transferred) (link_map old) (link_map new)

-- The call is done, or refused as a growth is, or nothing is done without a valid pointer.
abbrev pub TransfersOrRefuses : {Q : Type 0} (valid : Type 0) → ℕ → (greatest : ℕ) → (maximum : Option ℕ) → (done : Q → Type 0) → (same : Type 0) → Result (Option Q) ReallocationError → Type 0
TransfersOrRefuses valid n greatest maximum done same (Ok None) = (valid → ⊥) × same
TransfersOrRefuses valid n greatest maximum done same (Ok (Some q)) = valid × SucceedsOrRefuses n greatest maximum (done q) same (Ok tt)
TransfersOrRefuses valid n greatest maximum done same (Err why) = valid × SucceedsOrRefuses n greatest maximum (Unit {0}) same (Err why)

-- The ends of a list, or none if it is empty.
abbrev pub AreEndsOf : {I : Type 0} → (I → ℕ) → Option (I × I) → List ℕ → Type 0
AreEndsOf number ends ys = (option_map (λ e. number e.0) ends ≡ first_or ys None) × (option_map (λ e. number e.1) ends ≡ last_or ys None)

-- The links beside a new one at q, where `ys` are those moved so far.
abbrev pub link_before_moved : (closes is_back : Bool) → List ℕ → ℕ → Option ℕ
link_before_moved true is_back ys q = last_or ys (Some q)
link_before_moved false true ys q = None
link_before_moved false false ys q = last_or ys None

abbrev pub link_after_moved : (closes is_back : Bool) → List ℕ → ℕ → Option ℕ
link_after_moved true is_back ys q = first_or ys (Some q)
link_after_moved false true ys q = first_or ys None
link_after_moved false false ys q = None

-- The links moved then.
abbrev pub with_moved_link : Bool → List ℕ → ℕ → List ℕ
with_moved_link is_back ys q = if is_back then q ∷ ys else ys ++ q ∷ []
