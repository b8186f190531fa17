-- Rings of corners in `Polygons`.
use Rattle.std.specs.Prelude.{◌≡◌, ◌≢◌, ℕ, ◌+◌, List, [], ◌∷◌, ◌++◌, map, reverse, length, IsSome, IfSome, Option, None, Some, Result, Ok, Err}
use Rattle.std.specs.Option.{option_map}
use Rattle.arena_core.specs.declared.errors.ReallocationError.{ReallocationError}
use Rattle.chain_laws.specs.Chains.{LinkMap, cyclic, IsMember, HasLink, next_of}
use Rattle.chain_laws.specs.Walks.{IsWalk}
use Rattle.arena_traits.specs.Arena.{IsValid}
use Rattle.arena_traits.specs.Entries.{ArenaView, ArenaState, count, first_key, last_key, next_slot, with_next_filled, view_after_removal}
use Rattle.arena_traits.specs.Growth.{RefusesToFit, GrowsToFit}
use Rattle.chain_lists.specs.Lists.{Item, indexes, IsRing, KeepsWithout, ChangesOnlyListsOf, HasNewValue, IsItemAfter, IsItemBefore}

-- Each link has a next one: all chains are cyclic.
abbrev pub AllCyclic : LinkMap → Type 0
AllCyclic links = (i : ℕ) → HasLink links i → IsSome (next_of links i)

module _ {Gen T : Type 0} where
  abbrev pub pointers_of : List (Item Gen T) → List (ℕ × Gen)
  pointers_of items = map (λ e. e.0) items

  -- Two valid pointers.
  abbrev pub AreTwoValid : (ℕ → Option (Gen × T)) → ℕ × Gen → ℕ × Gen → Type 0
  AreTwoValid entry p q = IsValid entry p × IsValid entry q × (p ≢ q)

  -- Copies of `p` and `q` are inserted as `c` and `d`; all else stays.
  pub record AreCopied (entry after : ℕ → Option (Gen × T)) (p q c d : ℕ × Gen) : Type 0 where
    pub first_free : entry c.0 ≡ None
    pub second_free : entry d.0 ≡ None
    pub distinct : c.0 ≢ d.0
    pub first : (s : T) → entry p.0 ≡ Some (p.1, s) → after c.0 ≡ Some (c.1, s)
    pub second : (t : T) → entry q.0 ≡ Some (q.1, t) → after d.0 ≡ Some (d.1, t)
    pub rest : (i : ℕ) → i ≢ c.0 → i ≢ d.0 → after i ≡ entry i

  -- `c` and then `d` take the next slots, if known; counter and maximum stay.
  pub record AreNextTwo (old new : ArenaView Gen T) (c d : ℕ × Gen) : Type 0 where
    pub more : count new ≡ count old + 2
    pub generations : IfSome old.counter (λ g. (c.1 ≡ g) × (d.1 ≡ g))
    pub indexes : IfSome old.slots (λ slots. (c.0 ≡ next_slot slots) × (d.0 ≡ next_slot (with_next_filled slots)))
    pub slots : new.slots ≡ option_map (λ slots. with_next_filled (with_next_filled slots)) old.slots
    pub counter : new.counter ≡ old.counter
    pub maximum : new.maximum ≡ old.maximum

  -- Both are valid, and the walk from `p` passes `q`.
  pub record PassesCorner (entry : ℕ → Option (Gen × T)) (links : LinkMap) (p q : ℕ × Gen) : Type 0 where
    pub valid : IsValid entry p × IsValid entry q
    pub walk : List ℕ
    pub is_walk : IsWalk links p.0 walk
    pub among : IsMember walk q.0

  -- The view after items are removed in order.
  abbrev pub view_after_removals : (Gen → Gen) → ArenaView Gen T → List (Item Gen T) → ArenaView Gen T
  view_after_removals following s [] = s
  view_after_removals following s (e ∷ items) = view_after_removals following (view_after_removal following s e.0.0) items

module _ {A Gen T : Type 0} {view : A → ArenaView Gen T} {entry : A → ℕ → Option (Gen × T)} (state : (a : A) → ArenaState (view a) (entry a)) (interlinks : A → LinkMap) where
  module _ (arena : A) where
    -- The ring of `p`, from `p` on.
    pub record IsRingOfCorner (p : ℕ × Gen) (items : List (Item Gen T)) : Type 0 where
      pub ring : IsRing state interlinks arena items
      pub first : first_key items ≡ Some p

    -- Exactly one ring from `e` on.
    pub record HasOneRing (e : Item Gen T) : Type 0 where
      pub others : List (Item Gen T)
      pub ring : IsRing state interlinks arena (e ∷ others)
      pub only : (xs : List (Item Gen T)) → IsRing state interlinks arena (e ∷ xs) → xs ≡ others

    -- Each item is in exactly one ring, listed from it on.
    abbrev pub AllInRings : Type 0
    AllInRings = (e : Item Gen T) → entry arena e.0.0 ≡ Some (e.0.1, e.1) → HasOneRing e

    -- Both are valid and in one ring.
    pub record AreInOneRing (p q : ℕ × Gen) : Type 0 where
      pub items : List (Item Gen T)
      pub ring : IsRingOfCorner p items
      pub valid : IsValid (entry arena) q
      pub among : IsMember (indexes items) q.0

  module _ {P : Type 0} (key : P → ℕ × Gen) where
    -- `next`: the item after `p`, if valid.
    abbrev pub ReadsNextInRing : A → P → Option P → Type 0
    ReadsNextInRing arena p result = record {
      none : ¬ IsValid (entry arena) (key p) → result ≡ None;
      next : (t : T) (others : List (Item Gen T)) → IsRing state interlinks arena ((key p, t) ∷ others) → option_map key result ≡ first_key (others ++ (key p, t) ∷ []);
    }

    -- `prev`: the item before `p`, if valid.
    abbrev pub ReadsPrevInRing : A → P → Option P → Type 0
    ReadsPrevInRing arena p result = record {
      none : ¬ IsValid (entry arena) (key p) → result ≡ None;
      prev : (t : T) (others : List (Item Gen T)) → IsRing state interlinks arena ((key p, t) ∷ others) → option_map key result ≡ last_key ((key p, t) ∷ others);
    }

    -- `walk`: the pointers of the ring of `p`, from `p` on.
    abbrev pub ListsRing : A → P → List P → Type 0
    ListsRing arena p pointers = (items : List (Item Gen T)) × IsRingOfCorner arena (key p) items × (map key pointers ≡ pointers_of items)

  module _ (old new : A) where
    -- One ring becomes two.
    abbrev pub IsCutInTwo : ℕ × Gen → ℕ × Gen → Type 0
    IsCutInTwo p q = (s t : T) (x y : List (Item Gen T)) → IsRing state interlinks old ((p, s) ∷ x ++ (q, t) ∷ y)
        → IsRing state interlinks new ((p, s) ∷ y) × IsRing state interlinks new ((q, t) ∷ x)

    -- Two rings become one.
    abbrev pub AreMerged : ℕ × Gen → ℕ × Gen → Type 0
    AreMerged p q = (s t : T) (x y : List (Item Gen T)) → IsRing state interlinks old ((p, s) ∷ x) → IsRing state interlinks old ((q, t) ∷ y) → (IsMember (indexes ((p, s) ∷ x)) q.0 → ⊥)
        → IsRing state interlinks new ((p, s) ∷ y ++ (q, t) ∷ x)

    -- A ring is split along a diagonal, with copies in the other part.
    abbrev pub IsSplit : (p q c d : ℕ × Gen) → Type 0
    IsSplit p q c d = (s t : T) (x y : List (Item Gen T)) → IsRing state interlinks old ((p, s) ∷ x ++ (q, t) ∷ y)
        → IsRing state interlinks new ((q, t) ∷ (p, s) ∷ x) × IsRing state interlinks new ((c, s) ∷ (d, t) ∷ y)

    -- Two rings are joined along a line, with copies on its other side.
    abbrev pub IsBridged : (p q c d : ℕ × Gen) → Type 0
    IsBridged p q c d = (s t : T) (x y : List (Item Gen T))
        → IsRing state interlinks old ((p, s) ∷ x) → IsRing state interlinks old ((q, t) ∷ y)
        → (IsMember (indexes ((p, s) ∷ x)) q.0 → ⊥)
        → IsRing state interlinks new ((q, t) ∷ (p, s) ∷ x ++ (c, s) ∷ (d, t) ∷ y)

    -- The items after `p` come in reverse.
    abbrev pub IsTurnedOver : ℕ × Gen → Type 0
    IsTurnedOver p = (t : T) (others : List (Item Gen T)) → IsRing state interlinks old ((p, t) ∷ others) → IsRing state interlinks new ((p, t) ∷ reverse others)

    -- The ring of `p` is removed in this order.
    pub record IsRingRemoved (following : Gen → Gen) (p : ℕ × Gen) (items : List (Item Gen T)) : Type 0 where
      pub ring : IsRingOfCorner old p items
      pub view_after : view new ≡ view_after_removals following (view old) items
      pub gone : (i : ℕ) → IsMember (indexes items) i → entry new i ≡ None
      pub entries : (i : ℕ) → (IsMember (indexes items) i → ⊥) → entry new i ≡ entry old i
      pub others : KeepsWithout state interlinks cyclic old new (p ∷ [])

module _ {A Gen T : Type 0} {view : A → ArenaView Gen T} {entry : A → ℕ → Option (Gen × T)} (state : (a : A) → ArenaState (view a) (entry a)) (interlinks : A → LinkMap) where
  module _ (old new : A) where
    -- The successors are exchanged: one ring becomes two, or two one.
    pub record AreExchanged (p q : ℕ × Gen) : Type 0 where
      pub valid : IsValid (entry old) p × IsValid (entry old) q
      pub cut : IsCutInTwo state interlinks old new p q
      pub merged : AreMerged state interlinks old new p q
      pub itself : p ≡ q → interlinks new ≡ interlinks old
      pub rest : ChangesOnlyListsOf state interlinks cyclic old new (p ∷ q ∷ [])

    -- A ring is split, or two are joined, with copies `c` and `d`.
    pub record IsSplitAlong (p q c d : ℕ × Gen) : Type 0 where
      pub split : IsSplit state interlinks old new p q c d
      pub bridged : IsBridged state interlinks old new p q c d
      pub copies : AreCopied (entry old) (entry new) p q c d
      pub others : KeepsWithout state interlinks cyclic old new (p ∷ q ∷ [])
      pub next_two : AreNextTwo (view old) (view new) c d

  -- `e` is inserted after `p`, within the capacity.
  abbrev pub AddsAfter : A → ℕ × Gen → Item Gen T → A → Type 0
  AddsAfter old p e new = record {
    corner : IsItemAfter state interlinks cyclic old new p e;
    all_cyclic : AllCyclic (interlinks old) → AllCyclic (interlinks new);
    capacity : (view new).capacity ≡ (view old).capacity;
  }

  abbrev pub AddsBefore : A → ℕ × Gen → Item Gen T → A → Type 0
  AddsBefore old p e new = record {
    corner : IsItemBefore state interlinks cyclic old new p e;
    all_cyclic : AllCyclic (interlinks old) → AllCyclic (interlinks new);
    capacity : (view new).capacity ≡ (view old).capacity;
  }

  -- `replace`: `t` becomes the point of `p`, if valid.
  abbrev pub ReplacesPoint : A → ℕ × Gen → T → Option T → A → Type 0
  ReplacesPoint old p t None new = (IsValid (entry old) p → ⊥) × (new ≡ old)
  ReplacesPoint old p t (Some former) new = (entry old p.0 ≡ Some (p.1, former)) × HasNewValue state interlinks cyclic old new p t

  -- `remove_polygon`: the ring of `p` is removed, if valid.
  abbrev pub RemovesRing : (Gen → Gen) → A → ℕ × Gen → Option ℕ → A → Type 0
  RemovesRing following old p None new = (IsValid (entry old) p → ⊥) × (new ≡ old)
  RemovesRing following old p (Some n) new = (items : List (Item Gen T)) × IsRingRemoved state interlinks old new following p items × (n ≡ length items)

  -- `reverse`: the ring of `p` is turned over, if valid.
  abbrev pub ReversesRing : A → ℕ × Gen → Option Unit → A → Type 0
  ReversesRing old p None new = (IsValid (entry old) p → ⊥) × (new ≡ old)
  ReversesRing old p (Some done) new = IsValid (entry old) p × IsTurnedOver state interlinks old new p × ChangesOnlyListsOf state interlinks cyclic old new (p ∷ [])

  -- `exchange`: the successors are exchanged, if both are valid.
  abbrev pub ExchangesSuccessors : A → ℕ × Gen → ℕ × Gen → Option Unit → A → Type 0
  ExchangesSuccessors old p q None new = (IsValid (entry old) p × IsValid (entry old) q → ⊥) × (new ≡ old)
  ExchangesSuccessors old p q (Some done) new = AreExchanged old new p q

  -- `split`: splits at two valid corners, after growth if needed.
  abbrev pub SplitsRing : {P : Type 0} → (P → ℕ × Gen) → ℕ → A → ℕ × Gen → ℕ × Gen → Result (Option (P × P)) ReallocationError → A → Type 0
  SplitsRing key greatest old p q (Ok None) new = (AreTwoValid (entry old) p q → ⊥) × (new ≡ old)
  SplitsRing key greatest old p q (Ok (Some copies)) new =
      AreTwoValid (entry old) p q × IsSplitAlong old new p q (key copies.0) (key copies.1) × GrowsToFit greatest (count (view old) + 2) (view old) (view new)
  SplitsRing key greatest old p q (Err why) new = AreTwoValid (entry old) p q × RefusesToFit (count (view old) + 2) (view old) why × (new ≡ old)

  -- The same exchange twice restores each ring.
  abbrev pub SecondExchangeRestores : Type 0
  SecondExchangeRestores = (old mid new : A) (p q : ℕ × Gen) → AllInRings state interlinks old → AreExchanged old mid p q → AreExchanged mid new p q
      → (items : List (Item Gen T)) → IsRing state interlinks old items → IsRing state interlinks new items
