use Rattle.std.specs.Prelude.{◌≡◌, ◌↔◌, ℕ, Bool, true, false, Result, Err, IsTrue, IfSome, List, [], ◌∷◌, ◌++◌, length, Option, None, Some}
use Rattle.std.specs.Option.{option_map}
use Rattle.arena_core.specs.declared.errors.ChainInsertionError.{ChainInsertionError}
use Rattle.arena_core.specs.declared.errors.ChainInsertionError.TheVariants as failed
use Rattle.chain_laws.specs.Chains.{LinkMap, IsMember}
use Rattle.chain_laws.specs.Walks.{IsWalk}
use Rattle.arena_traits.specs.Arena.{IsValid}
use Rattle.arena_traits.specs.CallOutcomes.{wraps_within}
use Rattle.arena_traits.specs.Entries.{ArenaView, ArenaState, first_key, last_key}
use Rattle.chain_lists.specs.Lists.{Item, indexes, IsRing}
use Rattle.linked_lists.specs.declared.entry.Entry.{Entry}
use Rattle.linked_lists.specs.declared.entry.Entry.TheVariants as entries
use Rattle.linked_lists.specs.LinkedLists.{IsHandle, IsItem, IsList, AllInLists, IsRangeWithout, KeepsOthers, AreEntriesRemoved, ring_of}

-- The value of an item.
abbrev pub value_in : {T : Type 0} → Option (Entry T) → Option T
value_in None = None
value_in (Some entries.Head) = None
value_in (Some (entries.Item t)) = Some t

-- The outcome, if it `may` be; else a refusal.
abbrev pub InsertsIf : {A P : Type 0} → Bool → Type 0 → A → Result P ChainInsertionError → A → Type 0
InsertsIf true outcome old result new = outcome
InsertsIf false outcome old result new = (result ≡ Err failed.FailedLinkRequirement) × (new ≡ old)

-- The pointer, if it is that of an item.
abbrev pub KeepsItemOnly : {Gen T P : Type 0} → (ℕ → Option (Gen × Entry T)) → (P → ℕ × Gen) → Option P → Option P → Type 0
KeepsItemOnly entry key None result = result ≡ None
KeepsItemOnly entry key (Some p) result = record {
  item : IsItem entry (key p) → result ≡ Some p;
  none : (IsItem entry (key p) → ⊥) → result ≡ None;
}

-- A head on the walk from `p`, if there is one.
abbrev pub FindsHead : {Gen T P : Type 0} → (ℕ → Option (Gen × Entry T)) → LinkMap → (P → ℕ × Gen) → ℕ × Gen → Option P → Type 0
FindsHead {Gen} entry links key p None = IsValid entry p → (walk : List ℕ) (k : ℕ × Gen) → IsWalk links p.0 walk → IsHandle entry k → IsMember walk k.0 → ⊥
FindsHead entry links key p (Some h) = IsHandle entry (key h) × (walk : List ℕ) × IsWalk links p.0 walk × IsMember walk (key h).0

module _ {A Gen V : Type 0} {view : A → ArenaView Gen V} {entry : A → ℕ → Option (Gen × V)} (state : (a : A) → ArenaState (view a) (entry a)) (interlinks : A → LinkMap) {P : Type 0} (key : P → ℕ × Gen) where
  -- The link after or before `p` in its ring.
  abbrev pub ReadsNextLink : A → P → Option P → Type 0
  ReadsNextLink arena p result = (v : V) (others : List (Item Gen V)) → IsRing state interlinks arena ((key p, v) ∷ others) → option_map key result ≡ first_key (others ++ (key p, v) ∷ [])

  abbrev pub ReadsPrevLink : A → P → Option P → Type 0
  ReadsPrevLink arena p result = (v : V) (others : List (Item Gen V)) → IsRing state interlinks arena ((key p, v) ∷ others) → option_map key result ≡ last_key ((key p, v) ∷ others)

module _ {A Gen T : Type 0} {view : A → ArenaView Gen (Entry T)} {entry : A → ℕ → Option (Gen × Entry T)} (state : (a : A) → ArenaState (view a) (entry a)) (interlinks : A → LinkMap) where
  -- `l` is the last link of `h`.
  abbrev pub EndsList : A → (h l : ℕ × Gen) → Type 0
  EndsList arena h l = (items : List (Item Gen T)) → IsList state interlinks arena h items → Some l ≡ last_key (ring_of h items)

  -- `l` is the last link of the list of `p`.
  abbrev pub EndsListOf : A → (p l : ℕ × Gen) → Type 0
  EndsListOf arena p l = (h : ℕ × Gen) (t : T) (before after : List (Item Gen T)) → IsList state interlinks arena h (before ++ (p, t) ∷ after) → Some l ≡ last_key (ring_of h (before ++ (p, t) ∷ after))

  -- The last link of `h`, if it is a handle; or of the list of `p`, if it is an item.
  abbrev pub ReadsLastLink : {P : Type 0} → (P → ℕ × Gen) → A → ℕ × Gen → Option P → Type 0
  ReadsLastLink key arena h None = IsHandle (entry arena) h → ⊥
  ReadsLastLink key arena h (Some l) = IsHandle (entry arena) h × IsValid (entry arena) (key l) × EndsList arena h (key l)

  abbrev pub ReadsEndOfListOf : {P : Type 0} → (P → ℕ × Gen) → A → ℕ × Gen → Option P → Type 0
  ReadsEndOfListOf key arena p None = IsItem (entry arena) p → ⊥
  ReadsEndOfListOf key arena p (Some l) = IsItem (entry arena) p × IsValid (entry arena) (key l) × EndsListOf arena p (key l)

  -- The items of `h` are removed: how many, and whether the counter wrapped.
  pub record EmptiesList (wraps : Gen → Bool) (following : Gen → Gen) (old : A) (h : ℕ × Gen) (n : ℕ × Bool) (new : A) : Type 0 where
    pub items : List (Item Gen T)
    pub was : IsList state interlinks old h items
    pub list : IsList state interlinks new h []
    pub removed : AreEntriesRemoved state interlinks old new following (indexes items)
    pub others : KeepsOthers state interlinks old new (h ∷ [])
    pub number : n.0 ≡ length items
    pub overflow : IfSome (view old).counter (λ g. wraps_within wraps following (length items) g ≡ n.1)

  -- The items of `h` are removed, if it is a handle.
  abbrev pub RemovesItems : (wraps : Gen → Bool) (following : Gen → Gen) (old : A) (h : ℕ × Gen) → Option (ℕ × Bool) → A → Type 0
  RemovesItems wraps following old h None new = (IsHandle (entry old) h → ⊥) × (new ≡ old)
  RemovesItems wraps following old h (Some n) new = IsHandle (entry old) h × EmptiesList wraps following old h n new

  -- Whether `first` to `last` is a range without `q`, if `first` is an item.
  abbrev pub TestsRange : A → (first last q : ℕ × Gen) → Bool → Type 0
  TestsRange arena first last q result = AllInLists state interlinks arena → IsItem (entry arena) first → IsTrue result ↔ IsRangeWithout state interlinks arena first last q
