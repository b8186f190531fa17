use Rattle.std.specs.Prelude.{◌≡◌, ◌≤◌, ◌⊎◌, ℕ, length, Option, Result, Ok, Err}
use Rattle.std.specs.Borrow.{Bor}
use Rattle.std.specs.Fn.{Mut}
use Rattle.arena_core.specs.SlotStack.{IsBeyond}
use Rattle.arena_core.specs.declared.errors.ReallocationError.{ReallocationError}
use Rattle.arena_core.specs.declared.errors.ReallocationError.TheVariants as refused
use Rattle.arena_traits.specs.Arena.{Arena, ReachesCapacity, new_arena}
use Rattle.arena_traits.specs.Entries.{entries}
use Rattle.arena_base.specs.Copies.{CopiesBy, IsCopyCall, HasRefusable, HasSlotsOf}
use Rattle.chain_links.specs.declared.links.RawLink.{RawLink}
use Rattle.chain_links.specs.ChainArena.{LinkView, interlinks_in, link_map, values_of}
use Rattle.chain_links.specs.Links.{link_view, links_view, IsAtRest}

-- A link with the same neighbors, no destination, and a value made from it.
pub record MakesLink {F P K U T : Type 0} (number : K → Option ℕ) (makes : F → P → LinkView U → T → F → Type 0) (f : F) (p : P) (u : RawLink K U) (t : RawLink K T) (next : F) : Type 0 where
  pub interlinks : interlinks_in (link_view number t) ≡ interlinks_in (link_view number u)
  pub value : makes f p (link_view number u) t.t next
  pub at_rest : IsAtRest number t

-- `makes`, on views.
pub record MakesOf {F P V U T : Type 0} (value_from : V → U) (makes : F → P → V → T → F → Type 0) (f : F) (p : P) (u : U) (t : T) (next : F) : Type 0 where
  pub passed : V
  pub value_passed : value_from passed ≡ u
  pub made : makes f p passed t next

-- `may_refuse`, on views.
abbrev pub RefusesOf : {P V U : Type 0} → (V → U) → (P → V → Type 0) → P → U → Type 0
RefusesOf {V = V} value_from may_refuse p u = (passed : V) × (value_from passed ≡ u) × may_refuse p passed

-- A link's value may be refused.
abbrev pub HasRefusableLink : {P K U Gen : Type 0} → (K → Option ℕ) → (P → RawLink K U → Type 0) → (P → ℕ × Gen) → Arena Gen (LinkView U) → Type 0
HasRefusableLink number may_refuse key source = HasRefusable (RefusesOf (link_view number) may_refuse) key (entries source)

-- A copy with values made from the links.
pub record IsLinkCopyBy {F P U T Gen : Type 0} (makes : F → P → LinkView U → T → F → Type 0) (key : P → ℕ × Gen) (f : F) (source : Arena Gen (LinkView U)) (old new : Arena Gen (LinkView T)) (last : F) : Type 0 where
  pub slots : HasSlotsOf source old new
  pub links : link_map new ≡ link_map source
  -- Each link is seen once, in ascending index order.
  pub values : CopiesBy makes key f (entries source) (entries (values_of new)) last

-- A copy with a closure's values.
abbrev pub IsLinkCopy : {F P K U T Gen : Type 0} → Mut F (P × (Bor (RawLink K U) × Unit {0})) T → (K → Option ℕ) → (P → ℕ × Gen) → F → Arena Gen (LinkView U) → Arena Gen (LinkView T) → Arena Gen (LinkView T) → Type 0
IsLinkCopy {F = F} g number key f source old new = (last : F) × IsLinkCopyBy (MakesOf (link_view number) (IsCopyCall g)) key f source old new last

-- A new arena with the same links, counter and freed list.
abbrev pub IsClone : {Gen T : Type 0} → Gen → Option ℕ → Arena Gen (LinkView T) → Arena Gen (LinkView T) → Type 0
IsClone first maximum source copy = copy ≡ record (new_arena first maximum) {
  slots = source.slots;
  counter = source.counter;
  freed = source.freed;
  capacity = copy.capacity;
  stack_capacity = copy.stack_capacity;
}

-- A copy of the arena below, by a relation that may state more than views.
pub record IsCopyBelow {K T Gen A : Type 0} (number : K → Option ℕ) (copies : Arena Gen (RawLink K T) → A → A → Type 0) (source : Arena Gen (LinkView T)) (old new : A) : Type 0 where
  pub links : Arena Gen (RawLink K T)
  pub view_after : links_view number links ≡ source
  pub copied : copies links old new

-- A capacity never shrinks, and stays if it sufficed.
abbrev pub GrowsIfShort : ℕ → ℕ → ℕ → Type 0
GrowsIfShort n old new = (old ≤ new) × (n ≤ old → new ≡ old)

-- The copy is made, or all stays the `same`, or (if a value may be refused) the arena is `lost`.
abbrev pub CopiesOrRefuses : ℕ → ℕ → Option ℕ → (refusable copied same lost : Type 0) → Result (Unit {0}) ReallocationError → Type 0
CopiesOrRefuses n capacity maximum refusable copied same lost (Ok done) = copied × (IsBeyond maximum n → ⊥)
CopiesOrRefuses n capacity maximum refusable copied same lost (Err refused.BeyondMaxCapacity) = IsBeyond maximum n × same × (n ≤ capacity → refusable)
CopiesOrRefuses n capacity maximum refusable copied same lost (Err refused.AllocError) = (same ⊎ (refusable × lost)) × (IsBeyond maximum n → ⊥) × (n ≤ capacity → refusable)

-- The copy is made, or the capacity does not suffice and all stays the `same`.
abbrev pub CopiesOrLacksCapacity : ℕ → ℕ → Option ℕ → (copied same : Type 0) → Result (Unit {0}) ReallocationError → Type 0
CopiesOrLacksCapacity n capacity maximum copied same (Ok done) = copied × (IsBeyond maximum n → ⊥)
CopiesOrLacksCapacity n capacity maximum copied same (Err refused.BeyondMaxCapacity) = IsBeyond maximum n × same × (n ≤ capacity → ⊥)
CopiesOrLacksCapacity n capacity maximum copied same (Err refused.AllocError) = same × (IsBeyond maximum n → ⊥) × (n ≤ capacity → ⊥)

-- A clone is made, or refused: `BeyondMaxCapacity` exactly if the slots exceed the maximum.
abbrev pub ClonesOrRefuses : {Gen T : Type 0} → (ℕ → Option ℕ → ℕ → ℕ → Type 0) → ℕ → Gen → Option ℕ → Arena Gen (LinkView T) → Result (Arena Gen (LinkView T)) ReallocationError → Type 0
ClonesOrRefuses may_reach greatest first maximum source (Ok copy) =
    IsClone first maximum source copy × ReachesCapacity may_reach greatest (length source.slots) (new_arena first maximum) copy × (IsBeyond maximum (length source.slots) → ⊥)
ClonesOrRefuses may_reach greatest first maximum source (Err refused.BeyondMaxCapacity) = IsBeyond maximum (length source.slots)
ClonesOrRefuses may_reach greatest first maximum source (Err refused.AllocError) = IsBeyond maximum (length source.slots) → ⊥
