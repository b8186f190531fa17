-- The definition of chains.
use Rattle.std.specs.Prelude.{◌≡◌, ◌≢◌, ◌↔◌, ℕ, ◌<◌, ◌≤◌, ◌⊎◌, List, [], ◌∷◌, ◌++◌, Option, None, Some}

pub record Interlinks : Type 0 where
  pub prev : Option ℕ
  pub next : Option ℕ

-- The interlinks at each index, if it has a link.
abbrev pub LinkMap : Type 0
LinkMap = ℕ → Option Interlinks

abbrev pub prev_in : Option Interlinks → Option ℕ
prev_in None = None
prev_in (Some link) = link.prev

abbrev pub next_in : Option Interlinks → Option ℕ
next_in None = None
next_in (Some link) = link.next

abbrev pub prev_of : LinkMap → ℕ → Option ℕ
prev_of link_map i = prev_in (link_map i)

abbrev pub next_of : LinkMap → ℕ → Option ℕ
next_of link_map i = next_in (link_map i)

pub record HasLink (link_map : LinkMap) (i : ℕ) : Type 0 where
  pub link : Interlinks
  pub links : link_map i ≡ Some link

-- i names j as next exactly if j names i as prev, so each index named is valid.
pub record IsWellLinked (link_map : LinkMap) : Type 0 where
  pub both : (i j : ℕ) → (next_of link_map i ≡ Some j) ↔ (prev_of link_map j ≡ Some i)

-- Only indexes from 1 to `slots` have links.
pub record HasLinksWithin (link_map : LinkMap) (slots : ℕ) : Type 0 where
  pub within : (i : ℕ) → HasLink link_map i → (1 ≤ i) × (i ≤ slots)

abbrev pub IsMember : List ℕ → ℕ → Type 0
IsMember [] y = ⊥
IsMember (x ∷ xs) y = (x ≡ y) ⊎ IsMember xs y

abbrev pub AreDistinct : List ℕ → Type 0
AreDistinct [] = Unit {0}
AreDistinct (x ∷ xs) = (IsMember xs x → ⊥) × AreDistinct xs

-- Linear from start to end, or cyclic once around from any link.
pub data Chain : Type 0 where
  linear : List ℕ → Chain
  cyclic : List ℕ → Chain

abbrev pub items : Chain → List ℕ
items (linear xs) = xs
items (cyclic xs) = xs

-- The first item, else `after`.
abbrev pub first_or : List ℕ → Option ℕ → Option ℕ
first_or [] after = after
first_or (x ∷ xs) after = Some x

-- The last item, else `before`.
abbrev pub last_or : List ℕ → Option ℕ → Option ℕ
last_or [] before = before
last_or (x ∷ xs) before = last_or xs (Some x)

-- Each item names those beside it; `before` and `after` enclose the list.
abbrev pub AreLinked : LinkMap → Option ℕ → List ℕ → Option ℕ → Type 0
AreLinked link_map before [] after = Unit {0}
AreLinked link_map before (x ∷ xs) after =
    (link_map x ≡ Some (record { prev = before; next = first_or xs after })) × AreLinked link_map (Some x) xs after

-- A chain of the arena; a cyclic one from any of its links.
abbrev pub IsChain : LinkMap → Chain → Type 0
IsChain link_map (linear xs) = (xs ≢ []) × AreDistinct xs × AreLinked link_map None xs None
IsChain link_map (cyclic xs) = (xs ≢ []) × AreDistinct xs × AreLinked link_map (last_or xs None) xs (first_or xs None)

abbrev pub HasChain : List Chain → Chain → Type 0
HasChain [] c = ⊥
HasChain (d ∷ chains) c = (d ≡ c) ⊎ HasChain chains c

abbrev pub all_items : List Chain → List ℕ
all_items [] = []
all_items (c ∷ chains) = items c ++ all_items chains

-- The chains of the arena, in some order.
pub record AreChains (link_map : LinkMap) (chains : List Chain) : Type 0 where
  pub each : (c : Chain) → HasChain chains c → IsChain link_map c
  pub once : AreDistinct (all_items chains)
  pub all : (i : ℕ) → HasLink link_map i → IsMember (all_items chains) i

abbrev pub IsAtMostEach : ℕ → List ℕ → Type 0
IsAtMostEach x [] = Unit {0}
IsAtMostEach x (y ∷ ys) = (x ≤ y) × IsAtMostEach x ys

abbrev pub StartsAtLeast : Chain → Type 0
StartsAtLeast (linear xs) = Unit {0}
StartsAtLeast (cyclic []) = Unit {0}
StartsAtLeast (cyclic (x ∷ xs)) = IsAtMostEach x xs

-- Each chain has an index below all those of later chains.
abbrev pub IsSortedByLeast : List Chain → Type 0
IsSortedByLeast [] = Unit {0}
IsSortedByLeast (c ∷ chains) = ((m : ℕ) × IsMember (items c) m × ((y : ℕ) → IsMember (all_items chains) y → m < y)) × IsSortedByLeast chains

-- Sorted by least index, cyclic chains from theirs.
pub record IsInOrder (chains : List Chain) : Type 0 where
  pub written : (c : Chain) → HasChain chains c → StartsAtLeast c
  pub ascends : IsSortedByLeast chains
