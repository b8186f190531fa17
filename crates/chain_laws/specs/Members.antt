-- Laws of membership.
use Rattle.std.specs.Prelude.{◌≡◌, ◌≢◌, ◌↔◌, ℕ, ◌≤◌, ◌⊎◌, List, [], ◌∷◌, ◌++◌, length, None, Some}
use Rattle.chain_laws.specs.Chains.{LinkMap, Chain, linear, cyclic, items, all_items, HasChain, IsMember, AreDistinct, IsChain, HasLink, IsWellLinked, first_or, last_or, prev_of, next_of}
use Rattle.chain_laws.specs.Neighbors.{AreNeighbors, AreNeighborsIn, IsRotation}

-- Each index of a chain has a link.
abbrev pub MembersAreLinks : Type 0
MembersAreLinks = (link_map : LinkMap) (c : Chain) (i : ℕ) → IsChain link_map c → IsMember (items c) i → HasLink link_map i

-- A free index is in no chain.
abbrev pub FreeIsInNoChain : Type 0
FreeIsInNoChain = (link_map : LinkMap) (c : Chain) (q : ℕ) → link_map q ≡ None → IsChain link_map c → IsMember (items c) q → ⊥

-- A chain has each of its indexes once.
abbrev pub MembersOccurOnce : Type 0
MembersOccurOnce = (link_map : LinkMap) (c : Chain) → IsChain link_map c → AreDistinct (items c)

-- A link names exactly its neighbors in the chain.
abbrev pub MembersNameNeighbors : Type 0
MembersNameNeighbors = (link_map : LinkMap) (c : Chain) (i j : ℕ) → IsChain link_map c → IsMember (items c) i
    → ((next_of link_map i ≡ Some j) ↔ AreNeighborsIn c i j) × ((prev_of link_map i ≡ Some j) ↔ AreNeighborsIn c j i)

-- A link of a linear chain names the items beside it, and nothing at an end.
abbrev pub PlacesInALine : Type 0
PlacesInALine = (link_map : LinkMap) (x y : List ℕ) (i : ℕ) → IsChain link_map (linear (x ++ i ∷ y))
    → link_map i ≡ Some (record { prev = last_or x None; next = first_or y None })

-- A link of a cyclic chain names the items beside it, last and first included.
abbrev pub PlacesInARing : Type 0
PlacesInARing = (link_map : LinkMap) (x y : List ℕ) (i : ℕ) → IsChain link_map (cyclic (x ++ i ∷ y))
    → link_map i ≡ Some (record { prev = last_or x (last_or y (Some i)); next = first_or y (first_or x (Some i)) })

-- In a linear chain, only the end lacks a next and only the start a previous link.
abbrev pub LinesEnd : Type 0
LinesEnd = (link_map : LinkMap) (xs : List ℕ) (i : ℕ) → IsChain link_map (linear xs) → IsMember xs i
    → ((next_of link_map i ≡ None) ↔ (last_or xs None ≡ Some i)) × ((prev_of link_map i ≡ None) ↔ (first_or xs None ≡ Some i))

-- In a cyclic chain, each link has a next and a previous link in it.
abbrev pub RingsAreCyclic : Type 0
RingsAreCyclic = (link_map : LinkMap) (xs : List ℕ) (i : ℕ) → IsChain link_map (cyclic xs) → IsMember xs i
    → ((j : ℕ) × (next_of link_map i ≡ Some j) × IsMember xs j) × ((j : ℕ) × (prev_of link_map i ≡ Some j) × IsMember xs j)

-- A chain with one of two neighbors has both.
abbrev pub NeighborsShareAChain : Type 0
NeighborsShareAChain = (link_map : LinkMap) (c : Chain) (a b : ℕ) → IsWellLinked link_map → AreNeighbors link_map a b → IsChain link_map c → IsMember (items c) a ↔ IsMember (items c) b

-- Chains with a common index have the same indexes.
abbrev pub ChainsShareEach : Type 0
ChainsShareEach = (link_map : LinkMap) (c other : Chain) (i j : ℕ) → IsChain link_map c → IsChain link_map other → IsMember (items c) i → IsMember (items other) i
    → IsMember (items c) j ↔ IsMember (items other) j

-- A rotation has the same items.
abbrev pub RotationsHaveTheSame : Type 0
RotationsHaveTheSame = (c other : Chain) (i : ℕ) → IsRotation c other → IsMember (items c) i ↔ IsMember (items other) i

-- A rotation is as long.
abbrev pub RotationsAreAsLong : Type 0
RotationsAreAsLong = (c other : Chain) → IsRotation c other → length (items other) ≡ length (items c)

-- The items of all chains are those of each.
abbrev pub MemberInAll : Type 0
MemberInAll = (chains : List Chain) (i : ℕ) → IsMember (all_items chains) i ↔ ((c : Chain) × HasChain chains c × IsMember (items c) i)

abbrev pub MemberNeighborLaws : Type 0
MemberNeighborLaws = record {
  neighbors : MembersNameNeighbors;
  in_line : PlacesInALine;
  in_ring : PlacesInARing;
  line_ends : LinesEnd;
  ring_is_cyclic : RingsAreCyclic;
}

abbrev pub SharedMemberLaws : Type 0
SharedMemberLaws = record {
  together : NeighborsShareAChain;
  each : ChainsShareEach;
  rotated : RotationsHaveTheSame;
  as_long : RotationsAreAsLong;
  in_all : MemberInAll;
}

-- A concatenation has the items of both lists.
abbrev pub MemberInJoin : Type 0
MemberInJoin = (xs ys : List ℕ) (i : ℕ) → IsMember (xs ++ ys) i ↔ (IsMember xs i ⊎ IsMember ys i)

-- The order of two lists does not change their items.
abbrev pub MemberInRotation : Type 0
MemberInRotation = (xs ys : List ℕ) (i : ℕ) → IsMember (xs ++ ys) i ↔ IsMember (ys ++ xs) i

-- x in the middle adds only x to the items.
abbrev pub MemberInMiddle : Type 0
MemberInMiddle = (xs ys : List ℕ) (x i : ℕ) → IsMember (xs ++ x ∷ ys) i ↔ ((i ≡ x) ⊎ IsMember (xs ++ ys) i)

-- x after a adds only x to the items.
abbrev pub MemberAfterItem : Type 0
MemberAfterItem = (xs ys : List ℕ) (a x i : ℕ) → IsMember (xs ++ a ∷ x ∷ ys) i ↔ ((i ≡ x) ⊎ IsMember (xs ++ a ∷ ys) i)

-- A list has i exactly if it splits at i.
abbrev pub MembersSplitAList : Type 0
MembersSplitAList = (xs : List ℕ) (i : ℕ) → IsMember xs i ↔ ((before : List ℕ) × (after : List ℕ) × (xs ≡ before ++ i ∷ after))

-- Membership is decidable.
abbrev pub MembershipIsDecided : Type 0
MembershipIsDecided = (xs : List ℕ) (i : ℕ) → IsMember xs i ⊎ (IsMember xs i → ⊥)

-- A list is not empty exactly if it has an item.
abbrev pub MemberIsFilled : Type 0
MemberIsFilled = (xs : List ℕ) → (xs ≢ []) ↔ ((i : ℕ) × IsMember xs i)

abbrev pub ListMemberLaws : Type 0
ListMemberLaws = record {
  in_join : MemberInJoin;
  in_turn : MemberInRotation;
  in_middle : MemberInMiddle;
  after_item : MemberAfterItem;
  written : MembersSplitAList;
  decided : MembershipIsDecided;
  filled : MemberIsFilled;
}

-- A concatenation is distinct exactly if both lists are and share nothing.
abbrev pub OnceInJoin : Type 0
OnceInJoin = (xs ys : List ℕ) → AreDistinct (xs ++ ys) ↔ (AreDistinct xs × AreDistinct ys × ((i : ℕ) → IsMember xs i → IsMember ys i → ⊥))

-- The order of two lists does not change whether they are distinct.
abbrev pub OnceInRotation : Type 0
OnceInRotation = (xs ys : List ℕ) → AreDistinct (xs ++ ys) ↔ AreDistinct (ys ++ xs)

-- With x in the middle, a list is distinct exactly if it was and x is new.
abbrev pub OnceInMiddle : Type 0
OnceInMiddle = (xs ys : List ℕ) (x : ℕ) → AreDistinct (xs ++ x ∷ ys) ↔ ((IsMember (xs ++ ys) x → ⊥) × AreDistinct (xs ++ ys))

-- In a distinct list, an item has one position.
abbrev pub OnceAtOnePlace : Type 0
OnceAtOnePlace = (before after others rest : List ℕ) (i : ℕ) → AreDistinct (before ++ i ∷ after) → before ++ i ∷ after ≡ others ++ i ∷ rest
    → (before ≡ others) × (after ≡ rest)

-- A distinct list is no longer than one with all its items.
abbrev pub OnceIsNoLonger : Type 0
OnceIsNoLonger = (xs ys : List ℕ) → AreDistinct xs → ((i : ℕ) → IsMember xs i → IsMember ys i) → length xs ≤ length ys

abbrev pub DistinctLinksFit : Type 0
DistinctLinksFit = (link_map : LinkMap) (all xs : List ℕ) → ((i : ℕ) → HasLink link_map i → IsMember all i) → AreDistinct xs → ((i : ℕ) → IsMember xs i → HasLink link_map i)
    → length xs ≤ length all

abbrev pub DistinctItemLaws : Type 0
DistinctItemLaws = record {
  in_join : OnceInJoin;
  in_turn : OnceInRotation;
  in_middle : OnceInMiddle;
  one_place : OnceAtOnePlace;
  no_longer : OnceIsNoLonger;
}
