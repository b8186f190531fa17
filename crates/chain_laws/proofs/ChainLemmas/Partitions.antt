-- An arena has one list of chains in order, and one chain with each index.
use Rattle.std.proofs.Common.{◌≡◌, ◌↔◌, ℕ, ◌<◌, ◌⊎◌, inl, inr, ⊎_elim, List, [], ◌∷◌, refl, sym, subst, arith}
use Rattle.chain_laws.specs.Chains.{LinkMap, HasLink, HasLinksWithin, IsWellLinked, IsMember, AreDistinct, Chain, items, IsChain, HasChain, all_items, AreChains, StartsAtLeast, IsSortedByLeast}
use Rattle.chain_laws.specs.Neighbors.{AreTheChains, IsChainOf, AllStartAtLeast, IsRotation, HasOneSetOfChains}
use Rattle.chain_laws.proofs.ListLemmas.Members.{IsMember-left, IsMember-right, IsMember-parts, filled-IsMember, AreDistinct-right, AreDistinct-apart}
use Rattle.chain_laws.proofs.ChainLemmas.Uniqueness.{chain_valid, chain_filled, one_chain}
use Rattle.chain_laws.proofs.ChainLemmas.Rotations.{one_rotated}
use Rattle.chain_laws.proofs.ChainLemmas.ChainLists.{chain_at}
use Rattle.chain_laws.proofs.ChainLemmas.Existence.{has_chains}
use Rattle.chain_laws.proofs.ChainLemmas.NeighborPairs.{partitions, interlinks, chains_from_pairs}

pub the_chains : (link_map : LinkMap) (slots : ℕ) → IsWellLinked link_map → HasLinksWithin link_map slots → (chains : List Chain) × AreTheChains link_map chains
the_chains link_map slots agrees within =
    let all = has_chains link_map slots agrees within in
    (all.0, record { partition = partitions link_map all.0 all.1; interlinks = interlinks link_map all.0 all.1; order = all.2 })

record Ordered (link_map : LinkMap) (chains : List Chain) : Type 0 where
  each : (c : Chain) → HasChain chains c → IsChain link_map c
  written : (c : Chain) → HasChain chains c → StartsAtLeast c
  once : AreDistinct (all_items chains)
  ascends : IsSortedByLeast chains

rest_ordered : (link_map : LinkMap) (c : Chain) (chains : List Chain) → Ordered link_map (c ∷ chains) → Ordered link_map chains
rest_ordered link_map c chains o = record {
  each = λ d m. o.each d (inr m);
  written = λ d m. o.written d (inr m);
  once = AreDistinct-right (items c) (all_items chains) o.once;
  ascends = o.ascends.1;
}

same_first : (link_map : LinkMap) (c d : Chain) (chains others : List Chain) → Ordered link_map (c ∷ chains) → Ordered link_map (d ∷ others)
    → ((i : ℕ) → IsMember (all_items (c ∷ chains)) i → IsMember (all_items (d ∷ others)) i) → ((i : ℕ) → IsMember (all_items (d ∷ others)) i → IsMember (all_items (c ∷ chains)) i) → c ≡ d
same_first link_map c d chains others o p there back =
    by_least (IsMember-parts (items d) (all_items others) low (there low (IsMember-left (items c) (all_items chains) low o.ascends.0.1)))
    (IsMember-parts (items c) (all_items chains) least (back least (IsMember-left (items d) (all_items others) least p.ascends.0.1)))
  where
    low : ℕ
    low = o.ascends.0.0

    least : ℕ
    least = p.ascends.0.0

    share : (i : ℕ) → IsMember (items c) i → IsMember (items d) i → c ≡ d
    share i h k = one_chain link_map c d i (o.each c (inl refl)) (p.each d (inl refl)) (o.written c (inl refl)) (p.written d (inl refl)) h k

    by_least : IsMember (items d) low ⊎ IsMember (all_items others) low → IsMember (items c) least ⊎ IsMember (all_items chains) least → c ≡ d
    by_least (inl h) k = share low o.ascends.0.1 h
    by_least (inr h) (inl k) = share least k p.ascends.0.1
    by_least (inr h) (inr k) =
        let below : least < low = p.ascends.0.2 low h in
        let above : low < least = o.ascends.0.2 least k in
        absurd (omega arith)

rest_there : (c : Chain) (chains others : List Chain) → AreDistinct (all_items (c ∷ chains))
    → ((i : ℕ) → IsMember (all_items (c ∷ chains)) i → IsMember (all_items (c ∷ others)) i) → (i : ℕ) → IsMember (all_items chains) i → IsMember (all_items others) i
rest_there c chains others once there i h =
    ⊎_elim (λ (k : IsMember (items c) i). absurd (AreDistinct-apart (items c) (all_items chains) i once k h)) (λ (k : IsMember (all_items others) i). k)
    (IsMember-parts (items c) (all_items others) i (there i (IsMember-right (items c) (all_items chains) i h)))

no_empty : (link_map : LinkMap) (c : Chain) (chains : List Chain) → IsChain link_map c → ((i : ℕ) → IsMember (all_items (c ∷ chains)) i → ⊥) → ⊥
no_empty link_map c chains h none =
    let x = filled-IsMember (items c) (chain_filled link_map c h) in
    none x.0 (IsMember-left (items c) (all_items chains) x.0 x.1)

same_order : (link_map : LinkMap) (chains others : List Chain) → Ordered link_map chains → Ordered link_map others
    → ((i : ℕ) → IsMember (all_items chains) i → IsMember (all_items others) i) → ((i : ℕ) → IsMember (all_items others) i → IsMember (all_items chains) i) → chains ≡ others
same_order link_map [] [] o p there back = refl
same_order link_map [] (d ∷ others) o p there back = absurd (no_empty link_map d others (p.each d (inl refl)) back)
same_order link_map (c ∷ chains) [] o p there back = absurd (no_empty link_map c chains (o.each c (inl refl)) there)
same_order link_map (c ∷ chains) (d ∷ others) o p there back =
    let first : c ≡ d = same_first link_map c d chains others o p there back in
    let there_c : (i : ℕ) → IsMember (all_items (c ∷ chains)) i → IsMember (all_items (c ∷ others)) i = λ i h. subst (λ (x : Chain). IsMember (all_items (x ∷ others)) i) (sym first) (there i h) in
    let back_c : (i : ℕ) → IsMember (all_items (c ∷ others)) i → IsMember (all_items (c ∷ chains)) i = λ i h. back i (subst (λ (x : Chain). IsMember (all_items (x ∷ others)) i) first h) in
    let once_c : AreDistinct (all_items (c ∷ others)) = subst (λ (x : Chain). AreDistinct (all_items (x ∷ others))) (sym first) p.once in
    let rest : chains ≡ others = same_order link_map chains others (rest_ordered link_map c chains o) (rest_ordered link_map d others p)
    (rest_there c chains others o.once there_c) (rest_there c others chains once_c back_c) in
    cc (first, rest)

ordered : (link_map : LinkMap) (chains : List Chain) → AreTheChains link_map chains → Ordered link_map chains
ordered link_map chains are = record {
  each = (chains_from_pairs link_map chains are.partition are.interlinks).each;
  written = are.order.written;
  once = are.partition.once;
  ascends = are.order.ascends;
}

pub no_others : (link_map : LinkMap) (chains others : List Chain) → AreTheChains link_map chains → AreTheChains link_map others → chains ≡ others
no_others link_map chains others are also =
    same_order link_map chains others (ordered link_map chains are) (ordered link_map others also)
    (λ i h. (also.partition.valid i).0 ((are.partition.valid i).1 h)) (λ i h. (are.partition.valid i).0 ((also.partition.valid i).1 h))

pub is_among : (link_map : LinkMap) (chains : List Chain) (c : Chain) → AreChains link_map chains → AllStartAtLeast chains → IsChain link_map c → StartsAtLeast c → HasChain chains c
is_among link_map chains c are written h w =
    let x = filled-IsMember (items c) (chain_filled link_map c h) in
    let at = chain_at chains x.0 (are.all x.0 (chain_valid link_map c x.0 h x.1)) in
    subst (HasChain chains) (one_chain link_map at.0 c x.0 (are.each at.0 at.1) h (written at.0 at.1) w at.2 x.1) at.1

pub same_members : (link_map : LinkMap) (chains others : List Chain) → AreChains link_map chains → AreChains link_map others → AllStartAtLeast chains → AllStartAtLeast others
    → (c : Chain) → HasChain chains c ↔ HasChain others c
same_members link_map chains others are also written too c = (
  (λ m. is_among link_map others c also too (are.each c m) (written c m)),
  (λ m. is_among link_map chains c are written (also.each c m) (too c m)),
)

pub same_rotated : (link_map : LinkMap) (chains others : List Chain) → AreChains link_map chains → AreChains link_map others
    → (c : Chain) → HasChain chains c → (other : Chain) × HasChain others other × IsRotation c other
same_rotated link_map chains others are also c m =
    let x = filled-IsMember (items c) (chain_filled link_map c (are.each c m)) in
    let at = chain_at others x.0 (also.all x.0 (chain_valid link_map c x.0 (are.each c m) x.1)) in
    (at.0, at.1, one_rotated link_map x.0 c at.0 (are.each c m) (also.each at.0 at.1) x.1 at.2)

pub chain_of_each : (link_map : LinkMap) (slots i : ℕ) → IsWellLinked link_map → HasLinksWithin link_map slots → HasLink link_map i → (c : Chain) × IsChainOf link_map i c
chain_of_each link_map slots i agrees within valid =
    let all = has_chains link_map slots agrees within in
    let at = chain_at all.0 i (all.1.all i valid) in
    (at.0, record { chain = all.1.each at.0 at.1; written = all.2.written at.0 at.1; has = at.2 })

pub no_other_of_each : (link_map : LinkMap) (i : ℕ) (c other : Chain) → IsChainOf link_map i c → IsChainOf link_map i other → c ≡ other
no_other_of_each link_map i c other s t = one_chain link_map c other i s.chain t.chain s.written t.written s.has t.has

pub one_set : (link_map : LinkMap) (slots : ℕ) → IsWellLinked link_map → HasLinksWithin link_map slots → HasOneSetOfChains link_map
one_set link_map slots agrees within =
    let is = the_chains link_map slots agrees within in
    record { chains = is.0; are = is.1; only = λ others are. no_others link_map others is.0 are is.1 }
