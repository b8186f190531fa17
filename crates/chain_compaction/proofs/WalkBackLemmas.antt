-- The number of reads of a walk back from a link.
use Rattle.std.proofs.Common.{◌≡◌, ℕ, suc, ◌+◌, ◌∙◌, ◌<◌, ◌≤◌, ◌⊎◌, inl, inr, List, ◌∷◌, length, Option, ap, length-append, arith}
use Rattle.chain_laws.specs.Chains.{LinkMap, Chain, linear, cyclic, items, IsMember, IsChain}
use Rattle.chain_laws.specs.ChainStart.{IsBack}
use Rattle.chain_laws.proofs.ListLemmas.Members.{length_bound}
use Rattle.chain_laws.proofs.ChainLemmas.Uniqueness.{chain_once, chain_valid}
use Rattle.chain_links.specs.declared.links.RawLink.{RawLink}
use Rattle.chain_compaction.specs.DetachedLinks.{body_interlinks, link_map_in}
use Rattle.chain_compaction.specs.Destinations.{HasChainFrom}
use Rattle.chain_links.proofs.ArenaInsertionLemmas.{slots-within}

module _ (link_map : LinkMap) (i steps here : ℕ) (back : IsBack link_map i steps here) where
  pub lookups_linear : (xs : List ℕ) → IsChain link_map (linear xs) → IsMember xs i → steps + 1 ≤ length xs
  lookups_linear xs h m =
      let b = back.in_linear xs h m in
      let long : length xs ≡ length b.0 + suc (length b.1) = ap length b.2 ∙ length-append b.0 (here ∷ b.1) in
      let few : steps ≤ length b.1 = b.4 in
      omega arith

  pub lookups_cyclic : (xs : List ℕ) → IsChain link_map (cyclic (i ∷ xs)) → steps + 1 ≤ length xs + 1
  lookups_cyclic xs h =
      let b = back.in_cyclic xs h in
      let long : length xs ≡ length b.0 + length b.1 = ap length b.2 ∙ length-append b.0 b.1 in
      let few : steps ≤ length b.1 = b.4 in
      omega arith

pub back_within : {Gen K T : Type 0} (number : K → Option ℕ) (slots : List (Option (Gen × RawLink K T))) (i steps here : ℕ) → HasChainFrom (link_map_in number slots) i → IsBack (link_map_in number slots) i steps here
    → steps < length slots
back_within {Gen} {K} {T} number slots i steps here found back = by found.1
  where
    few : (c : Chain) → IsChain (link_map_in number slots) c → length (items c) ≤ length slots
    few c h =
        length_bound (items c) (length slots) (chain_once (link_map_in number slots) c h)
        (λ j m. (slots-within (body_interlinks number) slots).within j (chain_valid (link_map_in number slots) c j h m))

    by : (IsChain (link_map_in number slots) (linear found.0) × IsMember found.0 i) ⊎ IsChain (link_map_in number slots) (cyclic (i ∷ found.0)) → steps < length slots
    by (inl h) = omega (arith, lookups_linear (link_map_in number slots) i steps here back found.0 h.0 h.1, few (linear found.0) h.0)
    by (inr h) = let all : length (i ∷ found.0) ≤ length slots = few (cyclic (i ∷ found.0)) h in omega (arith, lookups_cyclic (link_map_in number slots) i steps here back found.0 h, all)
