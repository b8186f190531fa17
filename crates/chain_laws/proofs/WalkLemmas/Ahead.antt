-- The links that a walker still passes, as a list.
use Rattle.std.specs.Prelude.{◌≡◌, ℕ, zero, suc, ◌<◌, ◌≤◌, List, [], ◌∷◌, length, Option, None, Some}
use Rattle.std.proofs.Common.{refl, arith}
use Rattle.chain_laws.specs.Chains.{LinkMap, prev_of, next_of}
use Rattle.chain_laws.specs.Walks.{walk_ahead, step_forward, step_back}

abbrev pub IsAhead : LinkMap → ℕ → Option ℕ → Option ℕ → List ℕ → Type 0
IsAhead link_map start None None [] = Unit {0}
IsAhead link_map start None (Some k) [] = ⊥
IsAhead link_map start (Some j) back [] = ⊥
IsAhead link_map start (Some j) back (i ∷ rest) = (j ≡ i) × IsAhead link_map start (step_forward start (next_of link_map j)) (step_back start (next_of link_map j) back) rest
IsAhead link_map start None (Some k) (i ∷ rest) = (k ≡ i) × IsAhead link_map start None (prev_of link_map k) rest
IsAhead link_map start None None (i ∷ rest) = ⊥

pub is_ahead : (left : ℕ) (link_map : LinkMap) (start : ℕ) (forward back : Option ℕ) (xs : List ℕ) → walk_ahead left link_map start forward back ≡ xs → length xs < left → IsAhead link_map start forward back xs
is_ahead zero link_map start forward back xs is enough = absurd (omega arith)
is_ahead (suc left) link_map start None None [] is enough = tt
is_ahead (suc left) link_map start None None (i ∷ rest) is enough = absurd (let h = is in cc)
is_ahead (suc left) link_map start None (Some k) [] is enough = absurd (let h = is in cc)
is_ahead (suc left) link_map start None (Some k) (i ∷ rest) is enough =
    let same : k ≡ i = cc in
    let more : walk_ahead left link_map start None (prev_of link_map k) ≡ rest = cc in
    (same, is_ahead left link_map start None (prev_of link_map k) rest more (omega arith))
is_ahead (suc left) link_map start (Some j) back [] is enough = absurd (let h = is in cc)
is_ahead (suc left) link_map start (Some j) back (i ∷ rest) is enough =
    let same : j ≡ i = cc in
    let more : walk_ahead left link_map start (step_forward start (next_of link_map j)) (step_back start (next_of link_map j) back) ≡ rest = cc in
    (same, is_ahead left link_map start (step_forward start (next_of link_map j)) (step_back start (next_of link_map j) back) rest more (omega arith))

pub passes_list : (left : ℕ) (link_map : LinkMap) (start : ℕ) (forward back : Option ℕ) (xs : List ℕ) → IsAhead link_map start forward back xs → length xs ≤ left → walk_ahead left link_map start forward back ≡ xs
passes_list zero link_map start forward back [] ahead enough = refl
passes_list zero link_map start forward back (i ∷ rest) ahead enough = absurd (omega arith)
passes_list (suc left) link_map start None None [] ahead enough = refl
passes_list (suc left) link_map start None None (i ∷ rest) ahead enough = absurd ahead
passes_list (suc left) link_map start None (Some k) [] ahead enough = absurd ahead
passes_list (suc left) link_map start None (Some k) (i ∷ rest) ahead enough =
    let same = ahead.0 in
    let more : walk_ahead left link_map start None (prev_of link_map k) ≡ rest = passes_list left link_map start None (prev_of link_map k) rest ahead.1 (omega arith) in
    cc (same, more)
passes_list (suc left) link_map start (Some j) back [] ahead enough = absurd ahead
passes_list (suc left) link_map start (Some j) back (i ∷ rest) ahead enough =
    let same = ahead.0 in
    let more : walk_ahead left link_map start (step_forward start (next_of link_map j)) (step_back start (next_of link_map j) back) ≡ rest =
    passes_list left link_map start (step_forward start (next_of link_map j)) (step_back start (next_of link_map j) back) rest ahead.1 (omega arith) in
    cc (same, more)
