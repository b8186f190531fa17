-- The chain merged from two cyclic ones has the links of both.
use Rattle.std.proofs.Common.{◌≡◌, ℕ, ◌⊎◌, ⊎_elim, inl, inr, List, ◌∷◌, ◌++◌, length, length-append, ◌↔◌, arith}
use Rattle.chain_laws.specs.Chains.{IsMember, AreDistinct}
use Rattle.chain_laws.specs.Exchanges.{MergedCycleHasBoth}
use Rattle.chain_laws.proofs.ListLemmas.Members.{IsMember-left, IsMember-right, IsMember-parts}
use Rattle.chain_laws.proofs.ChainLemmas.Rotations.{rotated_to}
use Rattle.chain_laws.proofs.WalkLemmas.WalkBack.{length_among}

pub same_length : (xs ys : List ℕ) → AreDistinct xs → AreDistinct ys → ((i : ℕ) → IsMember xs i ↔ IsMember ys i) → length xs ≡ length ys
same_length xs ys once_x once_y same =
    let less = length_among xs ys once_x (λ i. (same i).0) in
    let more = length_among ys xs once_y (λ i. (same i).1) in
    omega (arith, less, more)

crossed : (x y : List ℕ) (p q i : ℕ) → IsMember (p ∷ y ++ q ∷ x) i ↔ (IsMember (p ∷ x) i ⊎ IsMember (q ∷ y) i)
crossed x y p q i = (out, into)
  where
    out : IsMember (p ∷ y ++ q ∷ x) i → IsMember (p ∷ x) i ⊎ IsMember (q ∷ y) i
    out (inl is_p) = inl (inl is_p)
    out (inr has) = ⊎_elim (λ in_y. inr (inr in_y)) (⊎_elim (λ is_q. inr (inl is_q)) (λ in_x. inl (inr in_x))) (IsMember-parts y (q ∷ x) i has)

    into : IsMember (p ∷ x) i ⊎ IsMember (q ∷ y) i → IsMember (p ∷ y ++ q ∷ x) i
    into (inl (inl is_p)) = inl is_p
    into (inl (inr in_x)) = inr (IsMember-right y (q ∷ x) i (inr in_x))
    into (inr (inl is_q)) = inr (IsMember-right y (q ∷ x) i (inl is_q))
    into (inr (inr in_y)) = inr (IsMember-left y (q ∷ x) i in_y)

pub merged_cycle_has_both : MergedCycleHasBoth
merged_cycle_has_both old new p q xs ys exchanges left right has_p has_q apart =
    let one = rotated_to old xs p left has_p in
    let two = rotated_to old ys q right has_q in
    let size_one = same_length xs (p ∷ one.0) left.1 one.1.1 one.2 in
    let size_two = same_length ys (q ∷ two.0) right.1 two.1.1 two.2 in
    record {
      merged = p ∷ two.0 ++ q ∷ one.0;
      chain = exchanges.two_cyclic one.0 two.0 one.1 two.1 (λ has. apart ((one.2 q).1 has));
      members = λ i.
          let parts = crossed one.0 two.0 p q i in (
            λ has. ⊎_elim (λ in_one. inl ((one.2 i).1 in_one)) (λ in_two. inr ((two.2 i).1 in_two)) (parts.0 has),
            ⊎_elim (λ in_xs. parts.1 (inl ((one.2 i).0 in_xs))) (λ in_ys. parts.1 (inr ((two.2 i).0 in_ys))),
          );
      size = omega (arith, size_one, size_two, length-append two.0 (q ∷ one.0));
    }
