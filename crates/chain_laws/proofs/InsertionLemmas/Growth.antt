-- A chain has the items that it had and the inserted link.
use Rattle.std.proofs.Common.{◌≡◌, ℕ, ◌⊎◌, List, ◌∷◌, ◌++◌, length, length-append, ◌↔◌, refl, sym, ap, subst, arith}
use Rattle.chain_laws.specs.Chains.{LinkMap, Chain, linear, cyclic, IsChain, IsMember}
use Rattle.chain_laws.specs.Insertions.{HasGrownBy, InsertionGrowsTheChain}
use Rattle.chain_laws.proofs.ListLemmas.Members.{IsMember-written}
use Rattle.chain_laws.proofs.ListLemmas.MemberLaws.{member_after_item, member_in_middle}

module _ (old new : LinkMap) (a q : ℕ) (shape : List ℕ → Chain) where
  same_with : (xs ys zs : List ℕ) (i : ℕ) → xs ≡ ys → IsMember zs i ↔ ((i ≡ q) ⊎ IsMember ys i) → IsMember zs i ↔ ((i ≡ q) ⊎ IsMember xs i)
  same_with xs ys zs i written same = subst (λ (l : List ℕ). IsMember zs i ↔ ((i ≡ q) ⊎ IsMember l i)) (sym written) same

  grown_after : ((x y : List ℕ) → IsChain old (shape (x ++ a ∷ y)) → IsChain new (shape (x ++ a ∷ q ∷ y))) → (xs : List ℕ) → IsMember xs a → IsChain old (shape xs) → HasGrownBy shape new q xs
  grown_after grows xs has is = let w = IsMember-written xs a has in by w.0 w.1 w.2
    where
      by : (before after : List ℕ) → xs ≡ before ++ a ∷ after → HasGrownBy shape new q xs
      by before after written = record {
        grown = before ++ a ∷ q ∷ after;
        chain = grows before after (subst (λ (l : List ℕ). IsChain old (shape l)) written is);
        members = λ i. same_with xs (before ++ a ∷ after) (before ++ a ∷ q ∷ after) i written (member_after_item before after a q i);
        size = omega (arith, ap length written, length-append before (a ∷ q ∷ after), length-append before (a ∷ after));
      }

  grown_before : ((x y : List ℕ) → IsChain old (shape (x ++ a ∷ y)) → IsChain new (shape (x ++ q ∷ a ∷ y))) → (xs : List ℕ) → IsMember xs a → IsChain old (shape xs) → HasGrownBy shape new q xs
  grown_before grows xs has is = let w = IsMember-written xs a has in by w.0 w.1 w.2
    where
      by : (before after : List ℕ) → xs ≡ before ++ a ∷ after → HasGrownBy shape new q xs
      by before after written = record {
        grown = before ++ q ∷ a ∷ after;
        chain = grows before after (subst (λ (l : List ℕ). IsChain old (shape l)) written is);
        members = λ i. same_with xs (before ++ a ∷ after) (before ++ q ∷ a ∷ after) i written (member_in_middle before (a ∷ after) q i);
        size = omega (arith, ap length written, length-append before (q ∷ a ∷ after), length-append before (a ∷ after));
      }

pub insertion_grows_the_chain : InsertionGrowsTheChain
insertion_grows_the_chain old new a q = (
  λ inserts xs has. (
    grown_after old new a q linear (λ x y. (inserts.after a refl refl x y).0) xs has,
    grown_after old new a q cyclic (λ x y. (inserts.after a refl refl x y).1) xs has,
  ),
  λ inserts xs has. (
    grown_before old new a q linear (λ x y. (inserts.before a refl refl x y).0) xs has,
    grown_before old new a q cyclic (λ x y. (inserts.before a refl refl x y).1) xs has,
  ),
)
