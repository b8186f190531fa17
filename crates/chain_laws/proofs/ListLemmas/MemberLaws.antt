-- Laws of the members of lists, as equivalences.
use Rattle.std.proofs.Common.{ℕ, inl, inr, ⊎_elim, List, [], ◌∷◌, sym, subst}
use Rattle.chain_laws.specs.Chains.{IsMember}
use Rattle.chain_laws.specs.Members.{MemberInJoin, MemberInRotation, MemberInMiddle, MemberAfterItem, MembersSplitAList, MemberIsFilled, OnceInJoin, OnceInRotation, OnceInMiddle}
use Rattle.chain_laws.proofs.ListLemmas.Members.{IsMember-left, IsMember-right, IsMember-parts, IsMember-middle, IsMember-rotated, IsMember-written, IsMember-filled, filled-IsMember}
use Rattle.chain_laws.proofs.ListLemmas.Members.{AreDistinct-left, AreDistinct-right, AreDistinct-apart, AreDistinct-append, AreDistinct-rotated}

pub member_in_join : MemberInJoin
member_in_join xs ys i = (IsMember-parts xs ys i, ⊎_elim (IsMember-left xs ys i) (IsMember-right xs ys i))

pub member_in_rotation : MemberInRotation
member_in_rotation xs ys i = (IsMember-rotated xs ys i, IsMember-rotated ys xs i)

pub member_in_middle : MemberInMiddle
member_in_middle [] ys x i = (⊎_elim (λ e. inl (sym e)) (λ h. inr h), ⊎_elim (λ e. inl (sym e)) (λ h. inr h))
member_in_middle (y ∷ xs) ys x i =
    let rest = member_in_middle xs ys x i in (
      ⊎_elim (λ e. inr (inl e)) (λ h. ⊎_elim (λ e. inl e) (λ k. inr (inr k)) (rest.0 h)),
      ⊎_elim (λ e. inr (rest.1 (inl e))) (⊎_elim (λ e. inl e) (λ h. inr (rest.1 (inr h)))),
    )

pub member_after_item : MemberAfterItem
member_after_item [] ys a x i = (
  ⊎_elim (λ e. inr (inl e)) (⊎_elim (λ e. inl (sym e)) (λ h. inr (inr h))),
  ⊎_elim (λ e. inr (inl (sym e))) (⊎_elim (λ e. inl e) (λ h. inr (inr h))),
)
member_after_item (y ∷ xs) ys a x i =
    let rest = member_after_item xs ys a x i in (
      ⊎_elim (λ e. inr (inl e)) (λ h. ⊎_elim (λ e. inl e) (λ k. inr (inr k)) (rest.0 h)),
      ⊎_elim (λ e. inr (rest.1 (inl e))) (⊎_elim (λ e. inl e) (λ h. inr (rest.1 (inr h)))),
    )

pub has_is_written : MembersSplitAList
has_is_written xs i = (IsMember-written xs i, λ w. subst (λ (zs : List ℕ). IsMember zs i) (sym w.2) (IsMember-middle w.0 w.1 i))

pub member_is_filled : MemberIsFilled
member_is_filled xs = (filled-IsMember xs, λ w. IsMember-filled xs w.0 w.1)

pub once_in_join : OnceInJoin
once_in_join xs ys = (
  λ once. (AreDistinct-left xs ys once, AreDistinct-right xs ys once, λ i. AreDistinct-apart xs ys i once),
  λ parts. AreDistinct-append xs ys parts.0 parts.1 parts.2,
)

pub once_in_turn : OnceInRotation
once_in_turn xs ys = (AreDistinct-rotated xs ys, AreDistinct-rotated ys xs)

pub once_in_middle : OnceInMiddle
once_in_middle xs ys x = (
  λ once. let front = AreDistinct-rotated xs (x ∷ ys) once in (λ h. front.0 (IsMember-rotated xs ys x h), AreDistinct-rotated ys xs front.1),
  λ parts. AreDistinct-rotated (x ∷ ys) xs (λ h. parts.0 (IsMember-rotated ys xs x h), AreDistinct-rotated xs ys parts.1),
)
