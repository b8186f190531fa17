-- Entries that a closure visited.
use Rattle.std.proofs.Common.{◌≡◌, ℕ, List, [], ◌∷◌, map, length, refl, ap, sym, ◌∙◌}
use Rattle.std.specs.List.{FoldsTo}
use Rattle.std.specs.Fn.{Mut}
use Rattle.std.proofs.lemmas.List.{length-map}
use denote.Ref.{MutBor}
use Rattle.arena_traits.specs.Compressions.{Visit, IsVisit, VisitsAll, values_in}

module _ {F P T Gen : Type 0} (g : Mut F (P × (MutBor T × (P × Unit {0}))) (Unit {0} × (MutBor T × Unit {0}))) (key : P → ℕ × Gen) where
  pub visits_keep_count : {f : F} {old new : List ((ℕ × Gen) × T)} → VisitsAll g key f old new → length new ≡ length old
  visits_keep_count v = sym (ap length v.after) ∙ (length-map v.visits _ ∙ (sym (length-map v.visits _) ∙ ap length v.before))

  values_left : (left : (f : F) (visit : Visit P T) (next : F) → IsVisit g f visit next → visit.left ≡ visit.value) (visits : List (Visit P T)) (f last : F) → FoldsTo (IsVisit g) f visits last
      → map (λ v. v.left) visits ≡ map (λ v. v.value) visits
  values_left left [] f last steps = refl
  values_left left (v ∷ visits) f last steps = λ i. left f v steps.0 steps.1 i ∷ values_left left visits steps.0 last steps.2 i

  pub values_kept : {f : F} {old new : List ((ℕ × Gen) × T)} → ((f : F) (visit : Visit P T) (next : F) → IsVisit g f visit next → visit.left ≡ visit.value) → VisitsAll g key f old new → values_in new ≡ values_in old
  values_kept {f = f} left v =
      ap values_in (sym v.after) ∙ (values_of v.visits ∙ (values_left left v.visits f v.last v.in_turn ∙ (sym (reported_of v.visits) ∙ ap values_in v.before)))
    where
      values_of : (visits : List (Visit P T)) → values_in (map (λ v. (key v.to, v.left)) visits) ≡ map (λ v. v.left) visits
      values_of [] = refl
      values_of (v ∷ visits) = ap (λ ts. v.left ∷ ts) (values_of visits)

      reported_of : (visits : List (Visit P T)) → values_in (map (λ v. (key v.from, v.value)) visits) ≡ map (λ v. v.value) visits
      reported_of [] = refl
      reported_of (v ∷ visits) = ap (λ ts. v.value ∷ ts) (reported_of visits)
