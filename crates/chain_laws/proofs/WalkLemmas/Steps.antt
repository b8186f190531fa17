-- The steps of a walker.
use Rattle.std.proofs.Common.{◌≡◌, ℕ, zero, suc, List, ◌∷◌, Option, None, Some, refl, ap, sym, ◌∙◌, subst, IfSome}
use Rattle.chain_laws.specs.Chains.{LinkMap, first_or}
use Rattle.chain_laws.specs.Walks.{Walker, walk_ahead, passes_ahead, next_step, step_of, walk_of_step, StepsPass}

steps_from : (link_map : LinkMap) (left start : ℕ) (forward back : Option ℕ) → walk_ahead left link_map start forward back ≡ walk_of_step link_map (next_step left link_map start forward back)
steps_from link_map zero start forward back = refl
steps_from link_map (suc left) start (Some j) back = refl
steps_from link_map (suc left) start None (Some k) = refl
steps_from link_map (suc left) start None None = refl

pub steps_pass : StepsPass
steps_pass link_map w = steps_from link_map w.left w.start w.forward w.back

pub step_ahead : (link_map : LinkMap) (old new : Walker) (i : ℕ) → step_of link_map old ≡ Some (i, new) → passes_ahead link_map old ≡ i ∷ passes_ahead link_map new
step_ahead link_map old new i is = steps_pass link_map old ∙ ap (walk_of_step link_map) is

pub first_ahead : (link_map : LinkMap) (w : Walker) (Holds : ℕ → Type 0) → IfSome (step_of link_map w) (λ step. Holds step.0) → (i : ℕ) (rest : List ℕ) → passes_ahead link_map w ≡ i ∷ rest → Holds i
first_ahead link_map w Holds holds i rest is = by (step_of link_map w) holds (sym (steps_pass link_map w) ∙ is)
  where
    by : (o : Option (ℕ × Walker)) → IfSome o (λ step. Holds step.0) → walk_of_step link_map o ≡ i ∷ rest → Holds i
    by None holds same = absurd (let h = same in cc)
    by (Some step) holds same = let first : step.0 ≡ i = let h = ap (λ (l : List ℕ). first_or l None) same in cc in subst Holds first holds

abbrev steps_left : Option (ℕ × Walker) → ℕ
steps_left None = zero
steps_left (Some step) = suc step.1.left

left_from : (link_map : LinkMap) (left start : ℕ) (forward back : Option ℕ) (i : ℕ) (new : Walker) → next_step left link_map start forward back ≡ Some (i, new) → left ≡ suc new.left
left_from link_map zero start forward back i new is = absurd (let h = is in cc)
left_from link_map (suc left) start (Some j) back i new is = ap steps_left is
left_from link_map (suc left) start None (Some k) i new is = ap steps_left is
left_from link_map (suc left) start None None i new is = absurd (let h = is in cc)

pub step_left : (link_map : LinkMap) (old new : Walker) (i : ℕ) → step_of link_map old ≡ Some (i, new) → old.left ≡ suc new.left
step_left link_map old new i is = left_from link_map old.left old.start old.forward old.back i new is
