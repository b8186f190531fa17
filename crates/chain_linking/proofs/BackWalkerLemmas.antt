-- Walkers backwards.
use Rattle.std.specs.Prelude.{◌≡◌, ℕ, zero, suc, ◌<◌, ◌≤◌, eqb, Bool, true, false, if◌then◌else◌, List, [], ◌∷◌, reverse, length, Option, None, Some, IfSome}
use Rattle.std.proofs.Common.{refl, ap, sym, ◌∙◌, subst, inl, inr, arith, length-append}
use Rattle.chain_laws.specs.Chains.{LinkMap, IsWellLinked, HasLink, HasLinksWithin, IsMember, AreLinked, prev_in, next_in, next_of, last_or}
use Rattle.chain_laws.specs.Walks.{IsWalk, of_linear, of_cyclic, step_forward}
use Rattle.chain_laws.specs.WalksBack.{end_from, end_of, step_to}
use Rattle.chain_laws.proofs.ChainLemmas.LinkedLists.{AreLinked-right}
use Rattle.chain_laws.proofs.InterlinkLemmas.Inverses.{if_same, one_some}
use Rattle.chain_laws.proofs.ListLemmas.Members.{AreDistinct-right}
use Rattle.chain_laws.proofs.WalkLemmas.Members.{has_walk, walk_bound}
use Rattle.chain_laws.proofs.WalkLemmas.Walker.{step_forward-other}
use Rattle.std.specs.Option.{option_map}
use Rattle.arena_traits.specs.Arena.{Arena, entry_at}
use Rattle.chain_links.specs.ChainArena.{LinkView, link_map, interlinks_of}
use Rattle.chain_links.specs.Walkers.{end_in}
use Rattle.chain_links.proofs.ArenaInsertionLemmas.{link_map-within}
use Rattle.chain_linking.specs.Iterators.{IsOnLinksBack}
use Rattle.chain_linking.proofs.NeighborLemmas.{next_named, prev_named}

module _ (link_map : LinkMap) (start : ℕ) where
  abbrev on_from : ℕ → Option ℕ
  on_from at = step_forward start (next_of link_map at)

  -- After n steps on from `at`, `end` is the last link.
  abbrev pub StepsTo : ℕ → ℕ → ℕ → Type 0
  StepsTo end zero at = (on_from at ≡ None) × (at ≡ end)
  StepsTo end (suc n) at = (k : ℕ) × (on_from at ≡ Some k) × StepsTo end n k

  -- The number of steps on, at most `limit`.
  abbrev pub steps_on : ℕ → ℕ → ℕ
  steps_on zero at = zero
  steps_on (suc limit) at = elim (on_from at) [ None ↦ zero | Some k ↦ suc (steps_on limit k) ]

  counted : (end n at limit : ℕ) → StepsTo end n at → n ≤ limit → steps_on limit at ≡ n
  counted end zero at zero steps few = refl
  counted end zero at (suc limit) steps few = ap (λ (o : Option ℕ). let s : ℕ = elim o [ None ↦ zero | Some k ↦ suc (steps_on limit k) ] in s) steps.0
  counted end (suc n) at zero steps few = absurd (omega arith)
  counted end (suc n) at (suc limit) steps few =
      ap (λ (o : Option ℕ). let s : ℕ = elim o [ None ↦ zero | Some k ↦ suc (steps_on limit k) ] in s) steps.1
      ∙ ap suc (counted end n steps.0 limit steps.2 (omega arith))

  end_found : (end n at limit : ℕ) → StepsTo end n at → n ≤ limit → end_from limit link_map start at ≡ end
  end_found end zero at zero steps few = steps.1
  end_found end zero at (suc limit) steps few = ap (λ (o : Option ℕ). let s : ℕ = elim o [ None ↦ at | Some k ↦ end_from limit link_map start k ] in s) steps.0 ∙ steps.1
  end_found end (suc n) at zero steps few = absurd (omega arith)
  end_found end (suc n) at (suc limit) steps few =
      ap (λ (o : Option ℕ). let s : ℕ = elim o [ None ↦ at | Some k ↦ end_from limit link_map start k ] in s) steps.1
      ∙ end_found end n steps.0 limit steps.2 (omega arith)

  abbrev last_item : List ℕ → ℕ → ℕ
  last_item [] y = y
  last_item (x ∷ xs) y = last_item xs x

  steps_along : (before on : Option ℕ) (y : ℕ) (ys : List ℕ) → AreLinked link_map before (y ∷ ys) on → step_forward start on ≡ None → (IsMember ys start → ⊥) → StepsTo (last_item ys y) (length ys) y
  steps_along before on y [] stored ends none = (ap (λ o. step_forward start (next_in o)) stored.0 ∙ ends, refl)
  steps_along before on y (k ∷ ks) stored ends none =
      (k, ap (λ o. step_forward start (next_in o)) stored.0 ∙ step_forward-other start k (λ e. none (inl e)), steps_along (Some y) on k ks stored.1 ends (λ h. none (inr h)))

  -- The end is found from a link on the way to it.
  pub record IsOnToEnd (slots at : ℕ) : Type 0 where
    pub steps : ℕ
    pub few : steps ≤ slots
    pub on : StepsTo (end_of slots link_map start) steps at

  begins_from : (slots : ℕ) (end n : ℕ) → StepsTo end n start → n ≤ slots → IsOnToEnd slots start
  begins_from slots end n on few = record {
    steps = n;
    few = few;
    on = subst (λ (e : ℕ). StepsTo e n start) (sym (end_found end n start slots on few)) on;
  }

  begins_by : (slots : ℕ) (walk : List ℕ) → IsWalk link_map start walk → length walk ≤ slots → IsOnToEnd slots start
  begins_by slots _ (of_linear before after chain) short =
      let long = length-append after (reverse before) in
      begins_from slots (last_item after start) (length after)
      (steps_along (last_or before None) None start after (AreLinked-right link_map None before (start ∷ after) None chain.2) refl (AreDistinct-right before (start ∷ after) chain.1).0)
      (omega (arith, short, long))
  begins_by slots _ (of_cyclic after chain) short =
      begins_from slots (last_item after start) (length after)
      (steps_along (last_or after (Some start)) (Some start) start after chain.2 (if_same start start None (Some start) refl) chain.1.0)
      (omega (arith, short))

  pub on_begins : (slots : ℕ) → IsWellLinked link_map → HasLinksWithin link_map slots → HasLink link_map start → IsOnToEnd slots start
  on_begins slots agrees within valid =
      let walk = has_walk link_map slots start agrees within valid in
      begins_by slots walk.0 walk.1 (walk_bound link_map slots start walk.0 within walk.1)

  pub on_continues : (slots at k : ℕ) → IsOnToEnd slots at → Some k ≡ on_from at → IsOnToEnd slots k × (steps_on slots k < steps_on slots at)
  on_continues slots at k is next = by is.steps is.few is.on
    where
      by : (n : ℕ) → n ≤ slots → StepsTo (end_of slots link_map start) n at → IsOnToEnd slots k × (steps_on slots k < steps_on slots at)
      by zero few on = absurd (let h = next in let g = on.0 in cc)
      by (suc n) few on =
          let same : on.0 ≡ k = one_some (sym on.1 ∙ sym next) in
          let more : StepsTo (end_of slots link_map start) n k = subst (StepsTo (end_of slots link_map start) n) same on.2 in
          let then_left = counted (end_of slots link_map start) n k slots more (omega (arith, few)) in
          let now_left = counted (end_of slots link_map start) (suc n) at slots on few in
          (record { steps = n; few = omega (arith, few); on = more }, omega (arith, then_left, now_left))

  pub on_ends : (slots at : ℕ) → IsOnToEnd slots at → None ≡ on_from at → at ≡ end_of slots link_map start
  on_ends slots at is next = by is.steps is.on
    where
      by : (n : ℕ) → StepsTo (end_of slots link_map start) n at → at ≡ end_of slots link_map start
      by zero on = on.1
      by (suc n) on = absurd (let h = next in let g = on.1 in cc)

  unless_start : (P : ℕ → Type 0) (o : Option ℕ) → IfSome o P → IfSome (step_forward start o) P
  unless_start P None holds = tt
  unless_start P (Some k) holds = by (eqb k start)
    where
      by : (b : Bool) → IfSome (let o : Option ℕ = if b then None else Some k in o) P
      by true = tt
      by false = holds

  module _ (agrees : IsWellLinked link_map) where
    end_valid : (limit at : ℕ) → HasLink link_map at → HasLink link_map (end_from limit link_map start at)
    end_valid zero at valid = valid
    end_valid (suc limit) at valid = by (on_from at) (unless_start (HasLink link_map) (next_of link_map at) (next_named link_map at agrees)) (end_valid limit)
      where
        by : (o : Option ℕ) → IfSome o (HasLink link_map) → ((k : ℕ) → HasLink link_map k → HasLink link_map (end_from limit link_map start k))
            → HasLink link_map (let e : ℕ = elim o [ None ↦ at | Some k ↦ end_from limit link_map start k ] in e)
        by None holds more = valid
        by (Some k) holds more = more k holds

    step_valid : (end : ℕ) (prev : Option ℕ) → HasLink link_map end → IfSome prev (HasLink link_map) → IfSome (step_to start end prev) (HasLink link_map)
    step_valid end None valid named = unless_start (HasLink link_map) (Some end) valid
    step_valid end (Some k) valid named = unless_start (HasLink link_map) (Some k) named

module _ {Gen T : Type 0} (a : Arena Gen (LinkView T)) where
  pub way_to_end : (start : ℕ) → IsWellLinked (link_map a) → HasLink (link_map a) start → IsOnToEnd (link_map a) start (length a.slots) start
  way_to_end start agrees valid = on_begins (link_map a) start (length a.slots) agrees (link_map-within a) valid

  pub back_stored : (start i : ℕ) (e : Gen × LinkView T) (prev at : Option ℕ) → entry_at a i ≡ Some e → prev ≡ e.1.prev → at ≡ step_to start (end_in a start) prev → IsWellLinked (link_map a) → HasLink (link_map a) start
      → IsOnLinksBack (link_map a) start at
  back_stored start i e prev at stored named goes agrees began = record {
    agrees = agrees;
    began = began;
    onward = subst (λ (o : Option ℕ). IfSome o (HasLink (link_map a))) (sym goes)
        (step_valid (link_map a) start agrees (end_in a start) prev (end_valid (link_map a) start agrees (length a.slots) start began)
        (subst (λ (o : Option ℕ). IfSome o (HasLink (link_map a))) (ap (λ (o : Option (Gen × LinkView T)). prev_in (option_map interlinks_of o)) stored ∙ sym named) (prev_named (link_map a) i agrees)));
  }
