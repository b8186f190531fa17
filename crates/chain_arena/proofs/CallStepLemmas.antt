-- Each call is a step.
use Rattle.std.proofs.Common.{◌≡◌, ℕ, ◌≤◌, List, length, min, Option, Result, Ok, Err, OnErr, sym, ap, ap₂, ◌∙◌, inr, subst}
use Rattle.std.specs.Prelude.{IfOk}
use Rattle.arena_core.specs.PointerKinds.{PointerKind}
use Rattle.arena_core.specs.declared.errors.ReallocationError.{ReallocationError}
use Rattle.chain_laws.specs.Chains.{LinkMap}
use Rattle.chain_laws.specs.Walks.{IsWalk, TakesWalk}
use Rattle.chain_laws.proofs.WalkLemmas.Drains.{walk_is_taken}
use Rattle.arena_traits.specs.Arena.{IsValid, HasCapacityFor, with_capacity_of}
use Rattle.arena_traits.specs.Growth.{Reserves}
use Rattle.chain_links.specs.ChainArena.{link_map, value_view, entry}
use Rattle.chain_laws.specs.declared.insert_kind.InsertKind.{InsertKind}
use Rattle.chain_arena.specs.Drains.{walk_left, without_each}
use Rattle.chain_arena.specs.Effects.{Links, IsDrained}
use Rattle.chain_arena.specs.NewLinks.{IsNewLink}
use Rattle.chain_arena.specs.Steps.{IsNewLinkAnyhow, ReserveStep}
use Rattle.chain_arena.proofs.ChainDrainLemmas.{link_map-without_each}

module _ {Gen T : Type 0} where
  pub drained_is : (following : Gen → Gen) (old held new : Links Gen T) (p : ℕ × Gen) (at take count : ℕ) → held ≡ old → at ≡ p.0 → IsValid (entry old) p → IsWalk (link_map old) p.0 (walk_left old p.0)
      → count ≡ min take (length (walk_left held at)) → new ≡ without_each following held (walk_left held at) → IsDrained following old p take count new
  drained_is following old held new p at take count same was_stored valid is_walk counted gone =
      let walk : List ℕ = walk_left old p.0 in
      let walks : walk_left held at ≡ walk = ap₂ walk_left same was_stored in
      let state : new ≡ without_each following old walk = gone ∙ ap₂ (without_each following) same walks in
      record {
        valid = valid;
        walk = walk;
        is_walk = is_walk;
        counted = counted ∙ ap (λ (w : List ℕ). min take (length w)) walks;
        state = state;
        chains = subst (λ (s : LinkMap). TakesWalk (link_map old) s walk) (sym (ap (λ (x : Links Gen T). link_map x) state ∙ link_map-without_each following old walk)) (walk_is_taken (link_map old) p.0 walk is_walk);
      }

module _ {P I Gen W T : Type 0} (pointers : PointerKind P I Gen W) where
  pub inserted_anyhow : {X : Type 0} (may_reach : ℕ → Option ℕ → ℕ → ℕ → Type 0) (old new : Links Gen T) (kind : InsertKind P I) (t : T) (r : Result P X)
      → IfOk r (IsNewLink pointers may_reach old kind t new) → IfOk r (IsNewLinkAnyhow pointers old kind t new)
  inserted_anyhow may_reach old new kind t (Ok p) known = record {
    pointer = known.pointer;
    state = known.state;
    state_within_capacity = known.state_within_capacity;
    grown = record { capacity = known.grown.capacity; reached = inr tt };
  }
  inserted_anyhow may_reach old new kind t (Err e) known = tt

  pub reserves : (n : ℕ) (old new : Links Gen T) (r : Result Unit ReallocationError) → Reserves pointers.greatest n (value_view old) r (value_view new) → (n ≤ old.capacity → new ≡ old)
      → OnErr r (new ≡ old) → new ≡ with_capacity_of old new → HasCapacityFor pointers.greatest (length new.slots) new → ReserveStep pointers old n r new
  reserves n old new (Ok done) outcome enough err state held =
      (outcome, tt, record { state = state; enough = enough; grown = λ _. (outcome.1.0, held.1, held.2) })
  reserves n old new (Err why) outcome enough err state held = (outcome, err, tt)
