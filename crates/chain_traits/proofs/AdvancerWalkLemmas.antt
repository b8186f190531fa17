-- Advancers along a chain pass the walk, in an arena that stays the same.
use Rattle.std.proofs.Common.{◌≡◌, ℕ, ◌≤◌, List, [], ◌∷◌, ◌++◌, length, map, Option, None, Some, refl, sym, ap, ◌∙◌, subst, inl}
use Rattle.std.specs.Prelude.{is_some, All}
use Rattle.std.proofs.lemmas.List.{length-map, append-nil}
use Rattle.std.proofs.lemmas.List.Elements.{All-append, All-cons, All-nil}
use Rattle.arena_core.specs.Numbers.{IsWithin}
use Rattle.chain_laws.specs.Chains as chains
use Rattle.chain_laws.specs.Chains.{LinkMap, IsWellLinked, prev_of}
use Rattle.chain_laws.specs.Walks.{Walker, IsWalk, walk_ahead, passes_ahead, step_of}
use Rattle.chain_laws.proofs.ListLemmas.Members.{IsMember-right}
use Rattle.chain_laws.proofs.WalkLemmas.Members.{has_walk, walk_valid, walk_once}
use Rattle.chain_laws.proofs.WalkLemmas.Steps.{step_ahead}
use Rattle.chain_laws.proofs.WalkLemmas.Walker.{walk_passed}
use Rattle.arena_traits.specs.Entries.{found, index_of}
use Rattle.chain_laws.proofs.WalkLemmas.WalkBack.{length_among}
use Rattle.chain_traits.proofs.GenericArenaLemmas.{valid_some, valid_has, links_within}

module _ {Gen T : Type 0} (interlinks : LinkMap) (entry : ℕ → Option (Gen × T)) (es : List ((ℕ × Gen) × T)) (stored : (i : ℕ) → is_some (interlinks i) ≡ is_some (entry i))
    (was_read : (i : ℕ) → found i es ≡ entry i) where
  pub passes_walk : (greatest i : ℕ) → IsWellLinked interlinks → All (λ e. IsWithin greatest (index_of e)) es → chains.HasLink interlinks i
      → IsWalk interlinks i (walk_ahead (length es) interlinks i (Some i) (prev_of interlinks i))
  passes_walk greatest i agrees within valid =
      let inside = links_within interlinks entry es stored was_read greatest within in
      let walk = has_walk interlinks greatest i agrees inside valid in
      let enough = subst (λ n. length walk.0 ≤ n) (length-map es index_of) (length_among walk.0 (map index_of es) (walk_once interlinks i walk.0 walk.1) (λ j has. valid_has interlinks entry es stored was_read j (walk_valid interlinks i walk.0 walk.1 j has))) in
      subst (IsWalk interlinks i) (sym (walk_passed (length es) interlinks i walk.0 walk.1 enough)) walk.1

  pub walk_whole : (i : ℕ) (passed left : List ℕ) → IsWalk interlinks i (passed ++ left) → ((j : ℕ) (rest : List ℕ) → left ≡ j ∷ rest → entry j ≡ None) → IsWalk interlinks i passed
  walk_whole i passed [] walk none = subst (IsWalk interlinks i) (append-nil passed) walk
  walk_whole i passed (j ∷ rest) walk none =
      let valid = walk_valid interlinks i (passed ++ j ∷ rest) walk j (IsMember-right passed (j ∷ rest) j (inl refl)) in
      absurd (let some = valid_some interlinks entry es stored was_read j valid in let no = none j rest refl in let both = sym some ∙ ap is_some no in cc)

passed_last : {Q : Type 0} (name : Q → ℕ) (all : List Q) (q : Q) (ahead : List ℕ) → map name (all ++ q ∷ []) ++ ahead ≡ map name all ++ name q ∷ ahead
passed_last name [] q ahead = refl
passed_last name (x ∷ all) q ahead = ap (λ l. name x ∷ l) (passed_last name all q ahead)

pub passed_on : {Q : Type 0} (name : Q → ℕ) (links : LinkMap) (old new : Walker) (all after : List Q) (q : Q) (whole : List ℕ) → map name all ++ passes_ahead links old ≡ whole → after ≡ all ++ q ∷ []
    → step_of links old ≡ Some (name q, new) → map name after ++ passes_ahead links new ≡ whole
passed_on name links old new all after q whole before is step =
    ap (λ l. map name l ++ passes_ahead links new) is ∙ (passed_last name all q (passes_ahead links new) ∙ (ap (λ l. map name all ++ l) (sym (step_ahead links old new (name q) step)) ∙ before))

pub all_with_last : {Q : Type 0} (P : Q → Type 0) (all after : List Q) (q : Q) → All P all → after ≡ all ++ q ∷ [] → P q → All P after
all_with_last P all after q holds is last = subst (All P) (sym is) (All-append P all (q ∷ []) holds (All-cons P q [] last (All-nil P)))
