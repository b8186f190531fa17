-- Indexes with and without entries.
use Rattle.std.proofs.Common.{◌≡◌, ℕ, ◌≤◌, List, [], ◌∷◌, length, map, Bool, true, false, Option, None, Some, inl, inr, refl, ap, ◌∙◌, arith}
use Rattle.std.specs.Prelude.{is_some, cond, ◌==◌}
use Rattle.std.proofs.lemmas.Bool.{eqb-true}
use Rattle.std.proofs.lemmas.List.{length-map}
use Rattle.chain_laws.specs.Chains.{LinkMap, Interlinks, IsMember, AreDistinct}
use Rattle.chain_laws.proofs.WalkLemmas.WalkBack.{length_among}
use Rattle.arena_traits.specs.Entries.{ArenaView, ArenaState, count, found, index_of}

module _ {Gen T : Type 0} where
  pub found_has : (i : ℕ) (es : List ((ℕ × Gen) × T)) → is_some (found i es) ≡ true → IsMember (map index_of es) i
  found_has i [] some = absurd (let h = some in cc)
  found_has i (e ∷ es) some = by (e.0.0 == i) refl some (found_has i es) where
    by : (b : Bool) → (e.0.0 == i) ≡ b → is_some (cond b (Some (e.0.1, e.1)) (found i es)) ≡ true → (is_some (found i es) ≡ true → IsMember (map index_of es) i) → IsMember (map index_of (e ∷ es)) i
    by true same some rest = inl (eqb-true e.0.0 i same)
    by false other some rest = inr (rest some)

  pub unlinked : (entry : ℕ → Option (Gen × T)) (links : LinkMap) (i : ℕ) → is_some (links i) ≡ is_some (entry i) → entry i ≡ None → links i ≡ None
  unlinked entry links i alike free = by (links i) (alike ∙ ap is_some free)
    where
      by : (o : Option Interlinks) → is_some o ≡ false → o ≡ None
      by None none = refl
      by (Some link) none = absurd (cc)

pub occupied_fit : {A Gen T : Type 0} {view : A → ArenaView Gen T} {entry : A → ℕ → Option (Gen × T)} (state : (a : A) → ArenaState (view a) (entry a)) (a : A) (xs : List ℕ) → AreDistinct xs
    → ((i : ℕ) → IsMember xs i → is_some (entry a i) ≡ true) → length xs ≤ count (view a)
occupied_fit {view = view} state a xs once occupied =
    let es = (view a).entries in
    let few = length_among xs (map index_of es) once (λ i has. found_has i es (ap is_some ((state a).finds i) ∙ occupied i has)) in
    omega (arith, few, length-map es index_of)
