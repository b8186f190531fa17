-- Generic code on arenas of links: links exist exactly at the entries.
use Rattle.std.proofs.Common.{◌≡◌, ℕ, suc, ◌+◌, ◌≤◌, ◌<◌, List, [], ◌∷◌, length, map, Bool, true, false, Option, None, Some, refl, sym, ap, ◌∙◌, subst, inl, inr, arith, le_refl}
use Rattle.std.specs.Prelude.{is_some, cond, All, ◌==◌}
use Rattle.std.specs.List.{AllByRecursion}
use Rattle.std.proofs.lemmas.List.{length-map}
use Rattle.std.proofs.lemmas.List.Elements.{recursion_from_All}
use Rattle.std.proofs.lemmas.Bool.{eqb-true, eq-eqb, le-leb}
use Rattle.arena_core.specs.Numbers.{IsWithin}
use Rattle.chain_laws.specs.Chains as chains
use Rattle.chain_laws.specs.Chains.{LinkMap, Interlinks, IsWellLinked, IsMember}
use Rattle.chain_laws.specs.ChainStart.{IsBack}
use Rattle.chain_laws.proofs.WalkLemmas.WalkBack.{back_is_short}
use Rattle.arena_traits.specs.Arena.{IsValid}
use Rattle.arena_traits.specs.Entries.{found, first_key, index_of, AscendsFrom}
use Rattle.arena_traits.specs.Advancers.{entries_at_or_above, IsAdvance}
use Rattle.arena_traits.specs.declared.cursor.Cursor.{Cursor}
use Rattle.arena_traits.specs.declared.cursor.Cursor.TheVariants.{Up}
use Rattle.chain_links.proofs.OccupiedIndexLemmas.{found_has}

module _ {Gen T : Type 0} where
  pub entries_at_or_above-ascends : (i j : ℕ) (es : List ((ℕ × Gen) × T)) → i ≤ j → AscendsFrom j es → entries_at_or_above i es ≡ es
  entries_at_or_above-ascends i j [] below ascends = refl
  entries_at_or_above-ascends i j (e ∷ es) below ascends = ap (λ b. cond b (e ∷ es) (entries_at_or_above i es)) (le-leb i e.0.0 (omega (arith, below, ascends.0)))

  pub has_within : (greatest i : ℕ) (es : List ((ℕ × Gen) × T)) → AllByRecursion (λ e. IsWithin greatest (index_of e)) es → IsMember (map index_of es) i → IsWithin greatest i
  has_within greatest i [] within has = absurd has
  has_within greatest i (e ∷ es) within (inl same) = subst (IsWithin greatest) same within.0
  has_within greatest i (e ∷ es) within (inr has) = has_within greatest i es within.1 has

  pub found_from : (from j : ℕ) (es : List ((ℕ × Gen) × T)) → AscendsFrom from es → is_some (found j es) ≡ true → from ≤ j
  found_from from j [] ascends some = absurd (let h = some in cc)
  found_from from j (e ∷ es) ascends some = by (e.0.0 == j) refl some (found_from (suc e.0.0) j es ascends.1) where
    by : (b : Bool) → (e.0.0 == j) ≡ b → is_some (cond b (Some (e.0.1, e.1)) (found j es)) ≡ true → (is_some (found j es) ≡ true → suc e.0.0 ≤ j) → from ≤ j
    by true same some rest = omega (arith, ascends.0, eqb-true e.0.0 j same)
    by false other some rest = omega (arith, ascends.0, rest some)

  pub record IsLeast (es : List ((ℕ × Gen) × T)) (i : ℕ) : Type 0 where
    pub stored : is_some (found i es) ≡ true
    pub low : (j : ℕ) → is_some (found j es) ≡ true → i ≤ j

  first_least : (from : ℕ) (p : ℕ × Gen) (es : List ((ℕ × Gen) × T)) → AscendsFrom from es → Some p ≡ first_key es → IsLeast es p.0
  first_least from p [] ascends first = absurd (cc)
  first_least from p (e ∷ es) ascends first =
      let same : p ≡ e.0 = cc in
      subst (λ (q : ℕ × Gen). IsLeast (e ∷ es) q.0) (sym same) (record {
        stored = ap (λ b. is_some (cond b (Some (e.0.1, e.1)) (found e.0.0 es))) (eq-eqb e.0.0 e.0.0 refl);
        low = λ j some. found_from e.0.0 j (e ∷ es) (le_refl e.0.0, ascends.1) some;
      })

  pub next_is : (es : List ((ℕ × Gen) × T)) (lookup after : Cursor) (from : ℕ) (p : ℕ × Gen) → lookup ≡ Up from → AscendsFrom from es → IsAdvance es lookup (Some p) after
      → IsLeast es p.0 × (after ≡ Up (p.0 + 1))
  next_is es lookup after from p up ascends given =
      let at = subst (λ (l : Cursor). IsAdvance es l (Some p) after) up given in
      (first_least from p es ascends (at.first ∙ ap first_key (entries_at_or_above-ascends from from es (le_refl from) ascends)), at.moves)

  no_first : (es : List ((ℕ × Gen) × T)) → None ≡ first_key es → es ≡ []
  no_first [] none = refl
  no_first (e ∷ es) none = cc

  pub none_is : (es : List ((ℕ × Gen) × T)) (lookup after : Cursor) (from : ℕ) → lookup ≡ Up from → AscendsFrom from es → IsAdvance es lookup None after → es ≡ []
  none_is es lookup after from up ascends given =
      let at = subst (λ (l : Cursor). IsAdvance es l None after) up given in
      no_first es (at.first ∙ ap first_key (entries_at_or_above-ascends from from es (le_refl from) ascends))

module _ {Gen T : Type 0} (interlinks : LinkMap) (entry : ℕ → Option (Gen × T)) (es : List ((ℕ × Gen) × T)) (stored : (i : ℕ) → is_some (interlinks i) ≡ is_some (entry i))
    (was_read : (i : ℕ) → found i es ≡ entry i) where
  pub valid_some : (i : ℕ) → chains.HasLink interlinks i → is_some (entry i) ≡ true
  valid_some i valid = sym (stored i) ∙ ap is_some valid.links

  pub valid_has : (i : ℕ) → chains.HasLink interlinks i → IsMember (map index_of es) i
  valid_has i valid = found_has i es (ap is_some (was_read i) ∙ valid_some i valid)

  pub some_valid : (i : ℕ) → is_some (entry i) ≡ true → chains.HasLink interlinks i
  some_valid i there = by (interlinks i) refl (stored i ∙ there) where
    by : (o : Option Interlinks) → interlinks i ≡ o → is_some (interlinks i) ≡ true → chains.HasLink interlinks i
    by None is some = absurd (let none = ap is_some is in let both = sym some ∙ none in cc)
    by (Some link) is some = record { link = link; links = is }

  pub entry_valid : (i : ℕ) (e : Gen × T) → entry i ≡ Some e → chains.HasLink interlinks i
  entry_valid i e there = some_valid i (ap is_some there)

  pub valid_link : (p : ℕ × Gen) → IsValid entry p → chains.HasLink interlinks p.0
  valid_link p valid = entry_valid p.0 (p.1, valid.value) valid.stored

  module _ (greatest : ℕ) (within : All (λ e. IsWithin greatest (index_of e)) es) where
    pub links_within : chains.HasLinksWithin interlinks greatest
    links_within = record { within = λ j v. has_within greatest j es (recursion_from_All _ es within) (valid_has j v) }

    pub few_back : (i steps here : ℕ) → IsWellLinked interlinks → is_some (entry i) ≡ true → IsBack interlinks i steps here → steps < length es
    few_back i steps here agrees there back =
        subst (λ n. steps < n) (length-map es index_of) (back_is_short interlinks greatest i steps here (map index_of es) agrees links_within (some_valid i there) valid_has back)
