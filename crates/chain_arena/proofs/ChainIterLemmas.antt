-- A walker passes the walk, link by link.
use Rattle.std.proofs.Common.{◌≡◌, ℕ, zero, suc, ◌+◌, ◌≤◌, List, [], ◌∷◌, length, map, Option, None, Some, refl, ap, sym, ◌∙◌, subst, arith, inl, inr}
use Rattle.std.specs.Prelude.{slice_index_or, is_some, count_by, cond}
use Rattle.std.specs.List.{AllByRecursion}
use Rattle.std.proofs.lemmas.List.{length-map}
use Rattle.std.proofs.lemmas.List.Sums.{sum_by-cons}
use Rattle.std.proofs.lemmas.List.Elements.{All-from_recursion}
use Rattle.chain_laws.specs.Chains.{IsWellLinked, HasLink, IsMember, AreDistinct, prev_of}
use Rattle.chain_laws.specs.Walks.{IsWalk}
use Rattle.chain_laws.specs.WalksBack.{IsWalkBack, back_ahead}
use Rattle.chain_laws.proofs.WalkLemmas.WalkBack.{length_among}
use Rattle.chain_laws.proofs.WalkLemmas.Members.{has_walk, walk_valid, walk_once}
use Rattle.chain_laws.proofs.WalkLemmas.Walker.{walk_passed}
use Rattle.chain_laws.proofs.WalkLemmas.Backward.{back_bound, back_once, back_passed, back_valid, has_walk_back}
use Rattle.arena_traits.specs.Arena.{Arena, entry_at, entry_count}
use Rattle.chain_links.specs.ChainArena.{LinkView, interlinks_of, link_map, IsWalkOf, IsWalkBackOf}
use Rattle.chain_links.specs.Walkers.{end_in, links_at, links_ahead, links_back_ahead}
use Rattle.chain_links.proofs.ArenaInsertionLemmas.{link_map-within, some_entry}

abbrev taken : {X : Type 0} → ℕ → List (Option X) → List ℕ
taken k [] = []
taken k (None ∷ slots) = taken (suc k) slots
taken k (Some e ∷ slots) = k ∷ taken (suc k) slots

length-taken : {X : Type 0} (k : ℕ) (slots : List (Option X)) → length (taken k slots) ≡ count_by is_some slots
length-taken k [] = refl
length-taken {X} k (None ∷ slots) = let rest = length-taken (suc k) slots in let step = sum_by-cons (λ (o : Option X). cond (is_some o) 1 0) None slots in omega (arith, rest, step)
length-taken {X} k (Some e ∷ slots) = let rest = length-taken (suc k) slots in let step = sum_by-cons (λ (o : Option X). cond (is_some o) 1 0) (Some e) slots in omega (arith, rest, step)

IsMember-taken : {X : Type 0} (k x j : ℕ) (slots : List (Option X)) (e : X) → x ≡ k + j → slice_index_or slots j None ≡ Some e → IsMember (taken k slots) x
IsMember-taken k x j [] e at stored = absurd (let h = stored in cc)
IsMember-taken k x zero (None ∷ slots) e at stored = absurd (let h = stored in cc)
IsMember-taken k x zero (Some f ∷ slots) e at stored = inl (omega (arith, at))
IsMember-taken k x (suc j) (None ∷ slots) e at stored = IsMember-taken (suc k) x j slots e (omega (arith, at)) stored
IsMember-taken k x (suc j) (Some f ∷ slots) e at stored = inr (IsMember-taken (suc k) x j slots e (omega (arith, at)) stored)

module _ {Gen T : Type 0} where
  pub length-le_entries : (a : Arena Gen (LinkView T)) (xs : List ℕ) → AreDistinct xs → ((x : ℕ) → IsMember xs x → HasLink (link_map a) x) → length xs ≤ entry_count a
  length-le_entries a xs once valid = subst (λ n. length xs ≤ n) (length-taken 1 a.slots) (length_among xs (taken 1 a.slots) once (λ x has. place x (valid x has))) where
    place : (x : ℕ) → HasLink (link_map a) x → IsMember (taken 1 a.slots) x
    place zero valid_at = absurd (let h = valid_at.links in cc)
    place (suc j) valid_at = let entry = some_entry interlinks_of (slice_index_or a.slots j None) valid_at.link valid_at.links in IsMember-taken 1 (suc j) j a.slots entry.0 (omega arith) entry.1

  links_at-entry : (a : Arena Gen (LinkView T)) (i : ℕ) (indexes : List ℕ) (e : Gen × LinkView T) → entry_at a i ≡ Some e → links_at a (i ∷ indexes) ≡ (i, e) ∷ links_at a indexes
  links_at-entry a i indexes e stored = ap (λ (o : Option (Gen × LinkView T)). let links : List (ℕ × (Gen × LinkView T)) = elim o [ None ↦ [] | Some f ↦ (i, f) ∷ links_at a indexes ] in links) stored

  index-links_at : (a : Arena Gen (LinkView T)) (indexes : List ℕ) → ((j : ℕ) → IsMember indexes j → HasLink (link_map a) j) → map (λ (e : ℕ × (Gen × LinkView T)). e.0) (links_at a indexes) ≡ indexes
  index-links_at a [] valid = refl
  index-links_at a (i ∷ indexes) valid =
      let here = valid i (inl refl) in
      let entry = some_entry interlinks_of (entry_at a i) here.link here.links in
      ap (map (λ (e : ℕ × (Gen × LinkView T)). e.0)) (links_at-entry a i indexes entry.0 entry.1) ∙ ap (λ l. i ∷ l) (index-links_at a indexes (λ j has. valid j (inr has)))

  abbrev StoredAs : Arena Gen (LinkView T) → ℕ × (Gen × LinkView T) → Type 0
  StoredAs a e = entry_at a e.0 ≡ Some e.1

  links_at-are_stored : (a : Arena Gen (LinkView T)) (indexes : List ℕ) → AllByRecursion (StoredAs a) (links_at a indexes)
  links_at-are_stored a [] = tt
  links_at-are_stored a (i ∷ indexes) = by (links_at-are_stored a indexes) (entry_at a i) refl where
    by : AllByRecursion (StoredAs a) (links_at a indexes) → (o : Option (Gen × LinkView T)) → entry_at a i ≡ o
        → AllByRecursion (StoredAs a) (let links : List (ℕ × (Gen × LinkView T)) = elim o [ None ↦ [] | Some e ↦ (i, e) ∷ links_at a indexes ] in links)
    by rest None stored = tt
    by rest (Some e) stored = (stored, rest)

  pub links_ahead-walk : (a : Arena Gen (LinkView T)) (i : ℕ) → IsWellLinked (link_map a) → HasLink (link_map a) i → IsWalkOf a i (links_ahead a (entry_count a) i (Some i) (prev_of (link_map a) i))
  links_ahead-walk a i agrees valid =
      let walk = has_walk (link_map a) (length a.slots) i agrees (link_map-within a) valid in
      let each = walk_valid (link_map a) i walk.0 walk.1 in
      let passed = walk_passed (entry_count a) (link_map a) i walk.0 walk.1 (length-le_entries a walk.0 (walk_once (link_map a) i walk.0 walk.1) each) in
      subst (λ (w : List ℕ). IsWalkOf a i (links_at a w)) (sym passed) (record {
        walk = subst (IsWalk (link_map a) i) (sym (index-links_at a walk.0 each)) walk.1;
        stored = All-from_recursion (StoredAs a) (links_at a walk.0) (links_at-are_stored a walk.0);
      })

  pub length-walk : (a : Arena Gen (LinkView T)) (i : ℕ) (links : List (ℕ × (Gen × LinkView T))) → IsWalkOf a i links → length links ≤ entry_count a
  length-walk a i links is = subst (λ n. n ≤ entry_count a) (length-map links (λ (e : ℕ × (Gen × LinkView T)). e.0))
      (length-le_entries a (map (λ (e : ℕ × (Gen × LinkView T)). e.0) links) (walk_once (link_map a) i _ is.walk) (walk_valid (link_map a) i _ is.walk))

  pub walker-walk : (a : Arena Gen (LinkView T)) (i left start : ℕ) (back : Option ℕ) (links : List (ℕ × (Gen × LinkView T))) → links ≡ links_ahead a left start (Some start) back
      → left ≡ entry_count a → start ≡ i → back ≡ prev_of (link_map a) i → IsWellLinked (link_map a) → HasLink (link_map a) i → IsWalkOf a i links
  walker-walk a i left start back links are same_left same_start same_back agrees valid =
      subst (IsWalkOf a i) (sym (are
      ∙ (ap (λ n. links_ahead a n start (Some start) back) same_left
      ∙ (ap (λ s. links_ahead a (entry_count a) s (Some s) back) same_start
      ∙ ap (links_ahead a (entry_count a) i (Some i)) same_back)))) (links_ahead-walk a i agrees valid)

  links_back_ahead-walk : (a : Arena Gen (LinkView T)) (i : ℕ) → IsWellLinked (link_map a) → HasLink (link_map a) i → IsWalkBackOf a i (links_back_ahead a (entry_count a) i (Some i))
  links_back_ahead-walk a i agrees valid =
      let walk = has_walk_back (link_map a) (length a.slots) i agrees (link_map-within a) valid in
      let each = back_valid (link_map a) i walk.0 walk.1 in
      let passed = back_passed (entry_count a) (length a.slots) (link_map a) i walk.0 walk.1 (length-le_entries a walk.0 (back_once (link_map a) i walk.0 walk.1) each) (back_bound (link_map a) (length a.slots) i walk.0 (link_map-within a) walk.1) in
      subst (λ (w : List ℕ). IsWalkBackOf a i (links_at a w)) (sym passed) (record {
        walk = subst (IsWalkBack (link_map a) i) (sym (index-links_at a walk.0 each)) walk.1;
        stored = All-from_recursion (StoredAs a) (links_at a walk.0) (links_at-are_stored a walk.0);
      })

  pub back_ahead-walk : (a : Arena Gen (LinkView T)) (i : ℕ) → IsWellLinked (link_map a) → HasLink (link_map a) i → IsWalkBack (link_map a) i (back_ahead (entry_count a) (link_map a) i (end_in a i) (Some i))
  back_ahead-walk a i agrees valid =
      let walk = has_walk_back (link_map a) (length a.slots) i agrees (link_map-within a) valid in
      let each = back_valid (link_map a) i walk.0 walk.1 in
      let passed = back_passed (entry_count a) (length a.slots) (link_map a) i walk.0 walk.1 (length-le_entries a walk.0 (back_once (link_map a) i walk.0 walk.1) each) (back_bound (link_map a) (length a.slots) i walk.0 (link_map-within a) walk.1) in
      subst (IsWalkBack (link_map a) i) (sym passed) walk.1

  pub length-walk_back : (a : Arena Gen (LinkView T)) (i : ℕ) (links : List (ℕ × (Gen × LinkView T))) → IsWalkBackOf a i links → length links ≤ entry_count a
  length-walk_back a i links is = subst (λ n. n ≤ entry_count a) (length-map links (λ (e : ℕ × (Gen × LinkView T)). e.0))
      (length-le_entries a (map (λ (e : ℕ × (Gen × LinkView T)). e.0) links) (back_once (link_map a) i _ is.walk) (back_valid (link_map a) i _ is.walk))

  pub back_walker-walk : (a : Arena Gen (LinkView T)) (i left start : ℕ) (links : List (ℕ × (Gen × LinkView T))) → links ≡ links_back_ahead a left start (Some start) → left ≡ entry_count a → start ≡ i → IsWellLinked (link_map a)
      → HasLink (link_map a) i → IsWalkBackOf a i links
  back_walker-walk a i left start links are same_left same_start agrees valid =
      subst (IsWalkBackOf a i) (sym (are
      ∙ (ap (λ n. links_back_ahead a n start (Some start)) same_left
      ∙ ap (λ s. links_back_ahead a (entry_count a) s (Some s)) same_start))) (links_back_ahead-walk a i agrees valid)
