-- Walks back from several links in turn, and the starts that they find.
use Rattle.std.proofs.Common.{◌≡◌, ◌≢◌, ℕ, ◌+◌, ◌-◌, ◌<◌, ◌≤◌, ◌⊎◌, inl, inr, List, length, slice_index, slice_set, Option, Some, None, true, refl, sym, ap, ◌∙◌, subst, arith}
use Rattle.std.specs.Prelude.{replicate}
use Rattle.std.proofs.Math.Decide.{ℕ_discrete, dec_lt}
use Rattle.std.proofs.lemmas.List.{get_or-set_same, get_or-set_other, get_or-replicate, length-replicate}
use Rattle.std.proofs.Math.ListN.{get_or-eq_default}
use Rattle.chain_laws.specs.Chains.{LinkMap, prev_of}
use Rattle.chain_laws.specs.ChainStart.{IsBack, IsStart}
use Rattle.chain_laws.proofs.WalkLemmas.WalkBack.{back_begins, back_continues, back_ends, back_wraps_around}
use Rattle.arena_traits.specs.Arena.{slot_at}
use Rattle.chain_links.specs.declared.links.RawLink.{RawLink}
use Rattle.chain_compaction.specs.DetachedLinks.{link_map_in}
use Rattle.chain_compaction.specs.Destinations.{is_fresh}
use Rattle.chain_compaction.specs.FoundStarts.{AreStarts, IsFreshNear, AreFreshNear, IsWalkBack, AreWalksBack, AreStartsOfFresh}

pub zeros : (n d : ℕ) → slice_index (replicate n 0) d ≡ 0
zeros n d = by (dec_lt d n)
  where
    by : Dec (d < n) → slice_index (replicate n 0) d ≡ 0
    by (yes inside) = get_or-replicate n d 0 0 inside
    by (no behind) = get_or-eq_default (replicate n 0) 0 (omega (arith, length-replicate {A = ℕ} n 0, behind))

module _ {Gen K T : Type 0} (number : K → Option ℕ) (slots : List (Option (Gen × RawLink K T))) where
  pub walk_back_begins : (start : ℕ) → IsWalkBack number slots start start
  walk_back_begins start = (0, back_begins (link_map_in number slots) (start + 1))

  pub walk_back_continues : (start k p : ℕ) → IsWalkBack number slots start k → prev_of (link_map_in number slots) (k + 1) ≡ Some (p + 1) → p ≢ start → IsWalkBack number slots start p
  walk_back_continues start k p walk e differs = (walk.0 + 1, back_continues (link_map_in number slots) (start + 1) walk.0 (k + 1) (p + 1) walk.1 e (λ same. differs (omega (arith, same))))

  pub walk_back_wraps : (start k p : ℕ) → IsWalkBack number slots start k → prev_of (link_map_in number slots) (k + 1) ≡ Some (p + 1) → p ≡ start → IsStart (link_map_in number slots) (start + 1) (p + 1)
  walk_back_wraps start k p walk e same =
      subst (λ (n : ℕ). IsStart (link_map_in number slots) (start + 1) (n + 1)) (sym same)
      (back_wraps_around (link_map_in number slots) (start + 1) walk.0 (k + 1) walk.1 (e ∙ ap (λ (n : ℕ). Some (n + 1)) same))

  pub walk_back_ends : (start k : ℕ) → IsWalkBack number slots start k → prev_of (link_map_in number slots) (k + 1) ≡ None → IsStart (link_map_in number slots) (start + 1) (k + 1)
  walk_back_ends start k walk e = back_ends (link_map_in number slots) (start + 1) walk.0 (k + 1) walk.1 e

  pub starts_none : (first : ℕ) (starts : List ℕ) → ((d : ℕ) → slice_index starts d ≡ 0) → AreStartsOfFresh number slots first starts
  starts_none first starts none = (λ d some. absurd (some (none d)), λ d some. absurd (some (none d)))

  pub starts_more : (first k n : ℕ) (starts : List ℕ) → IsFreshNear number slots first k → IsStart (link_map_in number slots) (k + 1) n → length starts ≡ 64 → AreStartsOfFresh number slots first starts
      → AreStartsOfFresh number slots first (slice_set starts (k - first) n)
  starts_more first k n starts near start long found = (λ d some. (by d some (ℕ_discrete d (k - first))).0, λ d some. (by d some (ℕ_discrete d (k - first))).1)
    where
      inside : k - first < length starts
      inside = omega (arith, long, near.from, near.near)

      by : (d : ℕ) → slice_index (slice_set starts (k - first) n) d ≢ 0 → Dec (d ≡ k - first)
          → IsStart (link_map_in number slots) (first + d + 1) (slice_index (slice_set starts (k - first) n) d) × (is_fresh number (slot_at slots (first + d + 1)) ≡ true)
      by d some (yes same) =
          let at : k + 1 ≡ first + d + 1 = omega (arith, same, near.from) in
          let is : n ≡ slice_index (slice_set starts (k - first) n) d = sym (ap (λ (q : ℕ). slice_index (slice_set starts (k - first) n) q) same ∙ get_or-set_same starts (k - first) n 0 inside) in (
            subst (λ (j : ℕ). IsStart (link_map_in number slots) j (slice_index (slice_set starts (k - first) n) d)) at (subst (λ (m : ℕ). IsStart (link_map_in number slots) (k + 1) m) is start),
            ap (λ (j : ℕ). is_fresh number (slot_at slots j)) (sym at) ∙ near.fresh,
          )
      by d some (no differs) =
          let is : slice_index (slice_set starts (k - first) n) d ≡ slice_index starts d = get_or-set_other starts (k - first) d n 0 differs in
          let before : slice_index starts d ≢ 0 = λ none. some (is ∙ none) in
          (subst (λ (m : ℕ). IsStart (link_map_in number slots) (first + d + 1) m) (sym is) (found.0 d before), found.1 d before)

  module _ (greatest first : ℕ) where
    pub walks_begin : (links : List ℕ) (count : ℕ) → AreFreshNear number slots first links count → ((p : ℕ) → p < count → slice_index links p < greatest) → AreWalksBack number greatest slots first links links count
    walks_begin links count fresh below p few = (fresh p few, walk_back_begins (slice_index links p), below p few)

    pub walks_step : (links now : List ℕ) (count t k : ℕ) → t < length now → IsWalkBack number slots (slice_index links t) k → k < greatest → AreWalksBack number greatest slots first links now count
        → AreWalksBack number greatest slots first links (slice_set now t k) count
    walks_step links now count t k inside walk low all p few = by (ℕ_discrete p t)
      where
        by : Dec (p ≡ t) → IsFreshNear number slots first (slice_index links p) × IsWalkBack number slots (slice_index links p) (slice_index (slice_set now t k) p) × (slice_index (slice_set now t k) p < greatest)
        by (yes same) =
            let is : slice_index (slice_set now t k) p ≡ k = ap (λ (q : ℕ). slice_index (slice_set now t k) q) same ∙ get_or-set_same now t k 0 inside in
            let from : slice_index links t ≡ slice_index links p = ap (slice_index links) (sym same) in
            ((all p few).0, subst (λ (j : ℕ). IsWalkBack number slots (slice_index links p) j) (sym is) (subst (λ (l : ℕ). IsWalkBack number slots l k) from walk), omega (arith, is, low))
        by (no differs) =
            let is : slice_index now p ≡ slice_index (slice_set now t k) p = sym (get_or-set_other now t p k 0 differs) in
            subst (λ (j : ℕ). IsFreshNear number slots first (slice_index links p) × IsWalkBack number slots (slice_index links p) j × (j < greatest)) is (all p few)

    pub walks_drop : (links now : List ℕ) (last t : ℕ) → t < length links → t < length now → AreWalksBack number greatest slots first links now (last + 1)
        → AreWalksBack number greatest slots first (slice_set links t (slice_index links last)) (slice_set now t (slice_index now last)) last
    walks_drop links now last t inside also all p few = by (ℕ_discrete p t)
      where
        At : ℕ → ℕ → Type 0
        At l j = IsFreshNear number slots first l × IsWalkBack number slots l j × (j < greatest)

        moved : (xs : List ℕ) → t < length xs → p ≡ t → slice_index xs last ≡ slice_index (slice_set xs t (slice_index xs last)) p
        moved xs within same = sym (ap (λ (q : ℕ). slice_index (slice_set xs t (slice_index xs last)) q) same ∙ get_or-set_same xs t (slice_index xs last) 0 within)

        kept : (xs : List ℕ) → p ≢ t → slice_index xs p ≡ slice_index (slice_set xs t (slice_index xs last)) p
        kept xs differs = sym (get_or-set_other xs t p (slice_index xs last) 0 differs)

        by : Dec (p ≡ t) → At (slice_index (slice_set links t (slice_index links last)) p) (slice_index (slice_set now t (slice_index now last)) p)
        by (yes same) =
            let there : last < last + 1 = omega arith in
            subst (λ (l : ℕ). At l (slice_index (slice_set now t (slice_index now last)) p)) (moved links inside same)
            (subst (λ (j : ℕ). At (slice_index links last) j) (moved now also same) (all last there))
        by (no differs) =
            let there : p < last + 1 = omega (arith, few) in
            subst (λ (l : ℕ). At l (slice_index (slice_set now t (slice_index now last)) p)) (kept links differs)
            (subst (λ (j : ℕ). At (slice_index links p) j) (kept now differs) (all p there))

  pub fresh_added : (first : ℕ) (positions : List ℕ) (count k : ℕ) → count < length positions → IsFreshNear number slots first k → AreFreshNear number slots first positions count
      → AreFreshNear number slots first (slice_set positions count k) (count + 1)
  fresh_added first positions count k inside near all p few = by (ℕ_discrete p count)
    where
      by : Dec (p ≡ count) → IsFreshNear number slots first (slice_index (slice_set positions count k) p)
      by (yes same) = subst (IsFreshNear number slots first) (sym (ap (λ (q : ℕ). slice_index (slice_set positions count k) q) same ∙ get_or-set_same positions count k 0 inside)) near
      by (no differs) =
          let before : p < count = omega (arith, few, differs) in
          subst (IsFreshNear number slots first) (sym (get_or-set_other positions count p k 0 differs)) (all p before)
