-- A link moved to a free index: a renaming, with writes to its two neighbors only.
use Rattle.std.proofs.Common.{◌≡◌, ◌≢◌, ◌↔◌, ℕ, ◌⊎◌, inl, inr, Option, None, Some, refl, sym, ap, ap₂, ◌∙◌, subst}
use Rattle.std.specs.Option.{option_map, option_and_then}
use Rattle.std.proofs.Math.Decide.{ℕ_discrete}
use Rattle.chain_laws.specs.Chains.{LinkMap, Interlinks, HasLink, IsWellLinked, prev_in, next_in, prev_of, next_of}
use Rattle.chain_laws.specs.Joins.{with_next_at, with_prev_at}
use Rattle.chain_laws.specs.Renamings.{IsRenaming}
use Rattle.chain_laws.specs.Moves.{moved_index, with_moved, with_link_moved, with_link_placed, CanMove, index_after_move, MoveRenames, NeighborsDetermineAMove}
use Rattle.chain_laws.proofs.ChainLemmas.LinkedLists.{link, reports_both, reports_valid, next_valid, prev_valid}
use Rattle.chain_laws.proofs.InterlinkLemmas.Inverses.{if_same, if_other, altered-same, altered-other, one_some, not_both_ways}
use Rattle.chain_laws.proofs.InterlinkLemmas.Linked.{IsValidAt, put_at, prev_of-with_next_at, next_of-with_prev_at, next_of-with_next_at, prev_of-with_prev_at, HasLink-with_next_at, HasLink-with_prev_at, HasLink-changed}
use Rattle.chain_laws.proofs.RenamingLemmas.Chains.{same_reported}

pub moved_index-same : (i k j : ℕ) → j ≡ i → moved_index i k j ≡ k
moved_index-same i k j e = if_same j i k j e

pub moved_index-other : (i k j : ℕ) → j ≢ i → moved_index i k j ≡ j
moved_index-other i k j differs = if_other j i k j differs

pub sent-valid : (link_map : LinkMap) (j n : ℕ) → HasLink link_map j → option_map (λ _. n) (link_map j) ≡ Some n
sent-valid link_map j n valid = ap (option_map (λ _. n)) valid.links

pub sent-from : (link_map : LinkMap) (j n m : ℕ) → option_map (λ _. n) (link_map j) ≡ Some m → HasLink link_map j × (n ≡ m)
sent-from link_map j n m e = by (link_map j) refl e
  where
    by : (o : Option Interlinks) → link_map j ≡ o → option_map (λ _. n) o ≡ Some m → HasLink link_map j × (n ≡ m)
    by None is goes = absurd (cc)
    by (Some l) is goes = (reports_valid link_map j l is, one_some goes)

put_from : (link_map : LinkMap) (i k m : ℕ) → HasLink (with_link_placed link_map i k) m → (j : ℕ) × HasLink link_map j × (moved_index i k j ≡ m)
put_from link_map i k m valid = by (ℕ_discrete m k) (ℕ_discrete m i)
  where
    by : Dec (m ≡ k) → Dec (m ≡ i) → (j : ℕ) × HasLink link_map j × (moved_index i k j ≡ m)
    by (yes e) rest = (i, reports_valid link_map i valid.link (sym (if_same m k _ _ e) ∙ valid.links), moved_index-same i k i refl ∙ sym e)
    by (no c) (yes e) = absurd (not_both_ways (with_link_placed link_map i k m) valid.link (if_other m k _ _ c ∙ if_same m i _ _ e) valid.links)
    by (no c) (no d) = (m, reports_valid link_map m valid.link (sym (if_other m k _ _ c ∙ if_other m i _ _ d) ∙ valid.links), moved_index-other i k m d)

pub next_named : (link_map : LinkMap) (j : ℕ) → IsWellLinked link_map → IsValidAt link_map (next_of link_map j)
next_named link_map j agrees q e = prev_valid link_map q j ((agrees.both j q).0 e)

pub prev_named : (link_map : LinkMap) (j : ℕ) → IsWellLinked link_map → IsValidAt link_map (prev_of link_map j)
prev_named link_map j agrees q e = next_valid link_map q j ((agrees.both q j).1 e)

module _ (link_map : LinkMap) (i k : ℕ) (agrees : IsWellLinked link_map) (can : CanMove link_map i k) where
  differs_elsewhere : (j : ℕ) → HasLink link_map j → j ≢ i → j ≢ k
  differs_elsewhere j valid differs e = by can.free
    where
      by : (k ≡ i) ⊎ (link_map k ≡ None) → ⊥
      by (inl same) = differs (e ∙ same)
      by (inr none) = not_both_ways (link_map j) valid.link (ap link_map e ∙ none) valid.links

  index_apart : (a b : ℕ) → HasLink link_map a → HasLink link_map b → moved_index i k a ≡ moved_index i k b → a ≡ b
  index_apart a b valid also e = by (ℕ_discrete a i) (ℕ_discrete b i)
    where
      by : Dec (a ≡ i) → Dec (b ≡ i) → a ≡ b
      by (yes s) (yes t) = s ∙ sym t
      by (yes s) (no d) = absurd (differs_elsewhere b also d (sym (moved_index-other i k b d) ∙ (sym e ∙ moved_index-same i k a s)))
      by (no c) (yes t) = absurd (differs_elsewhere a valid c (sym (moved_index-other i k a c) ∙ (e ∙ moved_index-same i k b t)))
      by (no c) (no d) = sym (moved_index-other i k a c) ∙ (e ∙ moved_index-other i k b d)

  put_to : (other : LinkMap) (j : ℕ) → HasLink link_map j → with_link_placed other i k (moved_index i k j) ≡ other j
  put_to other j valid = by (ℕ_discrete j i)
    where
      by : Dec (j ≡ i) → with_link_placed other i k (moved_index i k j) ≡ other j
      by (yes e) = if_same (moved_index i k j) k _ _ (moved_index-same i k j e) ∙ ap other (sym e)
      by (no d) =
          ap (with_link_placed other i k) (moved_index-other i k j d) ∙ (if_other j k _ _ (differs_elsewhere j valid d) ∙ if_other j i _ _ d)

  maps_to : (o : Option ℕ) → IsValidAt link_map o → option_map (moved_index i k) o ≡ option_and_then (index_after_move link_map i k) o
  maps_to None valid = refl
  maps_to (Some q) valid = sym (sent-valid link_map q (moved_index i k q) (valid q refl))

  moved_to : (j : ℕ) (u v : Option ℕ) → link_map j ≡ Some (link u v)
      → with_link_moved link_map i k (moved_index i k j) ≡ Some (link (option_map (moved_index i k) u) (option_map (moved_index i k) v))
  moved_to j u v links =
      put_to (λ m. option_map (with_moved i k) (link_map m)) j (reports_valid link_map j (link u v) links) ∙ ap (option_map (with_moved i k)) links

  moved_from : (m : ℕ) → HasLink (with_link_moved link_map i k) m → (j : ℕ) × HasLink link_map j × (moved_index i k j ≡ m)
  moved_from m valid =
      let j = put_from (λ (a : ℕ). option_map (with_moved i k) (link_map a)) i k m (record { link = valid.link; links = valid.links }) in
      (j.0, (HasLink-changed (λ (a : ℕ). option_map (with_moved i k) (link_map a)) link_map (with_moved i k) j.0 refl).0 j.1, j.2)

  is_renaming : IsRenaming (index_after_move link_map i k) link_map (with_link_moved link_map i k)
  is_renaming = record {
    apart = λ a b m e f.
        let x = sent-from link_map a (moved_index i k a) m e in
        let y = sent-from link_map b (moved_index i k b) m f in
        index_apart a b x.0 y.0 (x.1 ∙ sym y.1);
    each = λ j valid. (moved_index i k j, sent-valid link_map j (moved_index i k j) valid);
    onto = λ m valid. let j = moved_from m valid in (j.0, j.1, sent-valid link_map j.0 (moved_index i k j.0) j.1 ∙ ap Some j.2);
    carries = λ j m u v links e.
        ap (with_link_moved link_map i k) (sym (sent-from link_map j (moved_index i k j) m e).1)
        ∙ (moved_to j u v links
        ∙ ap₂ (λ (o p : Option ℕ). Some (link o p)) (maps_to u (λ q s. prev_named link_map j agrees q (ap prev_in links ∙ s))) (maps_to v (λ q s. next_named link_map j agrees q (ap next_in links ∙ s))));
  }

  neighbor_stored : (o : Option ℕ) → IsValidAt link_map o → IsValidAt (with_link_placed link_map i k) (option_map (moved_index i k) o)
  neighbor_stored None valid m e = absurd (cc)
  neighbor_stored (Some q) valid m e =
      let stored = valid q refl in
      reports_valid (with_link_placed link_map i k) m stored.link (ap (with_link_placed link_map i k) (sym (one_some e)) ∙ (put_to link_map q stored ∙ stored.links))

  named_as_before : (o : Option ℕ) → o ≢ Some i → option_map (moved_index i k) o ≡ o
  named_as_before None differs = refl
  named_as_before (Some q) differs = ap Some (moved_index-other i k q (λ e. differs (ap Some e)))

  known : (names now : ℕ → Option ℕ) (o : Option ℕ) (j : ℕ) → ((q : ℕ) → (o ≡ Some q) ↔ (names q ≡ Some i)) → IsValidAt link_map o → HasLink link_map j
      → now (moved_index i k j) ≡ names j → put_at now (option_map (moved_index i k) o) (Some k) (moved_index i k j) ≡ option_map (moved_index i k) (names j)
  known names now None j only valid here as_before = as_before ∙ sym (named_as_before (names j) (λ e. absurd (not_both_ways None j refl ((only j).1 e))))
  known names now (Some q) j only valid here as_before = by (ℕ_discrete j q)
    where
      by : Dec (j ≡ q) → put_at now (Some (moved_index i k q)) (Some k) (moved_index i k j) ≡ option_map (moved_index i k) (names j)
      by (yes e) =
          altered-same now (moved_index i k q) (Some k) (moved_index i k j) (ap (moved_index i k) e)
          ∙ (sym (ap Some (moved_index-same i k i refl)) ∙ sym (ap (option_map (moved_index i k)) ((only j).0 (ap Some (sym e)))))
      by (no differs) =
          altered-other now (moved_index i k q) (Some k) (moved_index i k j) (λ e. differs (index_apart j q here (valid q refl) e))
          ∙ (as_before ∙ sym (named_as_before (names j) (λ e. differs (sym (one_some ((only j).1 e))))))

  abbrev next_known : LinkMap
  next_known = with_next_at (with_link_placed link_map i k) (option_map (moved_index i k) (prev_of link_map i)) (Some k)

  abbrev both_known : LinkMap
  both_known = with_prev_at next_known (option_map (moved_index i k) (next_of link_map i)) (Some k)

  known_valid : (m : ℕ) → HasLink both_known m ↔ HasLink (with_link_placed link_map i k) m
  known_valid m =
      let after = HasLink-with_prev_at next_known (option_map (moved_index i k) (next_of link_map i)) (Some k) m in
      let before = HasLink-with_next_at (with_link_placed link_map i k) (option_map (moved_index i k) (prev_of link_map i)) (Some k) m in
      (λ v. before.0 (after.0 v), λ v. after.1 (before.1 v))

  known_next : (j : ℕ) → HasLink link_map j → next_of both_known (moved_index i k j) ≡ option_map (moved_index i k) (next_of link_map j)
  known_next j valid =
      next_of-with_prev_at next_known (option_map (moved_index i k) (next_of link_map i)) (Some k) (moved_index i k j)
      ∙ (next_of-with_next_at (with_link_placed link_map i k) (option_map (moved_index i k) (prev_of link_map i)) (Some k) (moved_index i k j) (neighbor_stored (prev_of link_map i) (prev_named link_map i agrees))
      ∙ known (next_of link_map) (next_of (with_link_placed link_map i k)) (prev_of link_map i) j (λ q. ((agrees.both q i).1, (agrees.both q i).0)) (prev_named link_map i agrees) valid (ap next_in (put_to link_map j valid)))

  known_prev : (j : ℕ) → HasLink link_map j → prev_of both_known (moved_index i k j) ≡ option_map (moved_index i k) (prev_of link_map j)
  known_prev j valid =
      prev_of-with_prev_at next_known (option_map (moved_index i k) (next_of link_map i)) (Some k) (moved_index i k j) after_stored
      ∙ known (prev_of link_map) (prev_of next_known) (next_of link_map i) j (agrees.both i) (next_named link_map i agrees) valid
      (prev_of-with_next_at (with_link_placed link_map i k) (option_map (moved_index i k) (prev_of link_map i)) (Some k) (moved_index i k j) ∙ ap prev_in (put_to link_map j valid))
    where
      after_stored : IsValidAt next_known (option_map (moved_index i k) (next_of link_map i))
      after_stored m e =
          (HasLink-with_next_at (with_link_placed link_map i k) (option_map (moved_index i k) (prev_of link_map i)) (Some k) m).1 (neighbor_stored (next_of link_map i) (next_named link_map i agrees) m e)

  known_reports : (j : ℕ) → HasLink link_map j → both_known (moved_index i k j) ≡ with_link_moved link_map i k (moved_index i k j)
  known_reports j valid =
      let stored = reports_valid (with_link_placed link_map i k) (moved_index i k j) valid.link (put_to link_map j valid ∙ valid.links) in
      reports_both both_known (moved_index i k j) _ _ ((known_valid (moved_index i k j)).1 stored) (known_prev j valid) (known_next j valid)
      ∙ sym (moved_to j (prev_of link_map j) (next_of link_map j) (reports_both link_map j (prev_of link_map j) (next_of link_map j) valid refl refl))

  is_known : both_known ≡ with_link_moved link_map i k
  is_known = same_reported both_known (with_link_moved link_map i k) (λ m v. at m (put_from link_map i k m ((known_valid m).0 v))) (λ m v. at m (moved_from m v))
    where
      at : (m : ℕ) → (j : ℕ) × HasLink link_map j × (moved_index i k j ≡ m) → both_known m ≡ with_link_moved link_map i k m
      at m j = subst (λ (a : ℕ). both_known a ≡ with_link_moved link_map i k a) j.2 (known_reports j.0 j.1)

pub move_renames : MoveRenames
move_renames link_map i k agrees can = is_renaming link_map i k agrees can

pub neighbors_determine_a_move : NeighborsDetermineAMove
neighbors_determine_a_move link_map i k agrees can = is_known link_map i k agrees can
