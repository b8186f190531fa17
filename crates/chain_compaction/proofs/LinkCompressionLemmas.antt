-- Links moved to the front one by one, and the arena at the end.
use Rattle.std.proofs.Common.{◌≡◌, ℕ, suc, ◌+◌, ◌<◌, List, [], ◌∷◌, ◌++◌, length, map, take, Option, None, Some, refl, ap, sym, ◌∙◌, subst, arith}
use Rattle.std.specs.Prelude.{slice_index_or}
use Rattle.std.specs.Option.{option_map}
use Rattle.std.proofs.lemmas.List.{length-append, length-map, map-append, append-nil}
use Rattle.chain_laws.specs.Chains.{LinkMap, HasLink, HasLinksWithin, IsWellLinked}
use Rattle.chain_laws.specs.Renamings.{IsRenaming}
use Rattle.chain_laws.specs.Arrangements.{place_in}
use Rattle.chain_laws.specs.Moves.{with_link_moved, CanMove, IsGathering}
use Rattle.chain_laws.proofs.RenamingLemmas.HoleClosing.{gathering_begins, gathering_skips, gathering_continues, gathering_ends}
use Rattle.arena_traits.specs.Arena.{slot_at}
use Rattle.arena_traits.specs.Entries.{entries_from, index_of}
use Rattle.arena_base.proofs.EntryRangeLemmas.{entry_list, entries_from-take, take-all}
use Rattle.chain_links.specs.declared.links.RawLink.{RawLink}
use Rattle.chain_links.specs.ChainArena.{on_value}
use Rattle.chain_links.specs.Links.{held_in}
use Rattle.chain_compaction.specs.DetachedLinks.{slot_values, body_interlinks, link_map_in, indexes_in}
use Rattle.chain_links.proofs.MappedArenaLemmas.{slot_at-map}

abbrev pub indexes_to : {Gen T : Type 0} → ℕ → List (Option (Gen × T)) → List ℕ
indexes_to k slots = indexes_in (take k slots)

module _ {Gen T : Type 0} (slots : List (Option (Gen × T))) (k : ℕ) (below : k < length slots) where
  indexes-next : (o : Option (Gen × T)) → slice_index_or slots k None ≡ o → indexes_to (k + 1) slots ≡ map index_of (entries_from 1 (take k slots) ++ entry_list (k + 1) o)
  indexes-next o is =
      let next : k + 1 ≡ suc k = omega arith in
      ap (λ (n : ℕ). indexes_to n slots) next
      ∙ (ap (λ es. map index_of es) (entries_from-take slots 1 k (k + 1) below (omega arith)) ∙ ap (λ (e : Option (Gen × T)). map index_of (entries_from 1 (take k slots) ++ entry_list (k + 1) e)) is)

  indexes-passed : slice_index_or slots k None ≡ None → indexes_to (k + 1) slots ≡ indexes_to k slots
  indexes-passed none = indexes-next None none ∙ ap (λ es. map index_of es) (append-nil (entries_from 1 (take k slots)))

  indexes-met : (e : Gen × T) → slice_index_or slots k None ≡ Some e → indexes_to (k + 1) slots ≡ indexes_to k slots ++ (k + 1) ∷ []
  indexes-met e some = indexes-next (Some e) some ∙ map-append index_of (entries_from 1 (take k slots)) (((k + 1, e.0), e.1) ∷ [])

module _ {Gen K T : Type 0} (slots : List (Option (Gen × RawLink K T))) (i : ℕ) where
  pub generation-there : option_map (λ (e : Gen × RawLink K T). e.0) (slot_at slots i) ≡ option_map (λ (e : Gen × T). e.0) (slot_at (slot_values slots) i)
  generation-there = by (slot_at slots i) ∙ ap (option_map (λ (e : Gen × T). e.0)) (sym (slot_at-map (on_value held_in) slots i))
    where
      by : (o : Option (Gen × RawLink K T)) → option_map (λ (e : Gen × RawLink K T). e.0) o ≡ option_map (λ (e : Gen × T). e.0) (option_map (on_value held_in) o)
      by None = refl
      by (Some e) = refl

  pub value-there : option_map held_in (option_map (λ (e : Gen × RawLink K T). e.1) (slot_at slots i)) ≡ option_map (λ (e : Gen × T). e.1) (slot_at (slot_values slots) i)
  value-there = by (slot_at slots i) ∙ ap (option_map (λ (e : Gen × T). e.1)) (sym (slot_at-map (on_value held_in) slots i))
    where
      by : (o : Option (Gen × RawLink K T)) → option_map held_in (option_map (λ (e : Gen × RawLink K T). e.1) o) ≡ option_map (λ (e : Gen × T). e.1) (option_map (on_value held_in) o)
      by None = refl
      by (Some e) = refl

module _ {Gen K T : Type 0} (number : K → Option ℕ) (slots : List (Option (Gen × RawLink K T))) (k : ℕ) where
  at_slot : slice_index_or (slot_values slots) k None ≡ option_map (on_value held_in) (slice_index_or slots k None)
  at_slot = slot_at-map (on_value held_in) slots (suc k)

  next_index : suc k ≡ k + 1
  next_index = omega arith

  none-linked : slice_index_or (slot_values slots) k None ≡ None → link_map_in number slots (k + 1) ≡ None
  none-linked none = sym (ap (link_map_in number slots) next_index) ∙ by (slice_index_or slots k None) (sym at_slot ∙ none)
    where
      by : (o : Option (Gen × RawLink K T)) → option_map (on_value held_in) o ≡ None → option_map (body_interlinks number) o ≡ None
      by None is = refl
      by (Some e) is = cc

  some-valid : (e : Gen × T) → slice_index_or (slot_values slots) k None ≡ Some e → HasLink (link_map_in number slots) (k + 1)
  some-valid e some = subst (λ (i : ℕ). HasLink (link_map_in number slots) i) next_index (by (slice_index_or slots k None) refl)
    where
      by : (o : Option (Gen × RawLink K T)) → slice_index_or slots k None ≡ o → HasLink (link_map_in number slots) (suc k)
      by None is = absurd (let both = sym some ∙ (at_slot ∙ ap (option_map (on_value held_in)) is) in cc)
      by (Some d) is = record { link = body_interlinks number d; links = ap (option_map (body_interlinks number)) is }

pub record AreGathered {Gen K T : Type 0} (number : K → Option ℕ) (old now : List (Option (Gen × RawLink K T))) (k count : ℕ) : Type 0 where
  pub gathering : IsGathering (link_map_in number old) (link_map_in number now) (indexes_to k (slot_values old)) k
  pub counted : length (indexes_to k (slot_values old)) ≡ count

module _ {Gen K T : Type 0} (number : K → Option ℕ) (old : List (Option (Gen × RawLink K T))) (agrees : IsWellLinked (link_map_in number old)) where
  pub gathered_begins : HasLinksWithin (link_map_in number old) (length old) → AreGathered number old old 0 0
  gathered_begins within = record { gathering = gathering_begins (link_map_in number old) (length old) agrees within; counted = refl }

  module _ (now : List (Option (Gen × RawLink K T))) (k count : ℕ) (c : AreGathered number old now k count) (below : k < length old) where
    inside : k < length (slot_values old)
    inside = omega (arith, below, length-map old (option_map (on_value held_in)))

    pub gathered_skips : slice_index_or (slot_values old) k None ≡ None → AreGathered number old now (k + 1) count
    gathered_skips none =
        let same = indexes-passed (slot_values old) k inside none in
        record {
          gathering = subst (λ done. IsGathering (link_map_in number old) (link_map_in number now) done (k + 1)) (sym same)
              (gathering_skips (link_map_in number old) (link_map_in number now) (indexes_to k (slot_values old)) k c.gathering (none-linked number old k none));
          counted = ap (λ done. length done) same ∙ c.counted;
        }

    module _ (was : Gen) (some : Some was ≡ option_map (λ (e : Gen × T). e.0) (slice_index_or (slot_values old) k None)) where
      arrives : (e : Gen × T) × (slice_index_or (slot_values old) k None ≡ Some e)
      arrives = by (slice_index_or (slot_values old) k None) some
        where
          by : (o : Option (Gen × T)) → Some was ≡ option_map (λ (e : Gen × T). e.0) o → (e : Gen × T) × (o ≡ Some e)
          by None is = cc
          by (Some e) is = (e, refl)

      target : IsWellLinked (link_map_in number now) × CanMove (link_map_in number now) (k + 1) (length (indexes_to k (slot_values old)) + 1)
          × IsGathering (link_map_in number old) (with_link_moved (link_map_in number now) (k + 1) (length (indexes_to k (slot_values old)) + 1)) (indexes_to k (slot_values old) ++ (k + 1) ∷ []) (k + 1)
      target = gathering_continues (link_map_in number old) (link_map_in number now) (indexes_to k (slot_values old)) k agrees c.gathering (some-valid number old k arrives.0 arrives.1)

      pub gathered_continues : (from to : ℕ) (mid after : List (Option (Gen × RawLink K T))) → from ≡ k + 1 → to ≡ count + 1
          → (IsWellLinked (link_map_in number now) → CanMove (link_map_in number now) from to → link_map_in number mid ≡ with_link_moved (link_map_in number now) from to)
          → link_map_in number after ≡ link_map_in number mid → AreGathered number old after (k + 1) (count + 1)
      gathered_continues from to mid after at_from at_to moves kept =
          let met = indexes-met (slot_values old) k inside arrives.0 arrives.1 in
          let first : k + 1 ≡ from = sym at_from in
          let last : length (indexes_to k (slot_values old)) + 1 ≡ to = ap (λ (n : ℕ). n + 1) c.counted ∙ sym at_to in
          let can : CanMove (link_map_in number now) from to = subst (λ (p : ℕ × ℕ). CanMove (link_map_in number now) p.0 p.1) (λ i. (first i, last i)) target.1 in
          let links : with_link_moved (link_map_in number now) (k + 1) (length (indexes_to k (slot_values old)) + 1) ≡ link_map_in number after =
          (λ i. with_link_moved (link_map_in number now) (first i) (last i)) ∙ (sym (moves target.0 can) ∙ sym kept) in
          record {
            gathering = subst (λ (p : LinkMap × List ℕ). IsGathering (link_map_in number old) p.0 p.1 (k + 1)) (λ i. (links i, sym met i)) target.2;
            counted = ap (λ done. length done) met ∙ (length-append (indexes_to k (slot_values old)) ((k + 1) ∷ []) ∙ ap (λ (n : ℕ). n + 1) c.counted);
          }

  pub gathered_ends : (now : List (Option (Gen × RawLink K T))) (k count : ℕ) → AreGathered number old now k count → k ≡ length old → HasLinksWithin (link_map_in number old) (length old)
      → IsRenaming (place_in (indexes_in (slot_values old))) (link_map_in number old) (link_map_in number now)
  gathered_ends now k count c all within =
      let same : indexes_to k (slot_values old) ≡ indexes_in (slot_values old) =
      ap (λ es. map index_of es) (take-all (slot_values old) 1 k (omega (arith, all, length-map old (option_map (on_value held_in))))) in
      subst (λ done. IsRenaming (place_in done) (link_map_in number old) (link_map_in number now)) same
      (gathering_ends (link_map_in number old) (link_map_in number now) (indexes_to k (slot_values old)) k (subst (λ (n : ℕ). HasLinksWithin (link_map_in number old) n) (sym all) within) c.gathering)
