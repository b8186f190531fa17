-- Removals and the other calls on entries in the state of a chain arena.
use Rattle.std.proofs.Common.{◌≡◌, ℕ, Bool, true, false, Option, None, Some, refl, ap, ap₂, sym, ◌∙◌, subst, ⊎_elim}
use Rattle.std.specs.Prelude.{◌==◌, if◌then◌else◌}
use Rattle.std.proofs.lemmas.Bool.{cases_eq}
use Rattle.std.specs.Option.{option_map}
use mathlib.Core.Path.{fun_ext}
use Rattle.arena_traits.proofs.ArenaViewLemmas.{value_within-made}
use Rattle.chain_laws.specs.Chains.{LinkMap, IsWellLinked, prev_of, next_of}
use Rattle.chain_laws.specs.Joins.{with_neighbors, with_next, with_prev}
use Rattle.chain_laws.specs.Removals.{without_link, with_removal, Removes, RemovesPairs}
use Rattle.chain_laws.proofs.InterlinkLemmas.Inverses.{if_same, if_other}
use Rattle.chain_laws.proofs.RemovalLemmas.Pairs.{removed_agrees, removed_in_pairs}
use Rattle.chain_laws.proofs.RemovalLemmas.Chains.{removed_removes}
use Rattle.arena_traits.specs.Arena.{Arena, entry_at, remove_at, invalidate_at}
use Rattle.arena_traits.specs.Entries.{view_of}
use Rattle.arena_traits.specs.Entries.{view_after_removal}
use Rattle.chain_links.specs.ChainArena.{on_value, LinkView, link_value, with_link_value, link_map, with_link_map, interlinks_of, values_of, with_value_at, remove_link}
use Rattle.arena_traits.proofs.ArenaViewLemmas as seeing
use Rattle.chain_links.proofs.ArenaInsertionLemmas.{map-if}
use Rattle.chain_links.proofs.MappedArenaLemmas.{with_each-remove_at}
use Rattle.chain_links.proofs.LinkStateLemmas.{slot_at-changed}
use Rattle.chain_linking.specs.LinkWrites.{WereBeside}
use Rattle.chain_linking.proofs.NeighborLemmas.{apart_named, next_named, prev_named}
use Rattle.chain_linking.proofs.LinkWriteLemmas.{FitsLinks, FitsLinks-linked, with_link_map-own, link_map-with_link_map, values_of-with_link_map}

same_if : {X : Type 0} (b : Bool) (x y : X) → x ≡ y → (if b then x else y) ≡ y
same_if true x y same = same
same_if false x y same = refl

linked_nowhere : (link_map : LinkMap) (i : ℕ) → link_map i ≡ None → with_neighbors link_map (Some i) (Some i) ≡ link_map
linked_nowhere link_map i none = fun_ext (λ j. ⊎_elim (at j) (λ other. if_other j i _ _ other ∙ if_other j i _ _ other) (cases_eq j i))
  where
    at : (j : ℕ) → j ≡ i → with_neighbors link_map (Some i) (Some i) j ≡ link_map j
    at j same =
        let nothing : link_map j ≡ None = ap link_map same ∙ none in
        if_same j i _ _ same
        ∙ (ap (option_map (with_prev (Some i))) (if_same j i _ _ same ∙ ap (option_map (with_next (Some i))) nothing) ∙ sym nothing)

module _ {Gen T : Type 0} where
  pub link_map-written : (a b : Arena Gen (LinkView T)) (i : ℕ) (t : T) → b ≡ with_value_at a i t → link_map b ≡ link_map a
  link_map-written a b i t written = ap (λ (x : Arena Gen (LinkView T)). link_map x) written ∙ fun_ext (λ j.
      ap (option_map interlinks_of) (slot_at-changed a.slots i j (option_map (on_value (with_link_value t))) refl)
      ∙ (map-if (j == i) _ _ ∙ same_if (j == i) _ _ (kept (entry_at a j))))
    where
      kept : (o : Option (Gen × LinkView T)) → option_map interlinks_of (option_map (on_value (with_link_value t)) o) ≡ option_map interlinks_of o
      kept None = refl
      kept (Some e) = refl

  pub link_map-renewed : (following : Gen → Gen) (a b : Arena Gen (LinkView T)) (i : ℕ) → b ≡ invalidate_at following a i → link_map b ≡ link_map a
  link_map-renewed following a b i renewed = ap (λ (x : Arena Gen (LinkView T)). link_map x) renewed ∙ fun_ext (λ j.
      ap (option_map interlinks_of) (slot_at-changed a.slots i j (option_map (λ (e : Gen × LinkView T). (following a.counter, e.1))) refl)
      ∙ (map-if (j == i) _ _ ∙ same_if (j == i) _ _ (kept (entry_at a j))))
    where
      kept : (o : Option (Gen × LinkView T)) → option_map interlinks_of (option_map (λ (e : Gen × LinkView T). (following a.counter, e.1)) o) ≡ option_map interlinks_of o
      kept None = refl
      kept (Some e) = refl

  pub link_map-remove_at : (following : Gen → Gen) (a : Arena Gen (LinkView T)) (i : ℕ) → link_map (remove_at following a i) ≡ without_link (link_map a) i
  link_map-remove_at following a i = fun_ext (λ j. ap (option_map interlinks_of) (slot_at-changed a.slots i j (λ _. None) refl) ∙ map-if (j == i) None (entry_at a j))

  fits-removed : (following : Gen → Gen) (a : Arena Gen (LinkView T)) (i : ℕ) → FitsLinks (with_removal (link_map a) i) (remove_at following a i)
  fits-removed following a i =
      let out = remove_at following a i in
      subst (λ (s : LinkMap). FitsLinks (with_neighbors s (prev_of (link_map a) i) (next_of (link_map a) i)) out) (link_map-remove_at following a i) (FitsLinks-linked out (prev_of (link_map a) i) (next_of (link_map a) i))

  pub link_map-remove_link : (following : Gen → Gen) (a : Arena Gen (LinkView T)) (i : ℕ) → link_map (remove_link following a i) ≡ with_removal (link_map a) i
  link_map-remove_link following a i = link_map-with_link_map (remove_at following a i) (with_removal (link_map a) i) (fits-removed following a i)

  pub passes_over : (following : Gen → Gen) (a b : Arena Gen (LinkView T)) (i : ℕ) → b ≡ remove_link following a i → link_map b ≡ with_removal (link_map a) i
  passes_over following a b i gone = ap (λ (x : Arena Gen (LinkView T)). link_map x) gone ∙ link_map-remove_link following a i

  module _ (following : Gen → Gen) (a b : Arena Gen (LinkView T)) (i : ℕ) (gone : b ≡ remove_link following a i) (agrees : IsWellLinked (link_map a)) where
    pub removed-agrees : IsWellLinked (link_map b)
    removed-agrees = subst IsWellLinked (sym (passes_over following a b i gone)) (removed_agrees (link_map a) i agrees)

    pub removed-chains : Removes (link_map a) (link_map b) i
    removed-chains = subst (λ (s : LinkMap). Removes (link_map a) s i) (sym (passes_over following a b i gone)) (removed_removes (link_map a) i agrees)

    pub removed-pairs : RemovesPairs (link_map a) (link_map b) i
    removed-pairs = subst (λ (s : LinkMap). RemovesPairs (link_map a) s i) (sym (passes_over following a b i gone)) (removed_in_pairs (link_map a) i agrees)

  pub values_of-remove_link : (following : Gen → Gen) (a : Arena Gen (LinkView T)) (i : ℕ) → values_of (remove_link following a i) ≡ remove_at following (values_of a) i
  values_of-remove_link following a i = values_of-with_link_map (remove_at following a i) (with_removal (link_map a) i) (fits-removed following a i) ∙ with_each-remove_at link_value following a i

  pub view_after-removed : (following : Gen → Gen) (a b : Arena Gen (LinkView T)) (i : ℕ) → b ≡ remove_link following a i → view_of (values_of b) ≡ view_after_removal following (view_of (values_of a)) i
  view_after-removed following a b i gone =
      ap (λ (x : Arena Gen (LinkView T)). view_of (values_of x)) gone ∙ (ap (λ (x : Arena Gen T). view_of x) (values_of-remove_link following a i) ∙ seeing.viewed_removed following (values_of a) i)

  pub removal_by_steps : (following : Gen → Gen) (a out b : Arena Gen (LinkView T)) (i : ℕ) (u v : Option ℕ) → out ≡ remove_at following a i
      → b ≡ with_link_map out (with_neighbors (link_map out) u v) → u ≡ prev_of (link_map a) i → v ≡ next_of (link_map a) i → b ≡ remove_link following a i
  removal_by_steps following a out b i u v taken joined before after =
      joined
      ∙ (ap (λ (x : Arena Gen (LinkView T)). with_link_map x (with_neighbors (link_map x) u v)) taken
      ∙ (ap (λ (s : LinkMap). with_link_map (remove_at following a i) (with_neighbors s u v)) (link_map-remove_at following a i)
      ∙ ap₂ (λ (s t : Option ℕ). with_link_map (remove_at following a i) (with_neighbors (without_link (link_map a) i) s t)) before after))

  pub were_beside : (following : Gen → Gen) (a out : Arena Gen (LinkView T)) (i : ℕ) (u v : Option ℕ) → out ≡ remove_at following a i → IsWellLinked (link_map a)
      → u ≡ prev_of (link_map a) i → v ≡ next_of (link_map a) i → WereBeside (link_map out) i u v
  were_beside following a out i u v taken agrees before after =
      let s = link_map a in
      rw (before, after, ap (λ (x : Arena Gen (LinkView T)). link_map x) taken ∙ link_map-remove_at following a i) record {
        gone = if_same i i None (s i) refl;
        before = λ apart. apart_named s i (prev_of s i) (prev_named s i agrees) apart;
        after = λ apart. apart_named s i (next_of s i) (next_named s i agrees) (λ ring. apart ((agrees.both i i).0 ring));
        ring = λ ring. (agrees.both i i).1 ring;
      }

  pub ring_gone : (a : Arena Gen (LinkView T)) (i : ℕ) (u v : Option ℕ) → link_map a i ≡ None → (u ≡ Some i → v ≡ Some i) → u ≡ Some i → a ≡ with_link_map a (with_neighbors (link_map a) u v)
  ring_gone a i u v gone ring same = with_link_map-own a ∙ ap (with_link_map a) (sym (linked_nowhere (link_map a) i gone) ∙ ap₂ (λ (x y : Option ℕ). with_neighbors (link_map a) x y) (sym same) (sym (ring same)))
