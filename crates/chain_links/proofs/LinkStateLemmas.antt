-- The state of a chain arena, entry by entry.
use Rattle.std.proofs.Common.{◌≡◌, ℕ, zero, suc, ◌+◌, List, [], ◌∷◌, length, true, false, Option, None, Some, refl, ap, sym, ◌∙◌, arith}
use Rattle.std.specs.Prelude.{slice_index_or, slice_set, ◌==◌, if◌then◌else◌}
use Rattle.std.specs.Option.{option_map}
use Rattle.std.proofs.lemmas.List.{ext_get_or}
use Rattle.chain_laws.specs.Chains.{LinkMap}
use Rattle.chain_laws.proofs.InterlinkLemmas.Inverses.{if_same, if_other}
use Rattle.arena_traits.proofs.ArenaViewLemmas.{length-with_slot}
use Rattle.arena_traits.proofs.InsertionLemmas.{if_suc}
use Rattle.chain_links.proofs.MappedArenaLemmas.{entry_at-with_each, length-with_each}
use Rattle.chain_links.specs.declared.links.RawLink.{RawLink}
use Rattle.chain_links.specs.Links.{link_view, pair_view, links_view}
use Rattle.arena_traits.specs.Arena.{Arena, slot_at, with_slot, entry_at, with_value}
use Rattle.chain_links.specs.ChainArena.{LinkView, relink, relink_from, with_link_map}

slice_index_or-slice_set : {X : Type 0} (xs : List (Option X)) (k j : ℕ) (f : Option X → Option X) → f None ≡ None
    → slice_index_or (slice_set xs k (f (slice_index_or xs k None))) j None ≡ (if j == k then f (slice_index_or xs j None) else slice_index_or xs j None)
slice_index_or-slice_set {X} [] k j f none = elim (j == k) as (λ b. let o : Option X = None in o ≡ (if b then f None else None)) [ true ↦ sym none | false ↦ refl ]
slice_index_or-slice_set (y ∷ xs) zero zero f none = refl
slice_index_or-slice_set (y ∷ xs) zero (suc j) f none = sym (if_other (suc j) 0 _ _ (λ is. absurd (omega (arith, is))))
slice_index_or-slice_set (y ∷ xs) (suc k) zero f none = sym (if_other 0 (suc k) _ _ (λ is. absurd (omega (arith, is))))
slice_index_or-slice_set (y ∷ xs) (suc k) (suc j) f none = slice_index_or-slice_set xs k j f none ∙ if_suc j k _ _

pub slot_at-changed : {X : Type 0} (slots : List (Option X)) (n i : ℕ) (f : Option X → Option X) → f None ≡ None
    → slot_at (with_slot slots n (f (slot_at slots n))) i ≡ (if i == n then f (slot_at slots i) else slot_at slots i)
slot_at-changed {X} slots zero zero f none = sym (if_same 0 0 (f None) None refl ∙ none)
slot_at-changed slots zero (suc j) f none = sym (if_other (suc j) 0 _ _ (λ is. absurd (omega (arith, is))))
slot_at-changed slots (suc k) zero f none = sym (if_other 0 (suc k) _ _ (λ is. absurd (omega (arith, is))))
slot_at-changed slots (suc k) (suc j) f none = slice_index_or-slice_set slots k j f none ∙ if_suc j k _ _

module _ {Gen T : Type 0} where
  pub entry_at-with_value : (a : Arena Gen T) (n : ℕ) (t : T) (i : ℕ)
      → entry_at (with_value a n t) i ≡ (if i == n then option_map (λ (e : Gen × T). (e.0, t)) (entry_at a i) else entry_at a i)
  entry_at-with_value a n t i = slot_at-changed a.slots n i (option_map (λ (e : Gen × T). (e.0, t))) refl

  pub no_entry : (o : Option (Gen × T)) → option_map (λ (e : Gen × T). e.1) o ≡ None → o ≡ None
  no_entry None none = refl
  no_entry (Some e) none = absurd (let h = none in cc)

  pub length-with_value : (a : Arena Gen T) (n : ℕ) (t : T) → length (with_value a n t).slots ≡ length a.slots
  length-with_value a n t = length-with_slot a.slots n _

module _ {Gen T : Type 0} where
  slice_index_or-relink_from : (interlinks : LinkMap) (k x j : ℕ) (slots : List (Option (Gen × LinkView T))) → x ≡ k + j
      → slice_index_or (relink_from interlinks k slots) j None ≡ relink (interlinks x) (slice_index_or slots j None)
  slice_index_or-relink_from interlinks k x j [] at = refl
  slice_index_or-relink_from interlinks k x zero (e ∷ slots) at = ap (λ i. relink (interlinks i) e) (let same : k ≡ x = omega (arith, at) in same)
  slice_index_or-relink_from interlinks k x (suc j) (e ∷ slots) at = slice_index_or-relink_from interlinks (suc k) x j slots (omega (arith, at))

  pub entry_at-with_link_map : (a : Arena Gen (LinkView T)) (interlinks : LinkMap) (i : ℕ) → entry_at (with_link_map a interlinks) i ≡ relink (interlinks i) (entry_at a i)
  entry_at-with_link_map a interlinks zero = refl
  entry_at-with_link_map a interlinks (suc j) = slice_index_or-relink_from interlinks 1 (suc j) j a.slots (omega arith)

  length-relink_from : (interlinks : LinkMap) (k : ℕ) (slots : List (Option (Gen × LinkView T))) → length (relink_from interlinks k slots) ≡ length slots
  length-relink_from interlinks k [] = refl
  length-relink_from interlinks k (e ∷ slots) = ap (λ n. suc n) (length-relink_from interlinks (suc k) slots)

  pub length-with_link_map : (a : Arena Gen (LinkView T)) (interlinks : LinkMap) → length (with_link_map a interlinks).slots ≡ length a.slots
  length-with_link_map a interlinks = length-relink_from interlinks 1 a.slots

  pub is_relinked : (a b : Arena Gen (LinkView T)) (interlinks : LinkMap) → length b.slots ≡ length a.slots → b ≡ record a { slots = b.slots }
      → ((i : ℕ) → entry_at b i ≡ relink (interlinks i) (entry_at a i)) → b ≡ with_link_map a interlinks
  is_relinked a b interlinks long rest entries =
      rest ∙ ap (λ (slots : List (Option (Gen × LinkView T))). let c : Arena Gen (LinkView T) = record a { slots = slots } in c)
      (ext_get_or None b.slots (relink_from interlinks 1 a.slots) (long ∙ sym (length-relink_from interlinks 1 a.slots))
      (λ k inside. entries (suc k) ∙ sym (entry_at-with_link_map a interlinks (suc k))))

module _ {Gen K T : Type 0} (number : K → Option ℕ) where
  pub entry_at-links_view : (a : Arena Gen (RawLink K T)) (i : ℕ) → entry_at (links_view number a) i ≡ option_map (pair_view number) (entry_at a i)
  entry_at-links_view a i = entry_at-with_each (link_view number) a i

  pub length-links_view : (a : Arena Gen (RawLink K T)) → length (links_view number a).slots ≡ length a.slots
  length-links_view a = length-with_each (link_view number) a
