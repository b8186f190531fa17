-- A chain arena as an arena of values, with the same entries.
use Rattle.std.proofs.Common.{◌≡◌, ◌↔◌, ℕ, suc, List, [], ◌∷◌, ◌++◌, map, Bool, true, false, Option, None, Some, refl, ap, sym, ◌∙◌}
use Rattle.std.specs.Prelude.{reverse, cond, leb}
use Rattle.std.specs.Option.{option_map}
use Rattle.std.proofs.lemmas.List.{reverse-append, map-append}
use Rattle.arena_traits.specs.Arena.{Arena}
use Rattle.arena_traits.specs.Entries.{entries_from, entries, first_key, last_key}
use Rattle.arena_traits.specs.Advancers.{entries_at_or_above, entries_at_or_below, ahead, IsAdvance}
use Rattle.arena_traits.specs.declared.cursor.Cursor.{Cursor}
use Rattle.arena_traits.specs.declared.cursor.Cursor.TheVariants.{Up, Down, Nowhere}
use Rattle.chain_links.specs.ChainArena.{on_value, with_each, link_value, values_of}
use Rattle.chain_links.specs.declared.links.RawLink.{RawLink}
use Rattle.chain_links.specs.Links.{link_view, held_in, held_entries, links_view, pair_view, entry_views}

module _ {Gen X Y : Type 0} (f : X → Y) where
  abbrev on_entry : (ℕ × Gen) × X → (ℕ × Gen) × Y
  on_entry e = on_value f e

  entries_from-map : (i : ℕ) (slots : List (Option (Gen × X))) → entries_from i (map (option_map (on_value f)) slots) ≡ map on_entry (entries_from i slots)
  entries_from-map i [] = refl
  entries_from-map i (None ∷ slots) = entries_from-map (suc i) slots
  entries_from-map i (Some e ∷ slots) = ap (λ es. ((i, e.0), f e.1) ∷ es) (entries_from-map (suc i) slots)

  pub entries-with_each : (a : Arena Gen X) → entries (with_each f a) ≡ map on_entry (entries a)
  entries-with_each a = entries_from-map 1 a.slots

  empty_map : (es : List ((ℕ × Gen) × X)) → (es ≡ []) ↔ (map on_entry es ≡ [])
  empty_map [] = (λ h. refl, λ h. refl)
  empty_map (e ∷ es) = (λ h. absurd (let k = h in cc), λ h. absurd (let k = h in cc))

  first-map : (es : List ((ℕ × Gen) × X)) → first_key (map on_entry es) ≡ first_key es
  first-map [] = refl
  first-map (e ∷ es) = refl

  reverse-map : (es : List ((ℕ × Gen) × X)) → reverse (map on_entry es) ≡ map on_entry (reverse es)
  reverse-map [] = refl
  reverse-map (e ∷ es) = reverse-append (on_entry e ∷ []) (map on_entry es)
      ∙ (ap (λ l. l ++ on_entry e ∷ []) (reverse-map es)
      ∙ (sym (map-append on_entry (reverse es) (e ∷ [])) ∙ ap (map on_entry) (sym (reverse-append (e ∷ []) es))))

  cond-map : (b : Bool) (es rest : List ((ℕ × Gen) × X)) → cond b (map on_entry es) (map on_entry rest) ≡ map on_entry (cond b es rest)
  cond-map true es rest = refl
  cond-map false es rest = refl

  from-map : (i : ℕ) (es : List ((ℕ × Gen) × X)) → entries_at_or_above i (map on_entry es) ≡ map on_entry (entries_at_or_above i es)
  from-map i [] = refl
  from-map i (e ∷ es) = ap (cond (leb i e.0.0) (on_entry e ∷ map on_entry es)) (from-map i es) ∙ cond-map (leb i e.0.0) (e ∷ es) (entries_at_or_above i es)

  up_to-map : (i : ℕ) (es : List ((ℕ × Gen) × X)) → entries_at_or_below i (map on_entry es) ≡ map on_entry (entries_at_or_below i es)
  up_to-map i [] = refl
  up_to-map i (e ∷ es) = ap (λ rest. cond (leb e.0.0 i) (on_entry e ∷ rest) []) (up_to-map i es) ∙ cond-map (leb e.0.0 i) (e ∷ entries_at_or_below i es) []

  ahead-map : (lookup : Cursor) (es : List ((ℕ × Gen) × X)) → ahead lookup (map on_entry es) ≡ map on_entry (ahead lookup es)
  ahead-map (Up i) es = from-map i es
  ahead-map (Down i) es = ap (λ rest. reverse rest) (up_to-map i es) ∙ reverse-map (entries_at_or_below i es)
  ahead-map Nowhere es = refl

  pub empty-with_each : (a : Arena Gen X) → (entries a ≡ []) ↔ (entries (with_each f a) ≡ [])
  empty-with_each a = let same = empty_map (entries a) in (λ h. entries-with_each a ∙ same.0 h, λ h. same.1 (sym (entries-with_each a) ∙ h))

  pub first-with_each : (a : Arena Gen X) → first_key (entries (with_each f a)) ≡ first_key (entries a)
  first-with_each a = ap (λ es. first_key es) (entries-with_each a) ∙ first-map (entries a)

  pub last-with_each : (a : Arena Gen X) → last_key (entries (with_each f a)) ≡ last_key (entries a)
  last-with_each a = ap (λ es. last_key es) (entries-with_each a) ∙ (ap (λ es. first_key es) (reverse-map (entries a)) ∙ first-map (reverse (entries a)))

  pub lookup-with_each : (a : Arena Gen X) (lookup after : Cursor) (returned : Option (ℕ × Gen)) → IsAdvance (entries a) lookup returned after → IsAdvance (entries (with_each f a)) lookup returned after
  lookup-with_each a lookup after returned is = record {
    first = is.first ∙ sym (ap (λ es. first_key (ahead lookup es)) (entries-with_each a) ∙ (ap (λ es. first_key es) (ahead-map lookup (entries a)) ∙ first-map (ahead lookup (entries a))));
    moves = is.moves;
  }

module _ {Gen K T : Type 0} (number : K → Option ℕ) where
  pub values_of-links_view : (a : Arena Gen (RawLink K T)) → with_each held_in a ≡ values_of (links_view number a)
  values_of-links_view a = ap (λ (slots : List (Option (Gen × T))). let b : Arena Gen T = record (with_each held_in a) { slots = slots } in b) (twice a.slots) where
    twice : (slots : List (Option (Gen × RawLink K T))) → map (option_map (on_value held_in)) slots ≡ map (option_map (on_value link_value)) (map (option_map (pair_view number)) slots)
    twice [] = refl
    twice (None ∷ slots) = ap (λ rest. None ∷ rest) (twice slots)
    twice (Some e ∷ slots) = ap (λ rest. Some (e.0, e.1.t) ∷ rest) (twice slots)

  pub entry_views-all : (a : Arena Gen (RawLink K T)) → entry_views number (entries a) ≡ entries (links_view number a)
  entry_views-all a = sym (entries-with_each (link_view number) a)

  pub held_entries-all : (a : Arena Gen (RawLink K T)) → held_entries (entries a) ≡ entries (values_of (links_view number a))
  held_entries-all a = sym (entries-with_each held_in a) ∙ ap (λ v. entries v) (values_of-links_view a)
