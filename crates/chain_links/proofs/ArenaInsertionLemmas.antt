-- Insertions in the state of a chain arena.
use Rattle.std.proofs.Common.{◌≡◌, ℕ, zero, suc, ◌<◌, ◌≤◌, List, [], ◌∷◌, length, Bool, true, false, Option, None, Some, refl, ap, ◌∙◌, arith}
use Rattle.std.specs.Prelude.{◌==◌, if◌then◌else◌, slice_index_or}
use Rattle.std.specs.Option.{option_map}
use mathlib.Core.Path.{fun_ext}
use Rattle.chain_laws.specs.Chains.{Interlinks, HasLink, HasLinksWithin}
use Rattle.chain_laws.specs.Joins.{with_lone}
use Rattle.chain_links.specs.declared.links.RawLink.{RawLink}
use Rattle.chain_links.specs.Links.{link_view, links_view}
use Rattle.arena_traits.specs.Arena.{Arena, slot_at, first_or_next, IsListed, entry_at, entry_count, next_index, insert_next}
use Rattle.chain_links.specs.ChainArena.{LinkView, link_value, values_of, link_map, interlinks_of, lone, insert_lone}
use Rattle.arena_traits.specs.Entries.{entries}
use Rattle.arena_traits.proofs.ArenaViewLemmas.{length-entries}
use Rattle.chain_links.proofs.MappedArenaLemmas.{with_each-insert_next, entry_count-with_each, length-with_each, listed-with_each}
use Rattle.arena_traits.proofs.InsertionLemmas.{AreFree, slot_at-filled, slot_at-next}

slice_index_or-inside : {X : Type 0} (xs : List (Option X)) (k : ℕ) (x : X) → slice_index_or xs k None ≡ Some x → k < length xs
slice_index_or-inside [] k x stored = absurd (let h = stored in cc)
slice_index_or-inside (y ∷ xs) zero x stored = omega arith
slice_index_or-inside (y ∷ xs) (suc k) x stored = let inside = slice_index_or-inside xs k x stored in omega arith

pub some_entry : {X : Type 0} (f : X → Interlinks) (o : Option X) (l : Interlinks) → option_map f o ≡ Some l → (x : X) × (o ≡ Some x)
some_entry f None l links = absurd (let h = links in cc)
some_entry f (Some x) l links = (x, refl)

pub slots-within : {X : Type 0} (f : X → Interlinks) (slots : List (Option X)) → HasLinksWithin (λ i. option_map f (slot_at slots i)) (length slots)
slots-within {X} f slots = record { within = inside } where
  inside : (i : ℕ) → HasLink (λ i. option_map f (slot_at slots i)) i → (1 ≤ i) × (i ≤ length slots)
  inside zero valid = absurd (let h = valid.links in cc)
  inside (suc k) valid =
      let x = some_entry f (slice_index_or slots k None) valid.link valid.links in
      let below = slice_index_or-inside slots k x.0 x.1 in (omega arith, omega arith)

module _ {Gen T : Type 0} where
  pub link_map-next : (a : Arena Gen (LinkView T)) → AreFree a.slots a.freed → link_map a (next_index a) ≡ None
  link_map-next a free = ap (option_map interlinks_of) (slot_at-next a.freed a.slots free)

  pub map-if : (b : Bool) (x y : Option (Gen × LinkView T)) → option_map interlinks_of (if b then x else y) ≡ (if b then option_map interlinks_of x else option_map interlinks_of y)
  map-if true x y = refl
  map-if false x y = refl

  pub link_map-insert_lone : (a : Arena Gen (LinkView T)) (t : T) → AreFree a.slots a.freed → link_map (insert_lone a t) ≡ with_lone (link_map a) (next_index a)
  link_map-insert_lone a t free = fun_ext (λ i. ap (option_map interlinks_of) (slot_at-filled a.freed a.slots (a.counter, lone t) i free)
      ∙ map-if (i == next_index a) (Some (a.counter, lone t)) (entry_at a i))

  pub link_map-within : (a : Arena Gen (LinkView T)) → HasLinksWithin (link_map a) (length a.slots)
  link_map-within a = slots-within interlinks_of a.slots

module _ {Gen T : Type 0} where
  pub values-count : (a : Arena Gen (LinkView T)) → length (entries (values_of a)) ≡ entry_count a
  values-count a = length-entries (values_of a) ∙ entry_count-with_each link_value a

module _ {Gen K T : Type 0} (number : K → Option ℕ) where
  pub links_view-insert_next : (a : Arena Gen (RawLink K T)) (link : RawLink K T) → links_view number (insert_next a link) ≡ insert_next (links_view number a) (link_view number link)
  links_view-insert_next a link = with_each-insert_next (link_view number) a link

  pub entry_count-links_view : (a : Arena Gen (RawLink K T)) → entry_count (links_view number a) ≡ entry_count a
  entry_count-links_view a = entry_count-with_each (link_view number) a

  pub next_index-links_view : (a : Arena Gen (RawLink K T)) → next_index (links_view number a) ≡ next_index a
  next_index-links_view a = ap (first_or_next a.freed) (length-with_each (link_view number) a)

  pub listed-links_view : (a : Arena Gen (RawLink K T)) → IsListed a → IsListed (links_view number a)
  listed-links_view a listed = listed-with_each (link_view number) a listed

  pub listed-values : (a : Arena Gen (RawLink K T)) → IsListed a → IsListed (values_of (links_view number a))
  listed-values a listed = listed-with_each link_value (links_view number a) (listed-links_view a listed)

  pub length-values : (a : Arena Gen (RawLink K T)) → length (values_of (links_view number a)).slots ≡ length a.slots
  length-values a = length-with_each link_value (links_view number a) ∙ length-with_each (link_view number) a

  pub count-values : (a : Arena Gen (RawLink K T)) → length (entries (values_of (links_view number a))) ≡ entry_count a
  count-values a = values-count (links_view number a) ∙ entry_count-links_view a
