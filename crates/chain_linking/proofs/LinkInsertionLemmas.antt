-- The insertion of a link between two others.
use Rattle.std.proofs.Common.{◌≡◌, ℕ, Bool, true, false, Option, Some, refl, ap, sym, ◌∙◌, subst, ⊎_elim}
use Rattle.std.specs.Prelude.{◌==◌, if◌then◌else◌, is_some, IfSome}
use Rattle.std.proofs.lemmas.Bool.{cases_eq}
use Rattle.std.specs.Option.{option_map}
use Rattle.chain_laws.specs.Chains.{LinkMap, IsWellLinked, HasLink}
use Rattle.chain_laws.specs.Insertions.{IsInsertPosition}
use Rattle.chain_laws.specs.Joins.{with_next_at, with_prev_at}
use Rattle.chain_laws.proofs.InterlinkLemmas.Inverses.{if_same, if_other}
use Rattle.chain_laws.proofs.InsertionLemmas.Pairs.{position_between}
use Rattle.chain_laws.proofs.ChainLemmas.LinkedLists.{link}
use Rattle.chain_laws.proofs.InsertionLemmas.Writes.{with_link, inserted_by_writes}
use Rattle.chain_links.specs.declared.links.RawLink.{RawLink}
use Rattle.chain_links.specs.Links.{link_view, links_view}
use Rattle.arena_traits.specs.Arena.{Arena, entry_at, next_index, insert_next, IsListed}
use Rattle.chain_links.specs.ChainArena.{LinkView, lone, new_link, with_links_to, insert_lone, insert_between, link_map, relink, with_link_map, interlinks_of}
use Rattle.chain_links.proofs.LinkStateLemmas.{is_relinked}
use Rattle.chain_linking.proofs.NeighborLemmas.{if_each}
use Rattle.chain_links.proofs.ArenaInsertionLemmas.{link_map-next, listed-links_view, links_view-insert_next}
use Rattle.arena_traits.proofs.InsertionLemmas.{AreFree, slot_at-filled, length-filled}
use Rattle.chain_linking.proofs.LinkWriteLemmas.{relink-own, FitsLinks, link_map-with_link_map, with_link_map-again}
use Rattle.chain_links.proofs.MappedArenaLemmas.{is_some-map}

module _ {Gen T : Type 0} (a : Arena Gen (LinkView T)) (free : AreFree a.slots a.freed) (t : T) where
  named_at : (b : Bool) (u v : Option ℕ) (e : Option (Gen × LinkView T)) → (if b then Some (a.counter, new_link t u v) else e)
      ≡ relink (if b then Some (link u v) else option_map interlinks_of e) (if b then Some (a.counter, lone t) else e)
  named_at true u v e = refl
  named_at false u v e = relink-own e

  inserted_named : (u v : Option ℕ) → insert_next a (new_link t u v) ≡ with_link_map (insert_lone a t) (with_link (link_map a) (next_index a) u v)
  inserted_named u v = is_relinked (insert_lone a t) (insert_next a (new_link t u v)) (with_link (link_map a) (next_index a) u v)
      (length-filled a.freed a.slots (a.counter, new_link t u v) ∙ sym (length-filled a.freed a.slots (a.counter, lone t))) refl
      (λ i. slot_at-filled a.freed a.slots (a.counter, new_link t u v) i free
      ∙ (named_at (i == next_index a) u v (entry_at a i) ∙ ap (relink (with_link (link_map a) (next_index a) u v i)) (sym (slot_at-filled a.freed a.slots (a.counter, lone t) i free))))

  fits_at : (b : Bool) (u v : Option ℕ) (e : Option (Gen × LinkView T)) → is_some (if b then Some (link u v) else option_map interlinks_of e) ≡ is_some (if b then Some (a.counter, lone t) else e)
  fits_at true u v e = refl
  fits_at false u v e = is_some-map interlinks_of e

  FitsLinks-with_link : (u v : Option ℕ) → FitsLinks (with_link (link_map a) (next_index a) u v) (insert_lone a t)
  FitsLinks-with_link u v i = fits_at (i == next_index a) u v (entry_at a i) ∙ ap is_some (sym (slot_at-filled a.freed a.slots (a.counter, lone t) i free))

  pub placed : (u v : Option ℕ) → (u ≡ Some (next_index a) → v ≡ Some (next_index a)) → with_links_to (insert_next a (new_link t u v)) u v (next_index a) ≡ insert_between a t u v
  placed u v itself =
      let base = insert_lone a t in
      let q = next_index a in
      let named = with_link (link_map a) q u v in
      let fits : FitsLinks named base = FitsLinks-with_link u v in
      ap (λ (x : Arena Gen (LinkView T)). with_links_to x u v q) (inserted_named u v)
      ∙ (ap (λ (m : LinkMap). with_link_map (with_link_map base named) (with_prev_at (with_next_at m u (Some q)) v (Some q))) (link_map-with_link_map base named fits)
      ∙ (with_link_map-again base named (with_prev_at (with_next_at named u (Some q)) v (Some q)) fits ∙ ap (with_link_map base) (inserted_by_writes (link_map a) q u v itself)))

module _ {Gen K T : Type 0} (packed : K → Option ℕ) (a b : Arena Gen (RawLink K T)) (d : Arena Gen (LinkView T)) (u v : Option ℕ) (t : T) (link : RawLink K T)
    (listed : IsListed a) (link_is : link_view packed link ≡ new_link t u v) (itself : u ≡ Some (next_index (links_view packed a)) → v ≡ Some (next_index (links_view packed a))) where
  pub inserted_beside : b ≡ insert_next a link → d ≡ with_links_to (links_view packed b) u v (next_index (links_view packed a)) → d ≡ insert_between (links_view packed a) t u v
  inserted_beside is linked =
      let named : Arena Gen (LinkView T) → Arena Gen (LinkView T) = λ x. with_links_to x u v (next_index (links_view packed a)) in
      linked ∙ (ap (λ (x : Arena Gen (RawLink K T)). named (links_view packed x)) is
      ∙ (ap named (links_view-insert_next packed a link ∙ ap (insert_next (links_view packed a)) link_is)
      ∙ placed (links_view packed a) (listed-links_view packed a listed).free t u v itself))

module _ {Gen T : Type 0} (a : Arena Gen (LinkView T)) (free : AreFree a.slots a.freed) (l : LinkView T) where
  abbrev entry_after : ℕ → Option (Gen × LinkView T)
  entry_after i = if i == next_index a then Some (a.counter, l) else entry_at a i

  reports_after : (i : ℕ) → link_map (insert_next a l) i ≡ option_map interlinks_of (entry_after i)
  reports_after i = ap (option_map interlinks_of) (slot_at-filled a.freed a.slots (a.counter, l) i free)

  new_stored : (i : ℕ) → i ≡ next_index a → HasLink (link_map (insert_next a l)) i
  new_stored i same = record { link = interlinks_of (a.counter, l); links = reports_after i ∙ ap (option_map interlinks_of) (if_same i (next_index a) _ _ same) }

  old_stored : (i : ℕ) → HasLink (link_map a) i → HasLink (link_map (insert_next a l)) i
  old_stored i has = ⊎_elim (new_stored i) (λ other. record { link = has.link; links = reports_after i ∙ (ap (option_map interlinks_of) (if_other i (next_index a) _ _ other) ∙ has.links) }) (cases_eq i (next_index a))

  position_stored : (u v : Option ℕ) → IsWellLinked (link_map a) → IsInsertPosition (link_map a) (next_index a) u v → IfSome u (HasLink (link_map (insert_next a l))) × IfSome v (HasLink (link_map (insert_next a l)))
  position_stored u v agrees position =
      let between = position_between (link_map a) (next_index a) u v agrees (link_map-next a free) position in (
        if_each u (HasLink (link_map (insert_next a l))) (λ i is. ⊎_elim (old_stored i) (new_stored i) (between.valid_before i is)),
        if_each v (HasLink (link_map (insert_next a l))) (λ i is. ⊎_elim (old_stored i) (new_stored i) (between.valid_after i is)),
      )

pub both_stored : {Gen K T : Type 0} (packed : K → Option ℕ) (a b : Arena Gen (RawLink K T)) (u v : Option ℕ) (link : RawLink K T) → IsListed a → IsWellLinked (link_map (links_view packed a))
    → IsInsertPosition (link_map (links_view packed a)) (next_index (links_view packed a)) u v → b ≡ insert_next a link
    → IfSome u (HasLink (link_map (links_view packed b))) × IfSome v (HasLink (link_map (links_view packed b)))
both_stored {Gen = Gen} {T = T} packed a b u v link listed agrees is_position is =
    subst (λ (x : Arena Gen (LinkView T)). IfSome u (HasLink (link_map x)) × IfSome v (HasLink (link_map x))) (sym (ap (links_view packed) is ∙ links_view-insert_next packed a link))
    (position_stored (links_view packed a) (listed-links_view packed a listed).free (link_view packed link) u v agrees is_position)
