-- Effects of insertions.
use Rattle.std.proofs.Common.{◌≡◌, ℕ, ◌+◌, length, Option, None, Some, refl, ap, sym, ◌∙◌, subst}
use Rattle.chain_laws.specs.Chains.{LinkMap, IsWellLinked}
use Rattle.chain_laws.specs.Joins.{with_lone, with_neighbors}
use Rattle.chain_laws.specs.Insertions.{IsInsertPosition, with_insertion, InsertsPairs, Inserts}
use Rattle.chain_laws.specs.declared.insert_kind.InsertKind.{InsertKind}
use Rattle.chain_laws.proofs.InsertionLemmas.Pairs.{inserted_agrees, inserted_in_pairs}
use Rattle.chain_laws.proofs.InsertionLemmas.Chains.{inserted_inserts}
use Rattle.arena_core.specs.PointerKinds.{PointerKind}
use Rattle.arena_traits.specs.Arena.{Arena, without_first, IsListed, first_or_next, next_index, insert_next, with_capacity_of}
use Rattle.arena_traits.specs.Entries.{Slots, view_of, entries, count}
use Rattle.arena_traits.proofs.ArenaViewLemmas.{length-entries, count-filled}
use Rattle.chain_links.specs.ChainArena.{LinkView, link_value, values_of, value_view, value_state, link_map, lone, insert_lone, insert_between}
use Rattle.chain_links.specs.Insertions.{IsInsertedBetween, IsLinkInserted, before_new, after_new}
use Rattle.chain_links.proofs.MappedArenaLemmas.{with_each-insert_next, length-with_each, listed-with_each}
use Rattle.chain_links.proofs.ArenaInsertionLemmas.{link_map-insert_lone, link_map-next}
use Rattle.arena_traits.proofs.InsertionLemmas.{inserted_at, length-filled}
use Rattle.chain_arena.specs.NewLinks.{with_new_link}
use Rattle.chain_linking.proofs.LinkWriteLemmas.{FitsLinks, FitsLinks-link_map, FitsLinks-with_next_at, FitsLinks-with_prev_at, link_map-with_link_map, values_of-with_link_map}

module _ {Gen T : Type 0} (a : Arena Gen (LinkView T)) (t : T) (listed : IsListed a) where
  fits_between : (u v : Option ℕ) → FitsLinks (with_insertion (link_map a) (next_index a) u v) (insert_lone a t)
  fits_between u v =
      let base = insert_lone a t in
      let q = next_index a in
      let lone_fits : FitsLinks (with_lone (link_map a) q) base = subst (λ (m : LinkMap). FitsLinks m base) (link_map-insert_lone a t listed.free) (FitsLinks-link_map base) in
      let links = (λ (m : LinkMap) (x y : Option ℕ) (fits : FitsLinks m base). FitsLinks-with_prev_at base _ y x (FitsLinks-with_next_at base m x y fits)) in
      links (with_neighbors (with_lone (link_map a) q) u (Some q)) (Some q) v (links (with_lone (link_map a) q) u (Some q) lone_fits)

  pub link_map-insert_between : (u v : Option ℕ) → link_map (insert_between a t u v) ≡ with_insertion (link_map a) (next_index a) u v
  link_map-insert_between u v = link_map-with_link_map (insert_lone a t) (with_insertion (link_map a) (next_index a) u v) (fits_between u v)

  pub values_of-insert_between : (u v : Option ℕ) → values_of (insert_between a t u v) ≡ insert_next (values_of a) t
  values_of-insert_between u v =
      values_of-with_link_map (insert_lone a t) (with_insertion (link_map a) (next_index a) u v) (fits_between u v) ∙ with_each-insert_next link_value a (lone t)

  pub agrees-insert_between : (u v : Option ℕ) → IsWellLinked (link_map a) → IsInsertPosition (link_map a) (next_index a) u v → IsWellLinked (link_map (insert_between a t u v))
  agrees-insert_between u v agrees position =
      subst IsWellLinked (sym (link_map-insert_between u v)) (inserted_agrees (link_map a) (next_index a) u v agrees (link_map-next a listed.free) position)

  next_index-values_of : next_index (values_of a) ≡ next_index a
  next_index-values_of = ap (first_or_next a.freed) (length-with_each link_value a)

  module _ (b : Arena Gen (LinkView T)) (u v : Option ℕ) (is : b ≡ with_capacity_of (insert_between a t u v) b) where
    known_reports : link_map b ≡ with_insertion (link_map a) (next_index a) u v
    known_reports = ap (λ (x : Arena Gen (LinkView T)). link_map x) is ∙ link_map-insert_between u v

    known_values : values_of b ≡ with_capacity_of (insert_next (values_of a) t) (values_of b)
    known_values = ap (λ (x : Arena Gen (LinkView T)). values_of x) is
        ∙ ap (λ (x : Arena Gen T). with_capacity_of x (values_of b)) (values_of-insert_between u v)

    pub known_more : count (value_view b) ≡ count (value_view a) + 1
    known_more =
        ap (λ (x : Arena Gen T). length (entries x)) known_values
        ∙ (length-entries (insert_next (values_of a) t)
        ∙ (count-filled a.freed (values_of a).slots (a.counter, t) (listed-with_each link_value a listed).free
        ∙ ap (λ (n : ℕ). n + 1) (sym (length-entries (values_of a)))))

    pub known_between : (p : ℕ × Gen) → p ≡ (next_index a, a.counter) → IsWellLinked (link_map a) → IsInsertPosition (link_map a) (next_index a) u v
        → IsInsertedBetween value_state link_map u v a t p b
    known_between p at agrees position =
        let q = next_index a in
        let free : link_map a q ≡ None = link_map-next a listed.free in
        subst (λ (x : ℕ × Gen). IsInsertedBetween value_state link_map u v a t x b) (sym at) (record {
          entries = inserted_at (values_of a) (values_of b) t (q, a.counter) (listed-with_each link_value a listed).free known_values (ap (λ (n : ℕ). (n, a.counter)) (sym next_index-values_of));
          links = known_reports;
          pairs = subst (λ (m : LinkMap). InsertsPairs (link_map a) m q u v) (sym known_reports) (inserted_in_pairs (link_map a) q u v agrees free position);
          chains = subst (λ (m : LinkMap). Inserts (link_map a) m q u v) (sym known_reports) (inserted_inserts (link_map a) q u v free);
          more = known_more;
          generation = refl;
          index = sym next_index-values_of;
          slots = ap (λ (x : Arena Gen T). (view_of x).slots) known_values
              ∙ ap (λ (n : ℕ). let o : Option Slots = Some (record { count = n; freed = without_first a.freed; placed = a.placed + 1; touched = a.touched }) in o)
              (length-filled a.freed (values_of a).slots (a.counter, t));
          counter = ap (λ (x : Arena Gen (LinkView T)). Some x.counter) is;
          maximum = ap (λ (x : Arena Gen (LinkView T)). x.maximum) is;
        })

  pub insertion_known : {P I W : Type 0} (pointers : PointerKind P I Gen W) (b : Arena Gen (LinkView T)) (kind : InsertKind P I) → b ≡ with_capacity_of (with_new_link pointers a kind t) b → (p : P) → pointers.key p ≡ (next_index a, a.counter)
      → IsWellLinked (link_map a) → IsInsertPosition (link_map a) (next_index a) (before_new pointers (link_map a) kind (next_index a)) (after_new pointers (link_map a) kind (next_index a))
      → IsLinkInserted value_state link_map pointers a kind t p b
  insertion_known pointers b kind is p at agrees position =
      subst (λ (q : ℕ × Gen). IsInsertedBetween value_state link_map (before_new pointers (link_map a) kind q.0) (after_new pointers (link_map a) kind q.0) a t q b) (sym at)
      (known_between b (before_new pointers (link_map a) kind (next_index a)) (after_new pointers (link_map a) kind (next_index a)) is (next_index a, a.counter) refl agrees position)
