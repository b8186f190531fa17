-- Lemmas on the join of two links.
use Rattle.std.proofs.Common.{◌≡◌, ◌↔◌, ◌&&◌, ℕ, Bool, true, false, Option, None, Some, refl, ap, sym, ◌∙◌, subst}
use Rattle.std.specs.Prelude.{is_some, not, IsTrue}
use Rattle.std.specs.Option.{option_map, option_and_then}
use Rattle.chain_laws.specs.Chains.{LinkMap, IsWellLinked, HasLink, prev_of, next_of, prev_in, next_in}
use Rattle.chain_laws.specs.Joins.{AddsPair, Connects, with_join, AreEndAndStart}
use Rattle.chain_laws.proofs.JoinLemmas.Chains.{joined_agrees, joined_adds_a_pair, joined_connects}
use Rattle.chain_links.specs.declared.links.RawLink.{RawLink}
use Rattle.chain_links.specs.Links.{link_view, pair_view, links_view}
use Rattle.arena_traits.specs.Arena.{Arena, entry_at}
use Rattle.chain_links.specs.ChainArena.{on_value, LinkView, link_value, link_map, values_of, with_link_map, interlinks_of, CanConnect, IsLinkAt, ptr_at}
use Rattle.chain_links.proofs.MappedArenaLemmas.{IsValidPtr, entry_at-with_each, IsValidPtr-with_each}
use Rattle.chain_links.proofs.LinkStateLemmas.{entry_at-links_view}
use Rattle.chain_linking.proofs.NeighborLemmas.{valid_link}
use Rattle.chain_linking.proofs.LinkWriteLemmas.{link_map-with_link_map, values_of-with_link_map, FitsLinks-linked}

pub none_unless_some : {A : Type 0} (o : Option A) → is_some o ≡ false → o ≡ None
none_unless_some None none = refl
none_unless_some (Some x) none = cc

truth_of_not : (b : Bool) → false ≡ not b → IsTrue b
truth_of_not true h = refl
truth_of_not false h = absurd (let k = h in cc)

parts : (b c : Bool) → IsTrue (b && c) → IsTrue b × IsTrue c
parts true c holds = (refl, holds)
parts false c holds = absurd (let h = holds in cc)

whole : (b c : Bool) → IsTrue b → IsTrue c → IsTrue (b && c)
whole true c first second = second
whole false c first second = absurd (let h = first in cc)

module _ {Gen K T : Type 0} (number : K → Option ℕ) where
  pub next_of-view_after : (a : Arena Gen (RawLink K T)) (p : ℕ × Gen) (link : RawLink K T) → entry_at a p.0 ≡ Some (p.1, link) → next_of (link_map (links_view number a)) p.0 ≡ number link.next
  next_of-view_after a p link stored = ap (λ (o : Option (Gen × LinkView T)). next_in (option_map interlinks_of o)) (entry_at-links_view number a p.0 ∙ ap (option_map (pair_view number)) stored)

  pub prev_of-view_after : (a : Arena Gen (RawLink K T)) (p : ℕ × Gen) (link : RawLink K T) → entry_at a p.0 ≡ Some (p.1, link) → prev_of (link_map (links_view number a)) p.0 ≡ number link.prev
  prev_of-view_after a p link stored = ap (λ (o : Option (Gen × LinkView T)). prev_in (option_map interlinks_of o)) (entry_at-links_view number a p.0 ∙ ap (option_map (pair_view number)) stored)

  pub same_valid : (a : Arena Gen (RawLink K T)) (p : ℕ × Gen) → IsValidPtr a p ↔ IsValidPtr (values_of (links_view number a)) p
  same_valid a p =
      let first = IsValidPtr-with_each (link_view number) a p in
      let second = IsValidPtr-with_each link_value (links_view number a) p in
      (λ valid. second.0 (first.0 valid), λ valid. first.1 (second.1 valid))

  valid-view_after : (a : Arena Gen (RawLink K T)) (p : ℕ × Gen) (link : RawLink K T) → entry_at a p.0 ≡ Some (p.1, link) → IsValidPtr (values_of (links_view number a)) p
  valid-view_after a p link stored = (same_valid a p).0 (record { value = link; stored = stored })

  pub valid_at : (a : Arena Gen (RawLink K T)) (p : ℕ × Gen) (link : RawLink K T) → entry_at a p.0 ≡ Some (p.1, link) → HasLink (link_map (links_view number a)) p.0
  valid_at a p link stored = record { link = interlinks_of (p.1, link_view number link); links = ap (option_map interlinks_of) (entry_at-links_view number a p.0 ∙ ap (option_map (pair_view number)) stored) }

  pub can_connect : (a : Arena Gen (RawLink K T)) (p q : ℕ × Gen) (end start : RawLink K T) (b c : Bool) → entry_at a p.0 ≡ Some (p.1, end) → entry_at a q.0 ≡ Some (q.1, start)
      → is_some (number end.next) ≡ not b → is_some (number start.prev) ≡ not c → IsTrue (b && c) ↔ CanConnect (entry_at (values_of (links_view number a))) (link_map (links_view number a)) p q
  can_connect a p q end start b c at_p at_q no_next no_prev = (
    (λ holds. let both = parts b c holds in record {
      first_valid = valid-view_after a p end at_p;
      second_valid = valid-view_after a q start at_q;
      no_next = next_of-view_after a p end at_p ∙ none_unless_some (number end.next) (no_next ∙ ap not both.0);
      no_prev = prev_of-view_after a q start at_q ∙ none_unless_some (number start.prev) (no_prev ∙ ap not both.1);
    }),
    (λ can. whole b c
        (truth_of_not b (sym (ap is_some (sym (next_of-view_after a p end at_p) ∙ can.no_next)) ∙ no_next))
        (truth_of_not c (sym (ap is_some (sym (prev_of-view_after a q start at_q) ∙ can.no_prev)) ∙ no_prev))),
  )

  pub not_valid : (a : Arena Gen (RawLink K T)) (p : ℕ × Gen) → (IsValidPtr a p → ⊥) → IsValidPtr (values_of (links_view number a)) p → ⊥
  not_valid a p invalid valid = invalid ((same_valid a p).1 valid)

module _ {Gen T : Type 0} where
  end_and_start : (a : Arena Gen (LinkView T)) (p q : ℕ × Gen) → CanConnect (entry_at (values_of a)) (link_map a) p q → AreEndAndStart (link_map a) p.0 q.0
  end_and_start a p q can = record { valid_end = valid_link a p can.first_valid; valid_start = valid_link a q can.second_valid; end = can.no_next; start = can.no_prev }

  link_map-joined : (a : Arena Gen (LinkView T)) (i j : ℕ) → link_map (with_link_map a (with_join (link_map a) i j)) ≡ with_join (link_map a) i j
  link_map-joined a i j = link_map-with_link_map a (with_join (link_map a) i j) (FitsLinks-linked a (Some i) (Some j))

  module _ (a b : Arena Gen (LinkView T)) (p q : ℕ × Gen) (can : CanConnect (entry_at (values_of a)) (link_map a) p q) (is_joined : b ≡ with_link_map a (with_join (link_map a) p.0 q.0)) where
    pub links : link_map b ≡ with_join (link_map a) p.0 q.0
    links = ap (λ (x : Arena Gen (LinkView T)). link_map x) is_joined ∙ link_map-joined a p.0 q.0

    pub joined-values : values_of b ≡ values_of a
    joined-values = ap (λ (x : Arena Gen (LinkView T)). values_of x) is_joined ∙ values_of-with_link_map a (with_join (link_map a) p.0 q.0) (FitsLinks-linked a (Some p.0) (Some q.0))

    pub joined-agrees : IsWellLinked (link_map a) → IsWellLinked (link_map b)
    joined-agrees agrees = subst IsWellLinked (sym links) (joined_agrees (link_map a) p.0 q.0 agrees (end_and_start a p q can))

    pub joined-pair : AddsPair (link_map a) (link_map b) p.0 q.0
    joined-pair = subst (λ (new : LinkMap). AddsPair (link_map a) new p.0 q.0) (sym links) (joined_adds_a_pair (link_map a) p.0 q.0 (end_and_start a p q can))

    pub joined-chains : Connects (link_map a) (link_map b) p.0 q.0
    joined-chains = subst (λ (new : LinkMap). Connects (link_map a) new p.0 q.0) (sym links) (joined_connects (link_map a) p.0 q.0)

module _ {Gen K T : Type 0} (number : K → Option ℕ) where
  pub value_at : (a : Arena Gen (RawLink K T)) (i : ℕ) → entry_at (values_of (links_view number a)) i ≡ option_map (on_value (λ l. l.t)) (entry_at a i)
  value_at a i = entry_at-with_each link_value (links_view number a) i ∙ (ap (option_map (on_value link_value)) (entry_at-links_view number a i) ∙ twice (entry_at a i)) where
    twice : (o : Option (Gen × RawLink K T)) → option_map (on_value link_value) (option_map (pair_view number) o) ≡ option_map (on_value (λ l. l.t)) o
    twice None = refl
    twice (Some e) = refl

  pub ptr_at-some : (a : Arena Gen (RawLink K T)) (i : ℕ) (g : Gen) (link : RawLink K T) → entry_at a i ≡ Some (g, link) → ptr_at (entry_at (values_of (links_view number a))) i ≡ Some (i, g)
  ptr_at-some a i g link stored = ap (λ (o : Option (Gen × T)). let p : Option (ℕ × Gen) = option_map (λ e. (i, e.0)) o in p) (value_at a i ∙ ap (option_map (on_value (λ l. l.t))) stored)

  pub link_at_ptr : (a : Arena Gen (RawLink K T)) (p : ℕ × Gen) (link : RawLink K T) (prev next : Option (ℕ × Gen)) → entry_at a p.0 ≡ Some (p.1, link)
      → prev ≡ option_and_then (ptr_at (entry_at (values_of (links_view number a)))) (number link.prev)
      → next ≡ option_and_then (ptr_at (entry_at (values_of (links_view number a)))) (number link.next)
      → IsLinkAt (entry_at (values_of (links_view number a))) (link_map (links_view number a)) p prev next link.t
  link_at_ptr a p link prev next stored before after = record {
    stored = value_at a p.0 ∙ ap (option_map (on_value (λ l. l.t))) stored;
    before = before ∙ ap (option_and_then (ptr_at (entry_at (values_of (links_view number a))))) (sym (prev_of-view_after number a p link stored));
    after = after ∙ ap (option_and_then (ptr_at (entry_at (values_of (links_view number a))))) (sym (next_of-view_after number a p link stored));
  }
