-- There are links at the indexes that links name.
use Rattle.std.proofs.Common.{◌≡◌, ◌≢◌, ℕ, Option, None, Some, refl, ap, sym, ◌∙◌}
use Rattle.std.specs.Prelude.{is_some, IsSome, IfSome}
use Rattle.std.specs.Option.{option_map}
use Rattle.std.proofs.lemmas.Bool.{false≢true}
use Rattle.chain_laws.specs.Chains.{LinkMap, Interlinks, IsWellLinked, HasLink, prev_of, next_of}
use Rattle.chain_laws.specs.Removals.{without_link}
use Rattle.chain_laws.proofs.InterlinkLemmas.Inverses.{not_both_ways}
use Rattle.chain_laws.proofs.RemovalLemmas.Pairs.{HasLink-vacated}
use Rattle.chain_laws.proofs.ChainLemmas.LinkedLists.{next_valid, prev_valid, reports_valid}
use Rattle.chain_links.specs.declared.links.RawLink.{RawLink}
use Rattle.chain_links.specs.Links.{links_view, pair_view}
use Rattle.chain_links.specs.ChainArena.{LinkView, entry, link_map, with_link_map, interlinks_of}
use Rattle.chain_links.proofs.LinkStateLemmas.{entry_at-links_view, no_entry}
use Rattle.arena_traits.specs.Arena.{Arena, entry_at, IsValid}
use Rattle.chain_linking.specs.ChainArenaLaws.{links_exist}
use Rattle.chain_linking.proofs.LinkWriteLemmas.{FitsLinks, FitsLinks-link_map, link_map-with_link_map}

pub if_each : {A : Type 0} (o : Option A) (P : A → Type 0) → ((x : A) → o ≡ Some x → P x) → IfSome o P
if_each None P each = tt
if_each (Some x) P each = each x refl

pub link_where : (link_map : LinkMap) (i : ℕ) → IsSome (link_map i) → HasLink link_map i
link_where link_map i some = of (link_map i) refl some
  where
    of : (o : Option Interlinks) → link_map i ≡ o → IsSome o → HasLink link_map i
    of None is none = absurd (false≢true none)
    of (Some l) is here = reports_valid link_map i l is

pub next_named : (link_map : LinkMap) (i : ℕ) → IsWellLinked link_map → IfSome (next_of link_map i) (HasLink link_map)
next_named link_map i agrees = if_each (next_of link_map i) (HasLink link_map) (λ j is. prev_valid link_map j i ((agrees.both i j).0 is))

pub prev_named : (link_map : LinkMap) (i : ℕ) → IsWellLinked link_map → IfSome (prev_of link_map i) (HasLink link_map)
prev_named link_map i agrees = if_each (prev_of link_map i) (HasLink link_map) (λ j is. next_valid link_map j i ((agrees.both j i).1 is))

pub apart_named : (link_map : LinkMap) (i : ℕ) (o : Option ℕ) → IfSome o (HasLink link_map) → o ≢ Some i → IfSome o (HasLink (without_link link_map i))
apart_named link_map i None stored apart = tt
apart_named link_map i (Some j) stored apart = (HasLink-vacated link_map i j).1 (stored, λ same. apart (ap Some same))

module _ {Gen T : Type 0} where
  pub valid_link : (a : Arena Gen (LinkView T)) (p : ℕ × Gen) → IsValid (entry a) p → HasLink (link_map a) p.0
  valid_link a p valid = link_where (link_map a) p.0 (links_exist a p.0 ∙ ap is_some valid.stored)

  pub still_named : (a b : Arena Gen (LinkView T)) (interlinks : LinkMap) (i : Option ℕ) → FitsLinks interlinks a → b ≡ with_link_map a interlinks → IfSome i (HasLink (link_map a)) → IfSome i (HasLink (link_map b))
  still_named a b interlinks None fits is stored = tt
  still_named a b interlinks (Some i) fits is stored = link_where (link_map b) i
      (ap (λ (x : Arena Gen (LinkView T)). is_some (link_map x i)) is
      ∙ (ap (λ (m : LinkMap). is_some (m i)) (link_map-with_link_map a interlinks fits) ∙ (fits i ∙ (sym (FitsLinks-link_map a i) ∙ ap is_some stored.links))))

module _ {Gen K T : Type 0} (number : K → Option ℕ) where
  pub nothing_at : (a : Arena Gen (RawLink K T)) (n : ℕ) → entry_at a n ≡ None → HasLink (link_map (links_view number a)) n → ⊥
  nothing_at a n none stored =
      let nothing : link_map (links_view number a) n ≡ None = ap (option_map interlinks_of) (entry_at-links_view number a n ∙ ap (option_map (pair_view number)) none) in
      not_both_ways (link_map (links_view number a) n) stored.link nothing stored.links

  pub nothing_named : (a : Arena Gen (RawLink K T)) (n : ℕ) → option_map (λ (e : Gen × RawLink K T). e.1) (entry_at a n) ≡ None → HasLink (link_map (links_view number a)) n → ⊥
  nothing_named a n none stored = nothing_at a n (no_entry (entry_at a n) none) stored
