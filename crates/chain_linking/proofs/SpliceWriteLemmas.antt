-- A move of a run as pairs written in order.
use Rattle.std.specs.Prelude.{◌≡◌, ℕ, Option, None, Some}
use Rattle.std.proofs.Common.{refl, ap, ap₂, sym, ◌∙◌, subst, ⊎_elim}
use Rattle.std.proofs.lemmas.Bool.{cases_eq}
use Rattle.chain_laws.specs.Chains.{LinkMap, IsWellLinked, HasLink, prev_of, next_of}
use Rattle.chain_laws.specs.Joins.{with_neighbors}
use Rattle.chain_laws.specs.Splices.{without_run, with_splice}
use Rattle.chain_laws.proofs.ChainLemmas.LinkedLists.{next_valid, prev_valid}
use Rattle.chain_laws.proofs.InterlinkLemmas.Inverses.{altered-same, altered-other}
use Rattle.chain_laws.proofs.InterlinkLemmas.Linked.{IsValidAt, put_at, next_of-linked, HasLink-linked}
use Rattle.arena_traits.specs.Arena.{Arena}
use Rattle.chain_links.specs.ChainArena.{LinkView, link_map, with_link_map}
use Rattle.chain_linking.proofs.LinkWriteLemmas.{FitsLinks-linked, link_map-with_link_map, with_link_map-again}

pub skipped_by : {Gen T : Type 0} (a b : Arena Gen (LinkView T)) (first last : ℕ) (u v : Option ℕ) → u ≡ prev_of (link_map a) first → v ≡ next_of (link_map a) last
    → b ≡ with_link_map a (with_neighbors (link_map a) u v) → b ≡ with_link_map a (without_run (link_map a) first last)
skipped_by a b first last u v before after is = is ∙ ap₂ (λ (u v : Option ℕ). with_link_map a (with_neighbors (link_map a) u v)) before after

module _ {Gen T : Type 0} (a b : Arena Gen (LinkView T)) (first last : ℕ) (is : b ≡ with_link_map a (without_run (link_map a) first last)) where
  pub skips : link_map b ≡ without_run (link_map a) first last
  skips = ap (λ (x : Arena Gen (LinkView T)). link_map x) is
      ∙ link_map-with_link_map a (without_run (link_map a) first last) (FitsLinks-linked a (prev_of (link_map a) first) (next_of (link_map a) last))

  pub still_there : (j : ℕ) → HasLink (link_map a) j → HasLink (link_map b) j
  still_there j valid = subst (λ (m : LinkMap). HasLink m j) (sym skips) ((HasLink-linked (link_map a) (prev_of (link_map a) first) (next_of (link_map a) last) j).1 valid)

  pub after_there : (j : ℕ) (k : ℕ) → IsWellLinked (link_map a) → next_of (link_map b) j ≡ Some k → HasLink (link_map b) k
  after_there j k agrees after =
      still_there k (by (prev_of (link_map a) first) refl (sym (next_of-linked (link_map a) (prev_of (link_map a) first) (next_of (link_map a) last) j valid_before) ∙ (ap (λ (m : LinkMap). next_of m j) (sym skips) ∙ after)))
    where
      valid_before : IsValidAt (link_map a) (prev_of (link_map a) first)
      valid_before w is = next_valid (link_map a) w first ((agrees.both w first).1 is)

      by : (u : Option ℕ) → prev_of (link_map a) first ≡ u → put_at (next_of (link_map a)) u (next_of (link_map a) last) j ≡ Some k → HasLink (link_map a) k
      by None is e = prev_valid (link_map a) k j ((agrees.both j k).0 e)
      by (Some w) is e = ⊎_elim
          (λ same. prev_valid (link_map a) k last ((agrees.both last k).0 (sym (altered-same (next_of (link_map a)) w (next_of (link_map a) last) j same) ∙ e)))
          (λ other. prev_valid (link_map a) k j ((agrees.both j k).0 (sym (altered-other (next_of (link_map a)) w (next_of (link_map a) last) j other) ∙ e)))
          (cases_eq j w)

  pub splices : (c : Arena Gen (LinkView T)) (p : ℕ)
      → c ≡ with_link_map b (with_neighbors (with_neighbors (link_map b) (Some p) (Some first)) (Some last) (next_of (link_map b) p))
      → c ≡ with_link_map a (with_splice (link_map a) p first last)
  splices c p two =
      two
      ∙ (ap (λ (m : LinkMap). with_link_map b (with_neighbors (with_neighbors m (Some p) (Some first)) (Some last) (next_of m p))) skips
      ∙ (ap (λ (x : Arena Gen (LinkView T)). with_link_map x (with_splice (link_map a) p first last)) is
      ∙ with_link_map-again a (without_run (link_map a) first last) (with_splice (link_map a) p first last) (FitsLinks-linked a (prev_of (link_map a) first) (next_of (link_map a) last))))
