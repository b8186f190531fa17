-- A move of a link as three pairs written one after another.
use Rattle.std.specs.Prelude.{◌≡◌, ◌≢◌, ℕ, ◌⊎◌, ◌==◌, if◌then◌else◌, Option, None, Some}
use Rattle.std.specs.Option.{option_map}
use Rattle.std.proofs.Common.{refl, sym, ap, ◌∙◌, inl, inr}
use Rattle.std.proofs.lemmas.Bool.{cases_eq}
use mathlib.Core.Path.{fun_ext}
use Rattle.chain_laws.specs.Chains.{LinkMap, Interlinks, HasLink, prev_of, next_of, next_in}
use Rattle.chain_laws.specs.Joins.{with_prev, with_next, with_prev_at, with_next_at, with_neighbors, with_lone}
use Rattle.chain_laws.specs.Removals.{without_link, with_removal}
use Rattle.chain_laws.specs.MoveAfter.{with_move_after}
use Rattle.chain_laws.proofs.InterlinkLemmas.Inverses.{if_same, if_other}
use Rattle.chain_laws.proofs.InterlinkLemmas.Linked.{HasLink-linked}
use Rattle.chain_laws.proofs.JoinLemmas.LoneLinks.{with_lone-at, with_lone-elsewhere}
use Rattle.chain_laws.proofs.RemovalLemmas.Pairs.{vacated-elsewhere}

with_next_at-same : (left right : LinkMap) (u v : Option ℕ) (j : ℕ) → left j ≡ right j → with_next_at left u v j ≡ with_next_at right u v j
with_next_at-same left right None v j e = e
with_next_at-same left right (Some i) v j e = ap (λ (o : Option Interlinks). if j == i then option_map (with_next v) o else o) e

with_prev_at-same : (left right : LinkMap) (u v : Option ℕ) (j : ℕ) → left j ≡ right j → with_prev_at left u v j ≡ with_prev_at right u v j
with_prev_at-same left right None v j e = e
with_prev_at-same left right (Some i) v j e = ap (λ (o : Option Interlinks). if j == i then option_map (with_prev v) o else o) e

linked-same : (left right : LinkMap) (u v : Option ℕ) (j : ℕ) → left j ≡ right j → with_neighbors left u v j ≡ with_neighbors right u v j
linked-same left right u v j e = with_prev_at-same (with_next_at left u v) (with_next_at right u v) v u j (with_next_at-same left right u v j e)

abbrev pub skipped : LinkMap → ℕ → LinkMap
skipped link_map p = with_neighbors link_map (prev_of link_map p) (next_of link_map p)

module _ (p q : ℕ) (apart : p ≢ q) where
  abbrev pub placed : LinkMap → Option ℕ → LinkMap
  placed link_map v = with_neighbors (with_neighbors link_map (Some q) (Some p)) (Some p) v

  placed-elsewhere : (left right : LinkMap) (v : Option ℕ) (j : ℕ) → left j ≡ right j → placed left v j ≡ placed right v j
  placed-elsewhere left right v j e = linked-same (with_neighbors left (Some q) (Some p)) (with_neighbors right (Some q) (Some p)) (Some p) v j (linked-same left right (Some q) (Some p) j e)

  between : (link_map : LinkMap) (v : Option ℕ) (l : Interlinks) → link_map p ≡ Some l → with_next_at (with_neighbors link_map (Some q) (Some p)) (Some p) v p ≡ Some (record { prev = Some q; next = v })
  between link_map v l is =
      if_same p p _ _ refl
      ∙ ap (option_map (with_next v)) (if_same p p _ _ refl ∙ ap (option_map (with_prev (Some q))) (if_other p q _ _ apart ∙ is))

  placed-at : (left right : LinkMap) (v : Option ℕ) → HasLink left p → HasLink right p → placed left v p ≡ placed right v p
  placed-at left right v first second =
      with_prev_at-same (with_next_at (with_neighbors left (Some q) (Some p)) (Some p) v) (with_next_at (with_neighbors right (Some q) (Some p)) (Some p) v) v (Some p) p
      (between left v first.link first.links ∙ sym (between right v second.link second.links))

  module _ (link_map : LinkMap) (valid : HasLink link_map p) where
    same_elsewhere : (j : ℕ) → j ≢ p → skipped link_map p j ≡ with_removal link_map p j
    same_elsewhere j ne = linked-same link_map (without_link link_map p) (prev_of link_map p) (next_of link_map p) j (sym (vacated-elsewhere link_map p j ne))

    after_q : next_of (skipped link_map p) q ≡ next_of (with_removal link_map p) q
    after_q = ap next_in (same_elsewhere q (λ e. apart (sym e)))

    pub moved_by_writes : placed (skipped link_map p) (next_of (skipped link_map p) q) ≡ with_move_after link_map p q
    moved_by_writes = ap (placed (skipped link_map p)) after_q ∙ fun_ext (λ j. by j (cases_eq j p))
      where
        by : (j : ℕ) → (j ≡ p) ⊎ (j ≢ p) → placed (skipped link_map p) (next_of (with_removal link_map p) q) j ≡ with_move_after link_map p q j
        by j (inl e) = ap (λ (k : ℕ). placed (skipped link_map p) (next_of (with_removal link_map p) q) k) e ∙ (placed-at (skipped link_map p) (with_lone (with_removal link_map p) p) (next_of (with_removal link_map p) q)
            ((HasLink-linked link_map (prev_of link_map p) (next_of link_map p) p).1 valid) (record { link = record { prev = None; next = None }; links = with_lone-at (with_removal link_map p) p p refl })
            ∙ ap (λ (k : ℕ). with_move_after link_map p q k) (sym e))
        by j (inr ne) = placed-elsewhere (skipped link_map p) (with_lone (with_removal link_map p) p) (next_of (with_removal link_map p) q) j (same_elsewhere j ne ∙ sym (with_lone-elsewhere (with_removal link_map p) p j ne))
