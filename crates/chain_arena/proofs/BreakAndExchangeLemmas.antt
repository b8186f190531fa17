-- Effects of cuts and exchanges.
use Rattle.std.proofs.Common.{◌≡◌, ℕ, Option, None, Some, ap, sym, ◌∙◌, subst, IfSome}
use Rattle.chain_laws.specs.Chains.{LinkMap, IsWellLinked, HasLink, next_of}
use Rattle.chain_laws.specs.Neighbors.{AreNeighbors}
use Rattle.chain_laws.specs.Joins.{with_neighbors}
use Rattle.chain_laws.specs.Cuts.{without_pair, Cuts, TakesPair}
use Rattle.chain_laws.specs.Exchanges.{with_exchange, Exchanges, ExchangesPairs}
use Rattle.chain_laws.proofs.CutLemmas.Pairs.{cut_agrees, cut_takes_a_pair}
use Rattle.chain_laws.proofs.CutLemmas.Chains.{cut_cuts}
use Rattle.chain_laws.proofs.ExchangeLemmas.Pairs.{exchanged_agrees, exchanged_in_pairs}
use Rattle.chain_laws.proofs.ExchangeLemmas.Chains.{exchanged_exchanges}
use Rattle.arena_traits.specs.Arena.{Arena}
use Rattle.arena_traits.specs.Entries.{view_of}
use Rattle.chain_links.specs.CallEffects.{IsDisconnected, IsExchanged}
use Rattle.chain_links.specs.ChainArena.{LinkView, link_map, values_of, value_state, with_link_map}
use Rattle.chain_arena.specs.Effects.{IsCut, IsExchange}
use Rattle.chain_linking.proofs.LinkWriteLemmas.{FitsLinks-twice, link_map-with_link_map, values_of-with_link_map}

pub at_known : (F : ℕ → Type 0) (o : Option ℕ) (n : ℕ) → o ≡ Some n → F n → IfSome o F
at_known F o n is holds = subst (λ x. IfSome x F) (sym is) holds

module _ {Gen T : Type 0} (a b : Arena Gen (LinkView T)) where
  module _ (u v w x : Option ℕ) (is : b ≡ with_link_map a (with_neighbors (with_neighbors (link_map a) u v) w x)) where
    reports_twice : link_map b ≡ with_neighbors (with_neighbors (link_map a) u v) w x
    reports_twice = ap (λ (y : Arena Gen (LinkView T)). link_map y) is ∙ link_map-with_link_map a (with_neighbors (with_neighbors (link_map a) u v) w x) (FitsLinks-twice a u v w x)

    values_twice : values_of b ≡ values_of a
    values_twice = ap (λ (y : Arena Gen (LinkView T)). values_of y) is ∙ values_of-with_link_map a (with_neighbors (with_neighbors (link_map a) u v) w x) (FitsLinks-twice a u v w x)

  module _ (i j : ℕ) (is : b ≡ with_link_map a (without_pair (link_map a) i j)) where
    cut_reports : link_map b ≡ without_pair (link_map a) i j
    cut_reports = reports_twice (Some i) None None (Some j) is

    cut_values : values_of b ≡ values_of a
    cut_values = values_twice (Some i) None None (Some j) is

    pub agrees_cut : IsWellLinked (link_map a) → AreNeighbors (link_map a) i j → IsWellLinked (link_map b)
    agrees_cut agrees pair = subst IsWellLinked (sym cut_reports) (cut_agrees (link_map a) i j agrees pair)

    pub disconnected : IsDisconnected value_state link_map a b i j
    disconnected = record {
      cut = cut_reports;
      chains = subst (λ (m : LinkMap). Cuts (link_map a) m i j) (sym cut_reports) (cut_cuts (link_map a) i j);
      view_after = ap (λ (x : Arena Gen T). view_of x) cut_values;
    }

    pub cut_known : AreNeighbors (link_map a) i j → IsCut a b i j
    cut_known pair = record { state = is; pair = subst (λ (m : LinkMap). TakesPair (link_map a) m i j) (sym cut_reports) (cut_takes_a_pair (link_map a) i j pair) }

  module _ (p q : ℕ) (is : b ≡ with_link_map a (with_exchange (link_map a) p q)) where
    exchange_reports : link_map b ≡ with_exchange (link_map a) p q
    exchange_reports = reports_twice (Some p) (next_of (link_map a) q) (Some q) (next_of (link_map a) p) is

    exchange_values : values_of b ≡ values_of a
    exchange_values = values_twice (Some p) (next_of (link_map a) q) (Some q) (next_of (link_map a) p) is

    pub agrees_exchange : IsWellLinked (link_map a) → HasLink (link_map a) p → HasLink (link_map a) q → IsWellLinked (link_map b)
    agrees_exchange agrees first second = subst IsWellLinked (sym exchange_reports) (exchanged_agrees (link_map a) p q agrees first second)

    pub exchanged : IsWellLinked (link_map a) → HasLink (link_map a) p → HasLink (link_map a) q → IsExchanged value_state link_map a b p q
    exchanged agrees first second = record {
      exchanged = exchange_reports;
      chains = subst (λ (m : LinkMap). Exchanges (link_map a) m p q) (sym exchange_reports) (exchanged_exchanges (link_map a) p q agrees first second);
      view_after = ap (λ (x : Arena Gen T). view_of x) exchange_values;
    }

    pub exchange_known : IsWellLinked (link_map a) → HasLink (link_map a) p → HasLink (link_map a) q → IsExchange a b p q
    exchange_known agrees first second = record { state = is; pairs = subst (λ (m : LinkMap). ExchangesPairs (link_map a) m p q) (sym exchange_reports) (exchanged_in_pairs (link_map a) p q agrees first second) }
