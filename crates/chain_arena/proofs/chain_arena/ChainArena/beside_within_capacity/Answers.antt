use Rattle.std.proofs.Common.{◌≡◌, ◌<◌, ◌+◌, sym, ◌∙◌, refl, subst, arith}
use Rattle.std.proofs.lemmas.Bool.{false≢true}
use Rattle.arena_traits.specs.Arena.{entry_count}
use Rattle.arena_traits.specs.Entries.{HasFreeCapacity}
use Rattle.arena_traits.specs.Growth.{IsFull}
use Rattle.arena_base.specs.Growths.{HasGrownFor}
use Rattle.chain_links.specs.ChainArena.{value_view}
use Rattle.chain_links.specs.Links.{links_view}
use Rattle.chain_links.proofs.ArenaInsertionLemmas.{entry_count-links_view, values-count}
use Rattle.chain_arena.specs.Effects.{Links}
use Rattle.chain_arena.proofs.NewLinkLemmas.{has_capacity}
use Rattle.chain_arena.proofs.chain_arena.ChainArena.beside_within_capacity.Goals as goal

pub returns-then-is_full : goal.returns-then-is_full
returns-then-is_full g c =
    let packed = g.P.Inx.InxKey.packed_number in
    let a = c.self.inside.arena in
    let full : IsFull (value_view (links_view packed a)) = values-count (links_view packed a) ∙ (entry_count-links_view packed a ∙ c.is_full.ensures.full.0 c.if-is_full.true) in
    record {
      beside = (c.in-Some.ensures.beside.some.0 refl, subst (λ (x : Links _ _). IsFull (value_view x)) c.self.view_is full);
      agree = c.in-Some.ensures.agree;
    }

pub returns-else-is_full : goal.returns-else-is_full
returns-else-is_full g c =
    let packed = g.P.Inx.InxKey.packed_number in
    let a = c.self.inside.arena in
    let s = links_view packed a in
    let greatest = g.P.Inx.InxKey.greatest in
    let may_reach = g.S.SlotStack.may_reach in
    let fits = c.is_full.ensures.capacity.0.fits in
    let most = c.is_full.ensures.capacity.0.at_most_greatest in
    let apart : entry_count a ≡ a.capacity → ⊥ = λ full. false≢true (sym c.if-is_full.false ∙ c.is_full.ensures.full.1 full) in
    let counted = values-count s in
    let same = entry_count-links_view packed a in
    let less : HasFreeCapacity (value_view s) = omega (arith, counted, same, fits, apart) in
    let within : entry_count s < greatest = omega (arith, same, fits, apart, most) in
    record {
      beside = (
        c.in-Some.ensures.beside.some.0 refl,
        subst (λ (x : Links _ _). HasFreeCapacity (value_view x)) c.self.view_is less,
        (
          c.in-Some.ensures.beside.beside (subst (λ (x : Links _ _). entry_count x < greatest) c.self.view_is within),
          subst (λ (x : Links _ _). HasGrownFor may_reach greatest (entry_count x + 1) x x) c.self.view_is (has_capacity may_reach greatest s (entry_count a) c.is_full.ensures.capacity less),
        ),
      );
      agree = c.in-Some.ensures.agree;
    }

pub returns-in-None : goal.returns-in-None
returns-in-None g c = record { beside = λ may. false≢true (c.in-None.ensures.beside.some.1 may); agree = c.in-None.ensures.agree }
