use Rattle.std.proofs.Common.{◌+◌, ap, sym, ◌∙◌, refl, subst}
use Rattle.std.proofs.lemmas.Bool.{false≢true}
use Rattle.arena_traits.specs.Arena.{entry_count}
use Rattle.arena_traits.specs.Growth.{RefusesOneMore}
use Rattle.arena_base.specs.Growths.{HasGrownFor}
use Rattle.chain_laws.specs.Chains.{IsWellLinked}
use Rattle.chain_links.specs.ChainArena.{value_view, link_map}
use Rattle.chain_links.specs.Links.{links_view, AreAtRest}
use Rattle.chain_arena.specs.Effects.{Links}
use Rattle.chain_arena.proofs.NewLinkLemmas.{grown_state, grown_view, grown_within, refused_view}
use Rattle.chain_arena.proofs.chain_arena.ChainArena.beside_with_growth.Goals.{in-Ok, in-Err}
use Rattle.chain_arena.proofs.chain_arena.ChainArena.beside_with_growth.Goals as goal

pub invariant_of-self : goal.invariant_of-self
invariant_of-self g c =
    let packed = g.P.Inx.InxKey.packed_number in
    let state = grown_state g.S.SlotStack.may_reach g.P.Inx.InxKey.greatest c.self.inside.arena c.grow_if_full.new.self c.grow_if_full.result c.grow_if_full.ensures.outcome c.grow_if_full.ensures.err in
    record {
      agree = subst (λ b. IsWellLinked (link_map (links_view packed b))) (sym state) c.self.invariant.agree;
      at_rest = subst (λ b. AreAtRest packed b.slots) (sym state) c.self.invariant.at_rest;
    }

pub returns-after-grow_if_full-clause-beside : goal.returns-after-grow_if_full-clause-beside
returns-after-grow_if_full-clause-beside g c =
    let packed = g.P.Inx.InxKey.packed_number in
    let may_reach = g.S.SlotStack.may_reach in
    let greatest = g.P.Inx.InxKey.greatest in
    let a = c.self.inside.arena in
    let b = c.grow_if_full.new.self in
    let may = c.in-Some.ensures.beside.some.0 refl in
    elim c.match-grow_if_full.branch [
      | in-Ok w ↦
          let grown : HasGrownFor may_reach greatest (entry_count c.args.self.now + 1) c.args.self.now (links_view packed b) =
          subst (λ (x : Links _ _). HasGrownFor may_reach greatest (entry_count x + 1) x (links_view packed b)) c.self.view_is (grown_view packed a b may_reach greatest w.in-Ok.ensures.outcome) in
          rw w.result-is (may, c.in-Some.ensures.beside.beside (grown_within may_reach greatest c.args.self.now (links_view packed b) grown), grown)
      | in-Err w ↦ rw w.result-is (
        may,
        subst (λ (x : Links _ _). RefusesOneMore (value_view x) w.in-Err.why) c.self.view_is (refused_view packed a w.in-Err.why w.in-Err.ensures.outcome),
        ap (links_view packed) w.in-Err.ensures.err ∙ c.self.view_is,
      )
    ]

pub returns-in-None : goal.returns-in-None
returns-in-None g c = record { beside = (λ may. false≢true (c.in-None.ensures.beside.some.1 may), refl); agreed = c.in-None.ensures.agree }
