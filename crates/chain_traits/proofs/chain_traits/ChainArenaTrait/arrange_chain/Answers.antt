use Rattle.chain_traits.proofs.LinkOrderLemmas.{is_put}
use Rattle.chain_traits.proofs.chain_traits.ChainArenaTrait.arrange_chain.Goals as goal

pub returns-clause-outcome : goal.returns-clause-outcome
returns-clause-outcome g c =
    let can = c.can_arrange.ensures.0 c.if-not-can_arrange.false in (
      can,
      is_put g.Self.ArenaTrait.state g.Self.ChainArenaTrait.interlinks g.P.PtrKey.key g.Self.ChainArenaTrait.moves c.args.self.now c.move_in_turn.new.arena c.args.order.now
          (g.met.Self.ChainArenaTrait.links_are_entries c.args.self.now) c.agrees.ensures can c.move_in_turn.ensures.links c.move_in_turn.ensures.view,
    )
