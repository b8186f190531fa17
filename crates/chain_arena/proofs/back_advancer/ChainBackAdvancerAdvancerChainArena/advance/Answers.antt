use Rattle.std.specs.Option.{option_map}
use Rattle.chain_links.specs.Links.{links_view}
use Rattle.chain_arena.proofs.BackAdvancerLemmas.{is_passed_back, is_ended_back}
use Rattle.chain_arena.proofs.back_advancer.ChainBackAdvancerAdvancerChainArena.advance.Goals as goal

pub returns-in-Some : goal.returns-in-Some
returns-in-Some g c =
    let number = g.P.Inx.InxKey.number in
    let a = links_view g.P.Inx.InxKey.packed_number c.collection.inside.arena in
    let inside = c.self.inside in
    rw (← c.collection.view_is, ← c.self.view_is)
    (is_passed_back a (number inside.start) (option_map number inside.at) inside.left (g.P.PtrKey.key c.in-Some.passed.0) (option_map number c.in-Some.passed.1) c.if-self-eq0.false c.in-Some.ensures.valid
    c.in-Some.ensures.some)

pub returns-in-None : goal.returns-in-None
returns-in-None g c =
    let number = g.P.Inx.InxKey.number in
    let a = links_view g.P.Inx.InxKey.packed_number c.collection.inside.arena in
    let inside = c.self.inside in
    rw (← c.collection.view_is, ← c.self.view_is) (is_ended_back a (number inside.start) (option_map number inside.at) inside.left c.in-None.ensures.none)
