use Rattle.std.specs.Option.{option_map}
use Rattle.chain_links.specs.Links.{links_view}
use Rattle.chain_links.specs.ChainArena.{entry, link_map}
use Rattle.chain_linking.proofs.AdvancerLemmas.{is_passed, is_ended}
use Rattle.chain_arena.proofs.chain_advancer.ChainPtrAdvancerAdvancerChainArena.advance.Goals as goal

pub returns-in-Some : goal.returns-in-Some
returns-in-Some g c =
    let number = g.P.Inx.InxKey.number in
    let a = links_view g.P.Inx.InxKey.packed_number c.collection.inside.arena in
    let now = c.args.self.now in
    rw (← c.collection.view_is) (is_passed (entry a) (link_map a) (number now.start) (option_map number now.forward) (option_map number now.back) now.left _ _ _ c.if-self-eq0.false c.in-Some.ensures.valid c.in-Some.ensures.some)

pub returns-in-None : goal.returns-in-None
returns-in-None g c =
    let number = g.P.Inx.InxKey.number in
    let a = links_view g.P.Inx.InxKey.packed_number c.collection.inside.arena in
    let now = c.args.self.now in
    rw (← c.collection.view_is) (is_ended (entry a) (link_map a) (number now.start) (option_map number now.forward) (option_map number now.back) now.left c.in-None.ensures.none)
