use Rattle.std.proofs.Common.{sym, ap, ◌∙◌}
use Rattle.std.specs.Option.{option_map}
use Rattle.chain_laws.specs.Chains.{prev_of, next_of}
use Rattle.chain_links.specs.ChainArena.{link_map}
use Rattle.chain_links.specs.Links.{links_view}
use Rattle.chain_linking.proofs.AgreementLemmas.{is_responded}
use Rattle.chain_linking.proofs.agreement.next_agrees.Goals as goal

pub returns-in-Some : goal.returns-in-Some
returns-in-Some g c =
    let number = g.P.Inx.InxKey.number in
    let links = link_map (links_view g.P.Inx.InxKey.packed_number c.args.arena.now) in
    is_responded (next_of links) (prev_of links) (number c.args.i) (number c.in-Some.j) _ c.is_index.result
    (sym (ap (option_map number) c.in-Some.is) ∙ c.neighbors_at.ensures.next) c.neighbors_at-in-Some.ensures.prev c.is_index.ensures
