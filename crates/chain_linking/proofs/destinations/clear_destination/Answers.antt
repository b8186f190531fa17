use Rattle.std.proofs.Common.{sym, ap, ◌∙◌}
use Rattle.std.specs.Option.{option_copied_mut}
use Rattle.chain_links.specs.Links.{links_view, destination_at}
use Rattle.chain_linking.proofs.DestinationLemmas.{cleared_view, cleared_here, cleared_others, none_without_link}
use Rattle.chain_linking.proofs.destinations.clear_destination.Goals as goal

pub returns-in-Some : goal.returns-in-Some
returns-in-Some g c =
    let number = g.P.Inx.InxKey.packed_number in
    let a = c.args.arena.now in
    let n = g.P.Inx.InxKey.number c.args.i in
    let link = c.in-Some.link.now in
    let w = c.set_destination.new.link in
    let held = rw c.in-Some.is at (c.get_inx_mut.follows.holds w) in
    let stored = sym c.get_inx_mut.ensures.value ∙ ap option_copied_mut c.in-Some.is in
    let set = c.set_destination.ensures in
    record {
      links = cleared_view number a _ n link w stored held.1 set.destination set.rest;
      cleared = cleared_here number a _ n link w stored held.1 set.destination set.rest;
      others = cleared_others number a _ n link w stored held.1 set.destination set.rest;
    }

pub returns-in-None : goal.returns-in-None
returns-in-None g c =
    let number = g.P.Inx.InxKey.packed_number in
    let a = c.args.arena.now in
    let same = c.get_inx_mut.follows.holds-at-none in
    let none = none_without_link number a.slots (g.P.Inx.InxKey.number c.args.i) (sym c.get_inx_mut.ensures.value ∙ ap option_copied_mut c.in-None.is) in
    record {
      links = ap (links_view number) same;
      cleared = ap (λ b. destination_at number b.slots (g.P.Inx.InxKey.number c.args.i)) same ∙ none;
      others = λ j was. ap (λ b. destination_at number b.slots j) same ∙ was;
    }
