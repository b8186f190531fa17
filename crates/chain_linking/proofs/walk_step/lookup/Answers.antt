use Rattle.std.proofs.Common.{◌≡◌, of_calls, refl, ap, ◌∙◌, sym, subst}
use Rattle.std.specs.Option.{option_map}
use Rattle.arena_traits.specs.Arena.{IsValid}
use Rattle.chain_links.specs.ChainArena.{entry}
use Rattle.chain_links.specs.Links.{link_view, links_view, pair_view}
use Rattle.chain_links.proofs.LinkStateLemmas.{entry_at-links_view}
use Rattle.chain_links.specs.Walkers.{index_and_entry}
use Rattle.chain_linking.proofs.AdvancerLemmas.{valid_there}
use Rattle.chain_linking.proofs.walk_step.lookup.Goals as goal

pub returns-in-Some-clause-valid : goal.returns-in-Some-clause-valid
returns-in-Some-clause-valid g c =
    let packed = g.P.Inx.InxKey.packed_number in
    let i = g.P.Inx.InxKey.number c.args.i in
    let named : g.P.PtrKey.key c._from_raw.result ≡ (i, c.in-Some.generation) = search of_calls in
    subst (IsValid (entry (links_view packed c.args.arena.now))) (sym named)
    (valid_there (links_view packed c.args.arena.now) i (i, c.in-Some.generation) (link_view packed c.in-Some.link.now)
    (entry_at-links_view packed c.args.arena.now i ∙ ap (option_map (pair_view packed)) (sym c.in-Some.ensures)) refl)

pub returns-in-None : goal.returns-in-None
returns-in-None g c =
    let packed = g.P.Inx.InxKey.packed_number in
    let i = g.P.Inx.InxKey.number c.args.i in
    record {
      link = sym (ap (option_map (index_and_entry i)) (entry_at-links_view packed c.args.arena.now i ∙ ap (option_map (pair_view packed)) (sym c.in-None.ensures)));
      valid = tt;
    }
