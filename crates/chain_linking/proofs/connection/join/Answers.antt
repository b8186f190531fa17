use Rattle.std.proofs.Common.{ℕ, Some, ap₂, ◌∙◌, sym, refl, subst}
use Rattle.std.proofs.lemmas.Bool.{false≢true}
use Rattle.chain_laws.specs.Chains.{HasLink}
use Rattle.chain_links.specs.ChainArena.{link_map}
use Rattle.chain_links.specs.Links.{links_view}
use Rattle.chain_linking.specs.LinkWrites.{arena_with_pair}
use Rattle.chain_linking.proofs.NeighborLemmas.{valid_link}
use Rattle.chain_linking.proofs.connection.join.Goals as goal

pub returns-then-not-can_connect : goal.returns-then-not-can_connect
returns-then-not-can_connect g c = record {
  some = (λ h. absurd (false≢true h), λ can. absurd (false≢true (sym c.if-not-can_connect.true ∙ c.can_connect.ensures.1 can)));
  joined = tt;
  none = refl;
  at_rest = λ rest. rest;
}

pub link_pair-requires-clause-prev : goal.link_pair-requires-clause-prev
link_pair-requires-clause-prev g c =
    let a = links_view g.P.Inx.InxKey.packed_number c.args.arena.now in
    subst (HasLink (link_map a)) (sym c.inx.ensures) (valid_link a _ (c.can_connect.ensures.0 c.if-not-can_connect.false).first_valid)

pub link_pair-requires-clause-next : goal.link_pair-requires-clause-next
link_pair-requires-clause-next g c =
    let a = links_view g.P.Inx.InxKey.packed_number c.args.arena.now in
    subst (HasLink (link_map a)) (sym c.inx-2.ensures) (valid_link a _ (c.can_connect.ensures.0 c.if-not-can_connect.false).second_valid)

pub returns : goal.returns
returns g c = record {
  some = (λ _. c.can_connect.ensures.0 c.if-not-can_connect.false, λ _. refl);
  joined = c.link_pair.ensures.links ∙ ap₂ (λ (i j : ℕ). arena_with_pair (links_view g.P.Inx.InxKey.packed_number c.args.arena.now) (Some i) (Some j)) c.inx.ensures c.inx-2.ensures;
  none = tt;
  at_rest = c.link_pair.ensures.at_rest;
}
