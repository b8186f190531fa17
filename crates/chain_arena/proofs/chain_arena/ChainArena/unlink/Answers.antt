use Rattle.std.proofs.Common.{ap}
use Rattle.arena_core.proofs.PointerKindLemmas.{kind_by}
use Rattle.chain_links.specs.Links.{links_view}
use Rattle.chain_arena.proofs.LinkRemovalLemmas.{agreed_after, removal_of, unlinked}
use Rattle.chain_arena.proofs.chain_arena.ChainArena.unlink.Goals as goal

pub invariant_of-self : goal.invariant_of-self
invariant_of-self g c =
    let packed = g.P.Inx.InxKey.packed_number in
    let made = c.remove_link_at.ensures in
    record {
      agree = agreed_after g.P.Gen.GenKey.following (links_view packed c.self.inside.arena) (links_view packed c.remove_link_at.new.arena) _ _ made.valid (λ none. ap (links_view packed) (made.invalid none)) c.self.invariant.agree;
      at_rest = made.at_rest c.self.invariant.at_rest;
    }

pub returns : goal.returns
returns g c =
    let packed = g.P.Inx.InxKey.packed_number in
    let a = c.self.inside.arena in
    let made = c.remove_link_at.ensures in
    rw (← c.self.view_is) (unlinked (kind_by g.P.PtrKey g.P.Inx.InxKey g.P.Gen.GenKey) (links_view packed a) (links_view packed c.remove_link_at.new.arena) c.args.i c.remove_link_at.result made.returned made.overflow
    (λ some. removal_of g.P.Gen.GenKey.following (links_view packed a) (links_view packed c.remove_link_at.new.arena) (g.P.Inx.InxKey.number c.args.i) c.self.invariant.agree (made.valid some))
    (λ none. ap (links_view packed) (made.invalid none)))
