use Rattle.std.proofs.Common.{rules, ◌≡◌, ◌+◌, sym, ap, ◌∙◌, subst}
use Rattle.chain_links.specs.Links.{AreAtRest}
use Rattle.chain_compaction.proofs.CanonicalLayoutLemmas.{counted_first, agree-detached, links_arranged, work_known}
use Rattle.chain_compaction.proofs.CompactedLinkLemmas.{returned_at_rest}
use Rattle.chain_compaction.proofs.canonical.arrange.Goals as goal

pub place_all-visitor-requires-clause-can : goal.place_all-visitor-requires-clause-can
place_all-visitor-requires-clause-can g c = record {
  links = search rules;
  fits = search rules;
  agree = agree-detached g.P.Inx.InxKey.packed_number c.args.arena.now c.compactor-compactor.result.detached c.compactor-compactor.ensures.detached c.requires.links.agree;
  at_rest = subst (λ detached. AreAtRest g.P.Inx.InxKey.packed_number detached.slots) (sym c.compactor-compactor.ensures.detached) c.requires.links.at_rest;
}

pub returns : goal.returns
returns g c =
    let number = g.P.Inx.InxKey.packed_number in
    let generation = c.generation-generation.result in
    let old = c.args.arena.now in
    let first = c.compactor-compactor in
    let lent = first.result in
    let done = c.place_all-visitor in
    let now = done.new.compactor in
    let known =
    work_known g.V.Visitor.sees g.P.PtrKey.key c.args.visitor done.result.0 number generation old lent.detached now.detached first.ensures.detached lent.arena.now now.arena.now done.result.1 done.ensures.links.placed
    g.P.Inx.InxKey.greatest g.S.SlotStack.initial_maximum first.ensures.arena now.placed now.touched
    (done.ensures.links.counts.on lent.arena.now (counted_first lent.arena.now lent.placed lent.touched first.ensures.placed first.ensures.touched)) first.ensures.fits g.met.P.Inx.InxKey.greatest_fits in
    let placed : now.arena.now.placed ≡ old.placed + c.finish_packed.result.placed = known.0 ∙ ap (λ n. old.placed + n) (sym c.finish_packed.ensures.placed) in
    let touched : now.arena.now.touched ≡ old.touched + c.finish_packed.result.touched = known.1 ∙ ap (λ n. old.touched + n) (sym c.finish_packed.ensures.touched) in
    let same_reference = done.ensures.links.counts.same_reference in
    record {
      ready = done.ensures.ready;
      arranged =
          links_arranged g.V.Visitor.sees g.P.PtrKey.key c.args.visitor done.result.0 number generation old lent.detached now.detached first.ensures.detached lent.arena.now now.arena.now done.result.1 done.ensures.links.placed
          g.P.Inx.InxKey.greatest g.S.SlotStack.initial_maximum first.ensures.arena c.len-links.ensures.capacity.1 c.generation-generation.ensures _ (search rules);
      at_rest = returned_at_rest number now.detached.slots _ (search rules) (done.ensures.links.at_rest (subst (λ detached. AreAtRest number detached.slots) (sym first.ensures.detached) c.requires.links.at_rest));
      placed = search rules;
      touched = search rules;
    }
