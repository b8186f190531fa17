use Rattle.std.proofs.Common.{rules, ap, sym, ◌∙◌, subst}
use Rattle.chain_laws.specs.Chains.{IsWellLinked}
use Rattle.chain_links.specs.Links.{AreAtRest}
use Rattle.chain_compaction.specs.DetachedLinks.{link_map_in}
use Rattle.chain_compaction.proofs.CompactedLinkLemmas.{link_map-slots, links_gathered, returned_at_rest}
use Rattle.chain_compaction.proofs.compress.gather.Goals as goal

pub compact_links-count-requires-clause-sound : goal.compact_links-count-requires-clause-sound
compact_links-count-requires-clause-sound g c = record {
  fits = search rules;
  agree = subst IsWellLinked (link_map-slots g.P.Inx.InxKey.packed_number c.args.arena.now ∙ sym (ap (λ h. link_map_in g.P.Inx.InxKey.packed_number h.slots) c.compactor-compactor.ensures.detached)) c.requires.agree;
}

pub returns-clause-gathered : goal.returns-clause-gathered
returns-clause-gathered g c =
    let same_reference = c.compact_links-count.ensures.counts.same_reference in
    links_gathered g.F.FnMut g.P.PtrKey.key c.args.map g.P.Inx.InxKey.packed_number g.P.Inx.InxKey.greatest g.S.SlotStack.initial_maximum c.generation-generation.result c.args.arena.now c.compactor-compactor.result.arena.now
    c.compact_links-count.new.compactor.arena.now _ c.compactor-compactor.result.detached c.compact_links-count.new.compactor.detached c.compactor-compactor.ensures.arena c.compactor-compactor.ensures.detached (search rules)
    c.compact_links-count.ensures.closed c.compact_links-count.ensures.visits c.compact_links-count.ensures.work c.invariants.ensures.capacity.1 c.generation-generation.ensures c.compact_links-count.ensures.renamed

pub returns-clause-at_rest : goal.returns-clause-at_rest
returns-clause-at_rest g c =
    let number = g.P.Inx.InxKey.packed_number in
    let same_reference = c.compact_links-count.ensures.counts.same_reference in
    λ rest. returned_at_rest number c.compact_links-count.new.compactor.detached.slots _ (search rules)
    (c.compact_links-count.ensures.at_rest (subst (λ detached. AreAtRest number detached.slots) (sym c.compactor-compactor.ensures.detached) rest))
