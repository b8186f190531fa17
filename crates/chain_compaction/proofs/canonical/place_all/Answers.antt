use Rattle.std.specs.Prelude.{count_by, is_some}
use Rattle.std.proofs.Common.{rules, length, sym, ap, ◌∙◌, subst, arith}
use Rattle.chain_links.specs.Links.{AreAtRest}
use Rattle.chain_compaction.proofs.CanonicalLayoutLemmas.{length-renamed, count-renamed, links_can_move, links_placed, links_at_rest, placed_after_reads}
use Rattle.chain_compaction.proofs.WorkCountLemmas.{counts_on}
use Rattle.chain_compaction.proofs.canonical.place_all.Goals as goal

pub number_all-visitor-requires-clause-can : goal.number_all-visitor-requires-clause-can
number_all-visitor-requires-clause-can g c = record {
  links = c.requires.can.links ∙ sym (ap (λ h. count_by is_some h.slots) c.is_in_order.ensures.read.detached);
  fits = search rules;
  agree = search rules;
  at_rest = search rules;
}

pub returns-then-is_in_order : goal.returns-then-is_in_order
returns-then-is_in_order g c =
    let old = c.args.compactor.now in
    let test = c.is_in_order.new.compactor in
    let new = c.regenerate_all.new.compactor in
    let read = c.is_in_order.ensures.read in
    let done = c.regenerate_all.ensures in
    record {
      ready = done.ready;
      links = record {
        placed =
            placed_after_reads g.V.Visitor.sees g.P.PtrKey.key c.args.visitor c.regenerate_all.result.0 g.P.Inx.InxKey.packed_number c.args.generation old.detached test.detached new.detached read.detached
            old.arena.now test.arena.now new.arena.now c.regenerate_all.result.1 1 c.args.links c.requires.can.links read.work done.links.placed 10 (omega arith);
        at_rest = λ rest. done.links.at_rest (subst (λ detached. AreAtRest g.P.Inx.InxKey.packed_number detached.slots) (sym read.detached) rest);
        counts = counts_on old test new read.counts done.links.counts;
      };
    }

pub move_all-requires : goal.move_all-requires
move_all-requires g c =
    let packed_number = g.P.Inx.InxKey.packed_number in
    let test = c.is_in_order.new.compactor in
    let numbered = c.number_all-visitor.new.compactor in
    let number = c.number_all-visitor.ensures.links.numbered in
    let read = c.is_in_order.ensures.read.detached in
    record {
      fits = omega (arith, length-renamed packed_number _ numbered.detached test.detached number.renamed, ap (λ h. length h.slots) read, c.requires.can.fits);
      links = c.requires.can.links ∙ (sym (ap (λ h. count_by is_some h.slots) read) ∙ sym (count-renamed packed_number _ numbered.detached test.detached number.renamed));
      can =
          links_can_move g.V.Visitor.sees g.P.PtrKey.key c.args.visitor c.number_all-visitor.result.0 packed_number c.args.generation test.detached numbered.detached
          test.arena.now numbered.arena.now c.number_all-visitor.result.1 number;
    }

pub returns-else-is_in_order : goal.returns-else-is_in_order
returns-else-is_in_order g c =
    let packed_number = g.P.Inx.InxKey.packed_number in
    let old = c.args.compactor.now in
    let test = c.is_in_order.new.compactor in
    let numbered = c.number_all-visitor.new.compactor in
    let moved = c.move_all.new.compactor in
    let read = c.is_in_order.ensures.read in
    let number = c.number_all-visitor.ensures.links in
    let done = c.move_all.ensures in
    record {
      ready = c.number_all-visitor.ensures.ready;
      links = record {
        placed =
            placed_after_reads g.V.Visitor.sees g.P.PtrKey.key c.args.visitor c.number_all-visitor.result.0 packed_number c.args.generation old.detached test.detached moved.detached read.detached
            old.arena.now test.arena.now moved.arena.now c.number_all-visitor.result.1 9 c.args.links c.requires.can.links read.work
            (links_placed g.V.Visitor.sees g.P.PtrKey.key c.args.visitor c.number_all-visitor.result.0 packed_number c.args.generation test.detached numbered.detached
            test.arena.now numbered.arena.now c.number_all-visitor.result.1 number.numbered moved.detached done.moved
            moved.arena.now done.kept.capacity done.kept.maximum done.work)
            10 (omega arith);
        at_rest = λ rest.
            links_at_rest g.V.Visitor.sees g.P.PtrKey.key c.args.visitor c.number_all-visitor.result.0 packed_number c.args.generation test.detached numbered.detached
            test.arena.now numbered.arena.now c.number_all-visitor.result.1 number.numbered moved.detached done.moved;
        counts = counts_on old test moved read.counts (counts_on test numbered moved number.counts done.kept.counts);
      };
    }
