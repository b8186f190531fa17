use Rattle.std.proofs.Common.{◌≡◌, ◌+◌, ◌∙◌, Some, None, sym, ap}
use Rattle.std.specs.Option.{option_map}
use Rattle.chain_laws.specs.Chains.{prev_of}
use Rattle.chain_compaction.specs.DetachedLinks.{link_map_in}
use Rattle.chain_compaction.proofs.FoundStartLemmas.{walk_back_continues, walk_back_wraps, walk_back_ends}
use Rattle.chain_compaction.proofs.read_ahead.step_back_at.Given.{Over}
use Rattle.chain_compaction.proofs.read_ahead.step_back_at.Goals.{After-position_of-prev}
use Rattle.chain_compaction.proofs.read_ahead.step_back_at.Goals as goal

prev_is : (g : Over) (c : After-position_of-prev g) → prev_of (link_map_in g.P.Inx.InxKey.packed_number c.args.compactor.now.detached.slots) (c.args.k + 1) ≡ Some (c.position_of-prev.result + 1)
prev_is g c =
    ap (prev_of (link_map_in g.P.Inx.InxKey.packed_number c.args.compactor.now.detached.slots)) (sym c.inx_at.ensures)
    ∙ (sym c.read_link.ensures.prev ∙ (ap (option_map g.P.Inx.InxKey.number) c.in-Some.is ∙ ap Some (sym c.position_of-prev.ensures)))

pub returns-then-prev-start-clause-back : goal.returns-then-prev-start-clause-back
returns-then-prev-start-clause-back g c =
    walk_back_wraps g.P.Inx.InxKey.packed_number c.args.compactor.now.detached.slots c.args.start c.args.k c.position_of-prev.result c.requires.back
    (prev_is g (goal.at.returns-then-prev-start-clause-back g c).After-position_of-prev) c.if-prev-start.true

pub returns-else-prev-start-clause-back : goal.returns-else-prev-start-clause-back
returns-else-prev-start-clause-back g c =
    walk_back_continues g.P.Inx.InxKey.packed_number c.args.compactor.now.detached.slots c.args.start c.args.k c.position_of-prev.result c.requires.back
    (prev_is g (goal.at.returns-else-prev-start-clause-back g c).After-position_of-prev) c.if-prev-start.false

pub returns-in-None-clause-back : goal.returns-in-None-clause-back
returns-in-None-clause-back g c =
    walk_back_ends g.P.Inx.InxKey.packed_number c.args.compactor.now.detached.slots c.args.start c.args.k c.requires.back
    (ap (prev_of (link_map_in g.P.Inx.InxKey.packed_number c.args.compactor.now.detached.slots)) (sym c.inx_at.ensures)
    ∙ (sym c.read_link.ensures.prev ∙ ap (option_map g.P.Inx.InxKey.number) c.in-None.is))
