use Rattle.std.proofs.Common.{◌≡◌, [], Some, refl, ap, ◌∙◌, rules, of_calls}
use Rattle.chain_laws.specs.Walks.{IsWalk}
use Rattle.chain_links.specs.ChainArena.{link_map}
use Rattle.chain_arena.specs.Drains.{walk_left}
use Rattle.chain_arena.proofs.ChainDrainLemmas.{nonzero_index-is, walk_left-valid}
use Rattle.chain_arena.proofs.ChainTransferLemmas.{transfer_begins, has_capacity_first, has_position, has_capacity_next, transfer_continues, transfer_ends}
use Rattle.chain_arena.proofs.transfer_chain.move_chain.Given.{Over}
use Rattle.chain_arena.proofs.transfer_chain.move_chain.Goals.{After-invariants}
use Rattle.chain_arena.proofs.transfer_chain.move_chain.Goals as goal

is_walk : (g : Over) (c : After-invariants g) → let i = (g.P.PtrKey.key c.args.p).0 in IsWalk (link_map c.args.source.now) i (walk_left c.args.source.now i)
is_walk g c = walk_left-valid c.args.source.now (g.P.PtrKey.key c.args.p) c.invariants.ensures.agree c.requires.valid

pub next_pointer-q-requires : goal.next_pointer-q-requires
next_pointer-q-requires g c = has_capacity_first (link_map c.args.source.now) _ _ _ _ (is_walk g c) c.requires.capacity

pub loop-next-init : goal.loop-next-init
loop-next-init g c = record {
  callable = c.requires.callable;
  under_way = transfer_begins g.P.PtrKey.key g.Q.PtrKey.key g.P.Gen.GenKey.following g.P.Gen.GenKey.wraps g.F.FnMut g.Q.Inx.InxKey.number c.args.source.now (g.P.PtrKey.key c.args.p).0 c.args.map c.args.target.now
      c.number_or_zero-at.result (nonzero_index-is _ _ (c.number_or_zero-at.ensures.index ∙ ap (λ n. Some n) c.inx.ensures)) (is_walk g (goal.at.loop-next-init g c).After-invariants);
}

pub next_pointer-to-requires : goal.next_pointer-to-requires
next_pointer-to-requires g c =
    let removed = c.removed_link-removed in
    has_capacity_next _ _ _ _ _ _ _ _ _ _ _ _ _ _ _ _ c.loop-next.invariant.under_way g.P.Inx.InxKey.packed_number _ _ c.in-Some.gone c.in-Some.ensures removed.result.closes removed.result.is_end removed.ensures.closes removed.ensures.is_end c.requires.capacity

pub insert_moved-ends-requires-clause-ends : goal.insert_moved-ends-requires-clause-ends
insert_moved-ends-requires-clause-ends g c =
    let removed = c.removed_link-removed in
    has_position _ _ _ _ _ _ _ _ _ _ _ _ _ _ _ _ c.loop-next.invariant.under_way g.P.Inx.InxKey.packed_number _ _ c.in-Some.gone c.in-Some.ensures removed.result.closes removed.result.is_end removed.ensures.closes removed.ensures.is_end

pub loop-next-preserved : goal.loop-next-preserved
loop-next-preserved g c =
    let removed = c.removed_link-removed in
    let under_way = c.loop-next.invariant.under_way in record {
      callable = search of_calls;
      under_way = transfer_continues _ _ _ _ _ _ _ _ _ _ _ _ _ _ _ _ under_way g.P.Inx.InxKey.packed_number _ _ c.in-Some.gone c.in-Some.ensures removed.result.closes removed.result.is_end removed.ensures.closes removed.ensures.is_end
          removed.result.ptr removed.result.value c.next_pointer-to.result c.map-t.result c.map-t.new.self removed.ensures.ptr removed.ensures.value c.next_pointer-to.ensures c.map-t.ensures
          c.insert_moved-ends.new.target c.insert_moved-ends.result c.insert_moved-ends.ensures.listed (c.insert_moved-ends.ensures.inserted under_way.ys under_way.bounds);
    }

pub returns-clause-transferred : goal.returns-clause-transferred
returns-clause-transferred g c =
    let spent = c.in_default.ensures in
    let not_some = c.in_default.not-Some in
    let is = c.in_default.is in
    let e : (walk_left c.loop-next.source c.loop-next.at ≡ []) × (c.drain_at.new.self ≡ c.loop-next.source) = search rules in
    transfer_ends _ _ _ _ _ _ _ _ _ _ _ _ _ _ _ _ c.loop-next.invariant.under_way (g.P.PtrKey.key c.args.p) c.next_pointer-q.result c.drain_at.new.self refl c.requires.valid c.invariants.ensures.agree
    (is_walk g (goal.at.returns-clause-transferred g c).After-invariants) c.next_pointer-q.ensures e.0 e.1
