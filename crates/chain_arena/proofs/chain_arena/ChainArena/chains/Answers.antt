use Rattle.std.proofs.Common.{◌≡◌, ◌<◌, length, replicate, true, false, ap, sym, ◌∙◌, subst, arith}
use Rattle.std.proofs.lemmas.List.{length-map, with_items_is}
use Rattle.chain_laws.specs.Chains.{IsWellLinked}
use Rattle.arena_traits.specs.Entries.{entries}
use Rattle.chain_links.specs.ChainArena.{link_map}
use Rattle.chain_links.specs.Links.{entry_views, link_view}
use Rattle.chain_compaction.proofs.ValueViewLemmas.{entry_views-all}
use Rattle.chain_arena.proofs.ChainHeadLemmas.{IsFindingHeads, is_marked-read, finding_begins, finding_at, first_valid, first_within, finding_skips, finding_more, finding_ends}
use Rattle.chain_arena.proofs.chain_arena.ChainArena.chains.Goals as goal

pub loop-p-init : goal.loop-p-init
loop-p-init g c =
    let packed = g.P.Inx.InxKey.packed_number in
    let count : c.len.result ≡ length c.args.self.now.slots = c.len.ensures ∙ (sym (length-map _ _) ∙ (sym (length-map _ _) ∙ ap length c.backing.ensures.slots)) in
    finding_begins g.P.PtrKey.key c.args.self.now _ _ _
    (subst (λ a. IsWellLinked (link_map a)) c.self.view_is c.self.invariant.agree)
    (ap (entry_views packed) (c.into_iter-p-iterator.ensures.into_iter_gives ∙ c.links_of-p-items.ensures.0) ∙ (entry_views-all packed c.self.inside.arena ∙ ap entries c.self.view_is))
    (c.in_ok-marks.ensures ∙ ap (λ n. replicate n false) count)
    c.new-heads.ensures.items

pub index-requires : goal.index-requires
index-requires g c =
    let packed = g.P.Inx.InxKey.packed_number in
    let l = finding_at g.P.PtrKey.key c.args.self.now _ (entry_views packed c.next.new.self) (g.P.PtrKey.key c.in-Some.p, link_view packed c.in-Some.field-0-1.now) _ _ (ap (entry_views packed) c.in-Some.ensures.steps) c.loop-p.invariant in
    let within = first_within g.P.PtrKey.key c.args.self.now _ _ _ _ l in
    omega (arith, within.1, c.place_of.ensures, c.loop-p.marks.ok.0)

pub mark_chain-requires-clause-valid : goal.mark_chain-requires-clause-valid
mark_chain-requires-clause-valid g c =
    let packed = g.P.Inx.InxKey.packed_number in
    first_valid g.P.PtrKey.key c.args.self.now _ _ _ _
    (finding_at g.P.PtrKey.key c.args.self.now _ (entry_views packed c.next.new.self) (g.P.PtrKey.key c.in-Some.p, link_view packed c.in-Some.field-0-1.now) _ _ (ap (entry_views packed) c.in-Some.ensures.steps) c.loop-p.invariant)

pub mark_chain-requires-clause-long : goal.mark_chain-requires-clause-long
mark_chain-requires-clause-long g c = omega (arith, c.loop-p.invariant.long, ap length c.deref_mut.ensures.value)

pub loop-p-preserved-in_ok-push : goal.loop-p-preserved-in_ok-push
loop-p-preserved-in_ok-push g c =
    let packed = g.P.Inx.InxKey.packed_number in
    let key = g.P.PtrKey.key in
    let self = c.args.self.now in
    let l = finding_at key self _ (entry_views packed c.next.new.self) (key c.in-Some.p, link_view packed c.in-Some.field-0-1.now) _ _ (ap (entry_views packed) c.in-Some.ensures.steps) c.loop-p.invariant in
    let within = first_within key self _ _ _ _ l in
    let below : c.place_of.result < length c.loop-p.marks.items = omega (arith, within.1, c.place_of.ensures) in
    let free = is_marked-read c.loop-p.marks.items _ c.place_of.result false c.index.result.now c.place_of.ensures below c.index.ensures c.if-not-index.true in
    finding_more key self _ _ _ _ l c.deref_mut.result.now c.mark_chain.new.marks _ c.mark_chain.result c.push.new.self.items free c.deref_mut.ensures.value c.mark_chain.ensures
    (with_items_is c.loop-p.marks c.mark_chain.new.marks (omega (arith, c.mark_chain.ensures.long, c.deref_mut.ensures.len))) c.in_ok-push.ensures.items

pub loop-p-preserved : goal.loop-p-preserved
loop-p-preserved g c =
    let packed = g.P.Inx.InxKey.packed_number in
    let key = g.P.PtrKey.key in
    let self = c.args.self.now in
    let l = finding_at key self _ (entry_views packed c.next.new.self) (key c.in-Some.p, link_view packed c.in-Some.field-0-1.now) _ _ (ap (entry_views packed) c.in-Some.ensures.steps) c.loop-p.invariant in
    let within = first_within key self _ _ _ _ l in
    let below : c.place_of.result < length c.loop-p.marks.items = omega (arith, within.1, c.place_of.ensures) in
    finding_skips key self _ _ _ _ l (is_marked-read c.loop-p.marks.items _ c.place_of.result true c.index.result.now c.place_of.ensures below c.index.ensures c.if-not-index.false)

pub returns : goal.returns
returns g c =
    let packed = g.P.Inx.InxKey.packed_number in
    let key = g.P.PtrKey.key in
    let self = c.args.self.now in
    finding_ends key self c.loop-p.marks.items c.loop-p.heads.items
    (subst (λ es. IsFindingHeads key self es c.loop-p.marks.items c.loop-p.heads.items) (ap (entry_views packed) c.in-None.ensures.steps.0) c.loop-p.invariant)
