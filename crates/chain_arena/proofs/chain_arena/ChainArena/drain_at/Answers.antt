use Rattle.std.proofs.Common.{Some, ap, sym, ◌∙◌}
use Rattle.std.specs.Prelude.{is_some}
use Rattle.arena_core.proofs.PointerKindLemmas.{kind_by}
use Rattle.chain_links.specs.ChainArena.{value_state, link_map}
use Rattle.arena_traits.proofs.CallOutcomeLemmas.{reports_overflow, where_none}
use Rattle.chain_links.proofs.CallEffectLemmas.{returned_at}
use Rattle.chain_arena.proofs.ChainDrainLemmas.{drained_step, drained_none}
use Rattle.chain_arena.proofs.LinkRemovalLemmas.{holds_if_some}
use Rattle.chain_arena.proofs.chain_arena.ChainArena.drain_at.Goals as goal

pub returns-in-Some-entry : goal.returns-in-Some-entry
returns-in-Some-entry g c =
    let number = g.P.Inx.InxKey.number in
    let packed = g.P.Inx.InxKey.packed_number in
    let removal = c.remove_inx_link_no_gen.ensures in
    let outcome = removal.outcome in
    let yields = c.drain_item.ensures in
    drained_step g.P.PtrKey.key packed g.P.Gen.GenKey.following g.P.Gen.GenKey.wraps c.args.self.now c.remove_inx_link_no_gen.new.self c.args.at (number c.in-Some.i) c.drain_item.result.0
    c.remove_inx_link_no_gen.result c.in-Some.ensures.some c.invariants.ensures.agree
    (returned_at value_state link_map (kind_by g.P.PtrKey g.P.Inx.InxKey g.P.Gen.GenKey) c.args.self.now c.remove_inx_link_no_gen.new.self c.in-Some.i c.remove_inx_link_no_gen.result outcome) c.in-Some-entry.entry c.overflowing-entry.result.1 c.drain_item.result.1
    (reports_overflow g.P.Gen.GenKey.wraps _ _ (Some c.args.self.now.counter) c.remove_inx_link_no_gen.result outcome) (λ stored. (holds_if_some _ removal.implementation (ap is_some (sym (ap (λ x. x.0) c.overflowing-entry.ensures) ∙ c.in-Some-entry.is))).state) (sym (ap (λ x. x.0) c.overflowing-entry.ensures) ∙ c.in-Some-entry.is) (ap (λ x. x.1) c.overflowing-entry.ensures)
    yields.item.0 yields.item.1 yields.item.2 yields.next

pub returns-in-None-entry : goal.returns-in-None-entry
returns-in-None-entry g c =
    let removal = c.remove_inx_link_no_gen.ensures in
    drained_none g.P.PtrKey.key g.P.Inx.InxKey.packed_number g.P.Gen.GenKey.following g.P.Gen.GenKey.wraps c.args.self.now c.remove_inx_link_no_gen.new.self c.args.at (g.P.Inx.InxKey.number c.in-Some.i) c.args.at
    c.remove_inx_link_no_gen.result c.in-Some.ensures.some c.invariants.ensures.agree
    (returned_at value_state link_map (kind_by g.P.PtrKey g.P.Inx.InxKey g.P.Gen.GenKey) c.args.self.now c.remove_inx_link_no_gen.new.self c.in-Some.i c.remove_inx_link_no_gen.result removal.outcome)
    (sym (ap (λ x. x.0) c.overflowing-entry.ensures) ∙ c.in-None-entry.is) (λ none. where_none _ removal.invalid (sym (ap (λ x. x.0) c.overflowing-entry.ensures) ∙ c.in-None-entry.is))
