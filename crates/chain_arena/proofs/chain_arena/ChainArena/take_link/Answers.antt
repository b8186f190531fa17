use Rattle.std.proofs.Common.{◌≡◌, ap, sym, ◌∙◌, of_calls, Some}
use Rattle.std.specs.Option.{option_map}
use Rattle.arena_core.specs.Invalidation.{value_within, invalidation_option}
use Rattle.arena_core.proofs.PointerKindLemmas.{kind_by}
use Rattle.chain_links.specs.ChainArena.{value_state, link_map}
use Rattle.arena_traits.proofs.CallOutcomeLemmas.{reports_overflow, where_none}
use Rattle.chain_links.proofs.CallEffectLemmas.{returned_at}
use Rattle.chain_arena.proofs.ChainDrainLemmas.{link_at-entry}
use Rattle.chain_arena.proofs.LinkRemovalLemmas.{value_known, holds_if_some}
use Rattle.chain_arena.proofs.LinkDrainLemmas.{link_taken}
use Rattle.chain_arena.proofs.chain_arena.ChainArena.take_link.Goals as goal

pub returns-in-Some : goal.returns-in-Some
returns-in-Some g c =
    let returned = returned_at value_state link_map (kind_by g.P.PtrKey g.P.Inx.InxKey g.P.Gen.GenKey) c.args.self.now c.unlink.new.self c.args.i c.unlink.result c.unlink.ensures.0 ∙ link_at-entry c.args.self.now (g.P.Inx.InxKey.number c.args.i) in
    let key = g.P.PtrKey.key in
    let wraps = g.P.Gen.GenKey.wraps in
    let r = c.unlink.result in
    let made = c.unlink.ensures in
    let p = c._from_raw-p.result in
    let overflow = c.overflowing-entry.result.1 in
    let keyed : key p ≡ (g.P.Inx.InxKey.number c.args.i, c.in-Some.generation) = search of_calls in
    let responded : c.from_overflow.result ≡ invalidation_option overflow (p, c.in-Some.link.t) = search of_calls in
    link_taken key g.P.Gen.GenKey.following wraps g.P.Inx.InxKey.packed_number c.args.self.now c.unlink.new.self _ r (c.in-Some.generation, c.in-Some.link)
    (sym (ap (λ x. x.0) c.overflowing-entry.ensures) ∙ c.in-Some.is) returned (reports_overflow wraps _ _ (Some c.args.self.now.counter) r made.0) (holds_if_some (value_within r) made.2) p keyed
    overflow (ap (λ x. x.1) c.overflowing-entry.ensures) c.from_overflow.result responded

pub returns-in-None : goal.returns-in-None
returns-in-None g c =
    let returned = returned_at value_state link_map (kind_by g.P.PtrKey g.P.Inx.InxKey g.P.Gen.GenKey) c.args.self.now c.unlink.new.self c.args.i c.unlink.result c.unlink.ensures.0 ∙ link_at-entry c.args.self.now (g.P.Inx.InxKey.number c.args.i) in
    let none = sym (ap (λ x. x.0) c.overflowing-entry.ensures) ∙ c.in-None.is in
    (sym (value_known g.P.Inx.InxKey.packed_number g.P.Gen.GenKey.following c.args.self.now c.unlink.new.self _ _ returned) ∙ ap (option_map (λ e. (e.0, e.1.t))) none, where_none _ c.unlink.ensures.1 none)
