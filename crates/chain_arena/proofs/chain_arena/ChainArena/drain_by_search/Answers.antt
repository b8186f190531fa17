use Rattle.std.proofs.Common.{◌≡◌, ap, sym, ◌∙◌, subst, arith}
use Rattle.arena_traits.specs.Arena.{entry_at}
use Rattle.chain_links.specs.ChainArena.{values_of}
use Rattle.chain_arena.proofs.ChainDrainLemmas.{nonzero_index-is}
use Rattle.chain_arena.proofs.LinkDrainLemmas.{first_has, same_first, taken_first, IsBehind, is_behind}
use Rattle.chain_arena.proofs.chain_arena.ChainArena.drain_by_search.Goals as goal

pub proved_unreachable-assume_proved-requires : goal.proved_unreachable-assume_proved-requires
proved_unreachable-assume_proved-requires g c = absurd (
    let a = c.args.self.now in
    first_has a c.args.at (g.P.PtrKey.key c.in-Some.p) c.in-Some.ensures (ap (entry_at (values_of a)) (sym c.inx-i.ensures) ∙ c.in-None-take_link.ensures.0))

pub returns-in-Some-take_link : goal.returns-in-Some-take_link
returns-in-Some-take_link g c =
    let key = g.P.PtrKey.key in
    let a = c.args.self.now in
    let taken = c.in-Some-take_link.ensures in
    let index : c.number_or_zero.result ≡ g.P.Inx.InxKey.number c.inx-i.result = nonzero_index-is c.number_or_zero.result _ c.number_or_zero.ensures.index in
    taken_first key g.P.Gen.GenKey.following g.P.Gen.GenKey.wraps a c.take_link.new.self c.args.at _ c.saturating_add.result c.in-Some-take_link.gone taken
    (same_first key g.P.Gen.GenKey.following g.P.Gen.GenKey.wraps a c.take_link.new.self c.args.at _ c.in-Some.p c.in-Some-take_link.gone (sym c.inx-i.ensures) c.in-Some.ensures taken)
    (subst (λ i. IsBehind i c.saturating_add.result) index (is_behind _ c.number_or_zero.result c.saturating_add.result c.saturating_add.ensures (omega (arith, c.number_or_zero.type_inv))))
