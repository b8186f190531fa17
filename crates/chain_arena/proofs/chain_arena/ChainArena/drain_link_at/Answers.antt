use Rattle.std.proofs.Common.{◌≡◌, ap, sym, ◌∙◌, subst, arith}
use Rattle.arena_traits.specs.Arena.{entry_at}
use Rattle.arena_core.specs.Invalidation.{value_in}
use Rattle.chain_links.specs.ChainArena.{values_of}
use Rattle.chain_arena.proofs.LinkDrainLemmas.{taken_first, stored_first, IsBehind, is_behind}
use Rattle.chain_arena.proofs.chain_arena.ChainArena.drain_link_at.Goals as goal

pub returns-in-Some : goal.returns-in-Some
returns-in-Some g c =
    let key = g.P.PtrKey.key in
    let a = c.args.self.now in
    let gone = c.in-Some.gone in
    let taken = c.in-Some.ensures in
    let index : g.P.Inx.InxKey.number c.inx_at-i.result ≡ c.args.at = omega (arith, c.inx_at-i.ensures, c.if-at-eq0.false) in
    taken_first key g.P.Gen.GenKey.following g.P.Gen.GenKey.wraps a c.take_link.new.self c.args.at _ c.saturating_add.result gone taken
    (stored_first a c.args.at (key (value_in gone).0) (value_in gone).1 (taken.index ∙ index) (ap (entry_at (values_of a)) (sym index) ∙ taken.stored))
    (subst (λ i. IsBehind i c.saturating_add.result) (sym index) (is_behind _ c.args.at c.saturating_add.result c.saturating_add.ensures (omega (arith, c.ranges.at.fits))))
