use Rattle.std.proofs.Common.{None, Some, sym, ap, ◌∙◌, subst}
use Rattle.std.specs.Prelude.{is_some}
use Rattle.chain_laws.specs.ChainStart.{IsStart}
use Rattle.chain_links.proofs.MappedArenaLemmas.{is_some-map}
use Rattle.chain_traits.proofs.GenericArenaLemmas.{next_is, none_is}
use Rattle.chain_traits.proofs.drain_in_order.next_chain.Goals as goal

pub start_of-start-requires-clause-some : goal.start_of-start-requires-clause-some
start_of-start-requires-clause-some g c =
    let source = c.args.source.now in
    let low = c.requires.low in
    let first = next_is (g.A.ArenaTrait.view source).entries (g.A.ArenaTrait.cursor c.args.advancer.now) (g.A.ArenaTrait.cursor c.advance.new.self) low.0 (g.Q.PtrKey.key c.in-Some.q) low.1 low.2
    (g.met.A.ArenaTrait.advances c.args.advancer.now c.advance.new.self source (Some c.in-Some.q) c.in-Some.ensures) in
    ap is_some (ap (g.A.ArenaTrait.entry source) c.inx.ensures ∙ sym ((g.A.ArenaTrait.state source).finds (g.Q.PtrKey.key c.in-Some.q).0)) ∙ first.0.stored

pub proved_unreachable-assume_proved-requires : goal.proved_unreachable-assume_proved-requires
proved_unreachable-assume_proved-requires g c = absurd (
    let source = c.args.source.now in
    let low = c.requires.low in
    c.requires.some (none_is (g.A.ArenaTrait.view source).entries (g.A.ArenaTrait.cursor c.args.advancer.now) (g.A.ArenaTrait.cursor c.advance.new.self) low.0 low.1 low.2
    (g.met.A.ArenaTrait.advances c.args.advancer.now c.advance.new.self source None c.in-None.ensures)))

pub returns : goal.returns
returns g c =
    let source = c.args.source.now in
    let low = c.requires.low in
    let links = g.A.ChainArenaTrait.interlinks source in
    let first = next_is (g.A.ArenaTrait.view source).entries (g.A.ArenaTrait.cursor c.args.advancer.now) (g.A.ArenaTrait.cursor c.advance.new.self) low.0 (g.Q.PtrKey.key c.in-Some.q) low.1 low.2
    (g.met.A.ArenaTrait.advances c.args.advancer.now c.advance.new.self source (Some c.in-Some.q) c.in-Some.ensures) in
    record {
      next = record {
        least = (g.Q.PtrKey.key c.in-Some.q).0;
        stored = first.0.stored;
        none_below = first.0.low;
        start = subst (λ i. IsStart links i (g.Q.Inx.InxKey.number c.start_of-start.result)) c.inx.ensures c.start_of-start.ensures.start;
        cyclic = c.is_some.ensures ∙ (sym (is_some-map g.Q.Inx.InxKey.number c.before-in-Some.result) ∙ ap is_some c.before-in-Some.ensures);
        cursor = first.1;
      };
      some = c.start_of-start.ensures.some;
    }
