use Rattle.std.proofs.Common.{◌≡◌, Bool, true, false, Some, sym, ap, ◌∙◌, arith, of_calls}
use Rattle.chain_laws.proofs.WalkLemmas.WalkBack.{back_begins, back_continues, back_ends, back_wraps_around}
use Rattle.chain_laws.proofs.ChainLemmas.LinkedLists.{next_valid}
use Rattle.chain_traits.proofs.GenericArenaLemmas.{few_back, valid_some}
use Rattle.chain_traits.proofs.drain_in_order.start_of.Goals as goal

not_both : (b : Bool) → b ≡ true → b ≡ false → ⊥
not_both b e f = cc

pub loop-step-init : goal.loop-step-init
loop-step-init g c = record { back = back_begins (g.A.ChainArenaTrait.interlinks c.args.source.now) (g.Q.Inx.InxKey.number c.args.i); some = c.requires.some }

pub returns-then-is_same : goal.returns-then-is_same
returns-then-is_same g c =
    let number = g.Q.Inx.InxKey.number in
    let known : c.is_same.result ≡ g.Q.Inx.InxKey.same c.in-Some.k c.args.i = search of_calls in
    let same = (g.met.Q.Inx.InxKey.same_is_equal c.in-Some.k c.args.i).0 (sym known ∙ c.if-is_same.true) in
    record {
      start = back_wraps_around (g.A.ChainArenaTrait.interlinks c.args.source.now) (number c.args.i) c.loop-step.step (number c.loop-step.at) c.loop-step.invariant.back
          (sym c.in-Some.ensures ∙ ap (λ k. Some (number k)) same);
      some = c.requires.some;
    }

pub returns-in-None : goal.returns-in-None
returns-in-None g c =
    let number = g.Q.Inx.InxKey.number in
    record {
      start = back_ends (g.A.ChainArenaTrait.interlinks c.args.source.now) (number c.args.i) c.loop-step.step (number c.loop-step.at) c.loop-step.invariant.back (sym c.in-None.ensures);
      some = c.loop-step.invariant.some;
    }

pub loop-step-preserved : goal.loop-step-preserved
loop-step-preserved g c =
    let number = g.Q.Inx.InxKey.number in
    let source = c.args.source.now in
    let links = g.A.ChainArenaTrait.interlinks source in
    let known : c.is_same.result ≡ g.Q.Inx.InxKey.same c.in-Some.k c.args.i = search of_calls in
    let before = sym c.in-Some.ensures in
    record {
      back = back_continues links (number c.args.i) c.loop-step.step (number c.loop-step.at) (number c.in-Some.k) c.loop-step.invariant.back before
          (λ e. not_both _ ((g.met.Q.Inx.InxKey.same_is_equal c.in-Some.k c.args.i).1 (g.met.Q.Inx.InxKey.same_number c.in-Some.k c.args.i e)) (sym known ∙ c.if-is_same.false));
      some = valid_some links (g.A.ArenaTrait.entry source) (g.A.ArenaTrait.view source).entries (g.met.A.ChainArenaTrait.links_are_entries source) (g.A.ArenaTrait.state source).finds (number c.in-Some.k)
          (next_valid links (number c.in-Some.k) (number c.loop-step.at) ((c.requires.agree.both (number c.in-Some.k) (number c.loop-step.at)).1 before));
    }

pub proved_unreachable-assume_proved-requires : goal.proved_unreachable-assume_proved-requires
proved_unreachable-assume_proved-requires g c = absurd (
    let number = g.Q.Inx.InxKey.number in
    let source = c.args.source.now in
    let few = few_back (g.A.ChainArenaTrait.interlinks source) (g.A.ArenaTrait.entry source) (g.A.ArenaTrait.view source).entries (g.met.A.ChainArenaTrait.links_are_entries source) (g.A.ArenaTrait.state source).finds
    g.Q.Inx.InxKey.greatest c.len-step-end.ensures.sound.indexes (number c.args.i) c.loop-step.step (number c.loop-step.at) c.requires.agree c.requires.some c.loop-step.invariant.back in
    omega (arith, few, c.len-step-end.ensures.count))
