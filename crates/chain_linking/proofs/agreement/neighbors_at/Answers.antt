use Rattle.std.proofs.Common.{ap, sym, ◌∙◌}
use Rattle.chain_laws.specs.Chains.{prev_in, next_in}
use Rattle.chain_linking.proofs.ConnectionLemmas.{prev_of-view_after, next_of-view_after}
use Rattle.chain_linking.proofs.LinkEntryLemmas.{reports_nothing}
use Rattle.chain_linking.proofs.agreement.neighbors_at.Goals as goal

pub returns-in-Some : goal.returns-in-Some
returns-in-Some g c =
    let packed = g.P.Inx.InxKey.packed_number in
    let a = c.args.arena.now in
    let i = g.P.Inx.InxKey.number c.args.i in
    let stored = sym c.in-Some.ensures in
    record {
      prev = c.prev_next.ensures.prev ∙ sym (prev_of-view_after packed a (i, _) _ stored);
      next = c.prev_next.ensures.next ∙ sym (next_of-view_after packed a (i, _) _ stored);
    }

pub returns-in-None : goal.returns-in-None
returns-in-None g c =
    let none = reports_nothing g.P.Inx.InxKey.packed_number c.args.arena.now (g.P.Inx.InxKey.number c.args.i) (sym c.in-None.ensures) in
    record { prev = sym (ap prev_in none); next = sym (ap next_in none) }
