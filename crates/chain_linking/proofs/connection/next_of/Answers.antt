use Rattle.std.proofs.Common.{refl, sym, ◌∙◌}
use Rattle.std.proofs.lemmas.Bool.{false≢true}
use Rattle.chain_linking.proofs.ConnectionLemmas.{next_of-view_after, same_valid}
use Rattle.chain_linking.proofs.connection.next_of.Goals as goal

pub returns-in-Some : goal.returns-in-Some
returns-in-Some g c =
    let packed = g.P.Inx.InxKey.packed_number in
    let a = c.args.arena.now in
    let p = g.P.PtrKey.key c.args.p in
    record {
      neighbor = λ _. c.next.ensures ∙ sym (next_of-view_after packed a p c.in-Some.link.now c.in-Some.ensures.value);
      some = λ _. (same_valid packed a p).0 (c.in-Some.ensures.some.0 refl);
    }

pub returns-in-None : goal.returns-in-None
returns-in-None g c = record {
  neighbor = λ valid. absurd (false≢true (c.in-None.ensures.some.1 ((same_valid g.P.Inx.InxKey.packed_number c.args.arena.now (g.P.PtrKey.key c.args.p)).1 valid)));
  some = λ h. absurd (false≢true h);
}
