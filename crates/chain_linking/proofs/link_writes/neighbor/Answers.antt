use Rattle.std.proofs.Common.{of_calls, ◌≡◌, Some, refl, sym, ap, ◌∙◌}
use Rattle.chain_linking.proofs.ConnectionLemmas.{ptr_at-some}
use Rattle.chain_linking.proofs.NeighborLemmas.{nothing_at}
use Rattle.chain_linking.proofs.link_writes.neighbor.Goals as goal

pub returns-in-Some-get_inx : goal.returns-in-Some-get_inx
returns-in-Some-get_inx g c =
    let number = g.P.Inx.InxKey.number in
    let packed_number = g.P.Inx.InxKey.packed_number in
    let at = ptr_at-some packed_number c.args.arena.now (number c.in-Some.i) c.in-Some-get_inx.generation c.in-Some-get_inx.field-0-1.now (sym c.in-Some-get_inx.ensures) in
    let named : g.P.PtrKey.key c._from_raw.result ≡ (number c.in-Some.i, c.in-Some-get_inx.generation) = search of_calls in
    rw c.in-Some.is (ap Some named ∙ sym at)

pub proved_unreachable-assume_proved-requires : goal.proved_unreachable-assume_proved-requires
proved_unreachable-assume_proved-requires g c = absurd (nothing_at g.P.Inx.InxKey.packed_number c.args.arena.now (g.P.Inx.InxKey.number c.in-Some.i) (sym c.in-None-get_inx.ensures) (rw c.in-Some.is at c.requires))

pub returns-in-None : goal.returns-in-None
returns-in-None g c = rw c.in-None.is refl
