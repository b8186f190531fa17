use Rattle.std.proofs.Common.{sym, ap, ◌∙◌}
use Rattle.std.specs.Prelude.{is_some}
use Rattle.std.proofs.lemmas.Bool.{false≢true}
use Rattle.chain_links.proofs.MappedArenaLemmas.{is_some-map}
use Rattle.chain_linking.proofs.ConnectionLemmas.{can_connect, not_valid}
use Rattle.chain_linking.proofs.connection.can_connect.Goals as goal

pub returns-in-Some-get : goal.returns-in-Some-get
returns-in-Some-get g c =
    can_connect g.P.Inx.InxKey.packed_number c.args.arena.now (g.P.PtrKey.key c.args.p) (g.P.PtrKey.key c.args.q) c.in-Some.end.now c.in-Some-get.start.now _ _ c.in-Some.ensures.value c.in-Some-get.ensures.value
    (sym (ap is_some c.next.ensures) ∙ (is_some-map _ c.next.result ∙ c.is_none.ensures))
    (sym (ap is_some c.prev.ensures) ∙ (is_some-map _ c.prev.result ∙ c.is_none-in-Some-get.ensures))

pub returns-in-None-get : goal.returns-in-None-get
returns-in-None-get g c = (
  λ h. absurd (false≢true h),
  λ can. absurd (not_valid g.P.Inx.InxKey.packed_number c.args.arena.now _ (λ valid. false≢true (c.in-None-get.ensures.some.1 valid)) can.second_valid),
)

pub returns-in-None : goal.returns-in-None
returns-in-None g c = (
  λ h. absurd (false≢true h),
  λ can. absurd (not_valid g.P.Inx.InxKey.packed_number c.args.arena.now _ (λ valid. false≢true (c.in-None.ensures.some.1 valid)) can.first_valid),
)
