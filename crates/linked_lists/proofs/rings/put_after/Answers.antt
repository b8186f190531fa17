use Rattle.std.proofs.Common.{refl}
use Rattle.chain_laws.specs.Chains.{cyclic}
use Rattle.arena_traits.specs.Growth.{RefusesOneMore}
use Rattle.chain_traits.proofs.OutcomeLemmas.{insertion_to}
use Rattle.chain_lists.proofs.ListChangeLemmas.{item_after}
use Rattle.linked_lists.proofs.rings.put_after.Goals as goal

pub returns-clause-outcome : goal.returns-clause-outcome
returns-clause-outcome g c =
    let a = c.args.arena.now in
    let p = g.P.PtrKey.key c.args.p in
    rw c.if-not-may.false (record {
      outcome = insertion_to _ (RefusesOneMore (g.A.ArenaTrait.view a)) _ _ c.insert_reallocating.result c.insert_reallocating.ensures.outcome (λ q gained. (
        item_after g.A.ArenaTrait.state g.A.ChainArenaTrait.interlinks g.met.A.ChainArenaTrait.links_are_entries cyclic a c.insert_reallocating.new.self c.agrees.ensures (g.P.PtrKey.key q) c.args.value p gained.0 (λ x y. (gained.0.chains.after p.0 refl refl x y).1),
        gained.1,
      ));
      err = c.insert_reallocating.ensures.err;
    })
