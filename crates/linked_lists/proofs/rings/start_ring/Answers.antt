use Rattle.std.proofs.Common.{refl}
use Rattle.chain_laws.specs.Chains.{cyclic}
use Rattle.chain_laws.specs.declared.insert_kind.InsertKind.TheVariants.{SingleLinkCyclic}
use Rattle.chain_lists.proofs.ListChangeLemmas.{item_started}
use Rattle.linked_lists.proofs.rings.start_ring.Goals as goal

pub returns-in-Ok-clause-outcome : goal.returns-in-Ok-clause-outcome
returns-in-Ok-clause-outcome g c =
    let gained = c.in-Ok.ensures.outcome in
    record {
      outcome = (
        item_started g.A.ArenaTrait.state g.A.ChainArenaTrait.interlinks g.met.A.ChainArenaTrait.links_are_entries cyclic c.args.arena.now c.insert.new.self c.agrees.ensures (g.P.PtrKey.key c.in-Ok.head) c.args.value SingleLinkCyclic refl gained.0 (gained.0.chains.ring refl refl),
        gained.1,
      );
      err = c.in-Ok.ensures.err;
    }
