use Rattle.std.proofs.Common.{Some, refl, ap, sym, subst}
use Rattle.chain_links.specs.Links.{AreAtRest}
use Rattle.chain_compaction.specs.DetachedLinks.{link_map_in}
use Rattle.chain_compaction.proofs.DetachedLinkLemmas.{work-none, work-touched}
use Rattle.chain_compaction.proofs.LinkLoanLemmas.{lent, lent_none, overwritten_rests}
use Rattle.chain_compaction.proofs.NeighborUpdateLemmas.{states_none, kept_values, states_nowhere, prev_values, states_prev, next_values, states_next}
use Rattle.chain_compaction.proofs.WorkCountLemmas.{counts_none}
use Rattle.chain_compaction.proofs.compress.set_neighbor.Goals as goal

pub returns-then-before : goal.returns-then-before
returns-then-before g c =
    let number = g.P.Inx.InxKey.number in
    let packed = g.P.Inx.InxKey.packed_number in
    let i = number c.in-Some.i in
    let old = c.args.compactor.now in
    let target = Some (number c.args.named) in
    let link = c.in-Some-value_mut.link.now in
    let left = c.set_prev.new.link in
    let new = c.value_mut.follows.lender left in
    let wrote = lent old new i c.value_mut.result c.in-Some-value_mut.link left c.in-Some-value_mut.is c.value_mut.ensures.value (c.value_mut.follows.holds left) in
    record {
      counts = wrote.counts;
      values = prev_values number packed old.detached new.detached c.args.before c.args.i target c.in-Some.i c.in-Some.is link left wrote.stored wrote.detached c.if-before.true c.set_prev.ensures.rest;
      at_rest = overwritten_rests packed old new i link left wrote (ap (λ l. packed l.destination) c.set_prev.ensures.rest);
      links = states_prev number packed old.detached new.detached c.args.before c.args.i target c.in-Some.i c.in-Some.is link left wrote.stored wrote.detached c.if-before.true c.set_prev.ensures.rest c.set_prev.ensures.prev;
      work = work-touched old.arena.now new.arena.now wrote.arena;
    }

pub returns-else-before : goal.returns-else-before
returns-else-before g c =
    let number = g.P.Inx.InxKey.number in
    let packed = g.P.Inx.InxKey.packed_number in
    let i = number c.in-Some.i in
    let old = c.args.compactor.now in
    let target = Some (number c.args.named) in
    let link = c.in-Some-value_mut.link.now in
    let left = c.set_next.new.link in
    let new = c.value_mut.follows.lender left in
    let wrote = lent old new i c.value_mut.result c.in-Some-value_mut.link left c.in-Some-value_mut.is c.value_mut.ensures.value (c.value_mut.follows.holds left) in
    record {
      counts = wrote.counts;
      values = next_values number packed old.detached new.detached c.args.before c.args.i target c.in-Some.i c.in-Some.is link left wrote.stored wrote.detached c.if-before.false c.set_next.ensures.rest;
      at_rest = overwritten_rests packed old new i link left wrote (ap (λ l. packed l.destination) c.set_next.ensures.rest);
      links = states_next number packed old.detached new.detached c.args.before c.args.i target c.in-Some.i c.in-Some.is link left wrote.stored wrote.detached c.if-before.false c.set_next.ensures.rest c.set_next.ensures.next;
      work = work-touched old.arena.now new.arena.now wrote.arena;
    }

pub returns-in-None-value_mut : goal.returns-in-None-value_mut
returns-in-None-value_mut g c =
    let number = g.P.Inx.InxKey.number in
    let packed = g.P.Inx.InxKey.packed_number in
    let i = number c.in-Some.i in
    let old = c.args.compactor.now in
    let new = c.value_mut.follows.lender-at-none in
    let kept = lent_none old new i c.value_mut.result c.in-None-value_mut.is c.value_mut.ensures.value c.value_mut.follows.holds-at-none in
    record {
      counts = kept.counts;
      values = kept_values number packed old.detached new.detached c.args.before c.args.i (Some (number c.args.named)) c.in-Some.i c.in-Some.is kept.detached;
      at_rest = λ rest. subst (λ detached. AreAtRest packed detached.slots) (sym kept.detached) rest;
      links = states_nowhere number packed old.detached new.detached c.args.before c.args.i (Some (number c.args.named)) c.in-Some.i c.in-Some.is kept.detached kept.none;
      work = work-touched old.arena.now new.arena.now kept.arena;
    }

pub returns-in-None : goal.returns-in-None
returns-in-None g c =
    let number = g.P.Inx.InxKey.number in
    let old = c.args.compactor.now in
    record {
      counts = counts_none old;
      values = refl;
      at_rest = λ rest. rest;
      links = states_none number (link_map_in g.P.Inx.InxKey.packed_number old.detached.slots) c.args.before c.args.i (Some (number c.args.named)) c.in-None.is;
      work = work-none old.arena.now 1;
    }
