use Rattle.std.proofs.Common.{refl, arith}
use Rattle.arena_core.proofs.PointerKindLemmas.{kind_by}
use Rattle.chain_arena.proofs.NewLinkLemmas.{fits_beside, free_capacity, new_link}
use Rattle.chain_arena.proofs.impl_chain_arena_trait.ChainArenaChainArenaTrait.insert_within_capacity.Goals as goal

pub insert_between-requires-clause-position : goal.insert_between-requires-clause-position
insert_between-requires-clause-position g c =
    fits_beside (kind_by g.P.PtrKey g.P.Inx.InxKey g.P.Gen.GenKey) c.args.self.now c.args.kind c.in-Ok.beside c.in-Ok.ensures.agree c.in-Ok.ensures.beside.0 c.in-Ok.ensures.beside.2.0

pub insert_between-requires-clause-capacity : goal.insert_between-requires-clause-capacity
insert_between-requires-clause-capacity g c = free_capacity c.args.self.now c.in-Ok.ensures.beside.1

pub returns-in-Ok : goal.returns-in-Ok
returns-in-Ok g c =
    let old = c.args.self.now in
    let free = c.in-Ok.ensures.beside.1 in
    let made = new_link (kind_by g.P.PtrKey g.P.Inx.InxKey g.P.Gen.GenKey) old c.args.kind c.in-Ok.beside c.in-Ok.ensures.agree c.in-Ok.ensures.beside.0 c.in-Ok.ensures.beside.2.0 g.S.SlotStack.may_reach old
    c.in-Ok.ensures.beside.2.1 c.args.t c.insert_between.result c.insert_between.new.self c.insert_between.ensures in
    record {
      outcome = (c.in-Ok.ensures.beside.0, free, (made.0.0, made.0.1.1 (omega (arith, free))));
      err = tt;
      implementation = made.1;
    }

pub returns-in-Err : goal.returns-in-Err
returns-in-Err g c = record { outcome = c.in-Err.ensures.beside; err = refl; implementation = tt }
