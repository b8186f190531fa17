use Rattle.arena_core.proofs.PointerKindLemmas.{kind_by}
use Rattle.arena_traits.specs.Growth.{RefusesOneMore}
use Rattle.chain_links.specs.ChainArena.{value_view}
use Rattle.chain_arena.proofs.NewLinkLemmas.{fits_grown, grown_capacity, new_link, insertion_refused}
use Rattle.chain_arena.proofs.impl_chain_arena_trait.ChainArenaChainArenaTrait.insert_reallocating.Goals as goal

pub insert_between-requires-clause-position : goal.insert_between-requires-clause-position
insert_between-requires-clause-position g c =
    let found = rw c.in-Ok-Some.field-0-is at c.in-Ok-Some.ensures.beside in
    fits_grown (kind_by g.P.PtrKey g.P.Inx.InxKey g.P.Gen.GenKey) c.args.self.now c.args.kind c.in-Ok-Some.beside c.beside_with_growth.ensures.agreed found.0 found.1 g.S.SlotStack.may_reach c.beside_with_growth.new.self found.2

pub insert_between-requires-clause-capacity : goal.insert_between-requires-clause-capacity
insert_between-requires-clause-capacity g c = grown_capacity g.S.SlotStack.may_reach g.P.Inx.InxKey.greatest c.args.self.now c.beside_with_growth.new.self (rw c.in-Ok-Some.field-0-is at c.in-Ok-Some.ensures.beside).2

pub returns-in-Ok-Some : goal.returns-in-Ok-Some
returns-in-Ok-Some g c =
    let found = rw c.in-Ok-Some.field-0-is at c.in-Ok-Some.ensures.beside in
    let made = new_link (kind_by g.P.PtrKey g.P.Inx.InxKey g.P.Gen.GenKey) c.args.self.now c.args.kind c.in-Ok-Some.beside c.beside_with_growth.ensures.agreed found.0 found.1 g.S.SlotStack.may_reach c.beside_with_growth.new.self found.2
    c.args.t c.insert_between.result c.insert_between.new.self c.insert_between.ensures in
    record { outcome = (found.0, made.0); err = tt; implementation = made.1 }

pub returns-in-Ok-None : goal.returns-in-Ok-None
returns-in-Ok-None g c = record { outcome = (rw c.in-Ok-None.field-0-is at c.in-Ok-None.ensures.beside).0; err = (rw c.in-Ok-None.field-0-is at c.in-Ok-None.ensures.beside).1; implementation = tt }

pub returns-in-Err : goal.returns-in-Err
returns-in-Err g c =
    let refused = c.in-Err.ensures.beside in
    record { outcome = insertion_refused _ (RefusesOneMore (value_view c.args.self.now)) c.in-Err.why c.from.result c.from.ensures refused.0 refused.1; err = refused.2; implementation = tt }
