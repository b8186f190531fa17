use Rattle.std.proofs.Common.{refl, ap, sym, ◌∙◌, subst}
use Rattle.std.specs.Option.{option_map}
use Rattle.chain_links.specs.Links.{held_in, links_view, AreAtRest}
use Rattle.chain_links.proofs.RestLemmas.{written_at_rest}
use Rattle.chain_arena.proofs.ValueLoanLemmas.{value_there}
use Rattle.chain_arena.proofs.EntryWriteLemmas.{written-state, written-link_map, written-agrees, written-view_after}
use Rattle.chain_arena.proofs.impl_arena_trait.ChainArenaArenaTrait.get_inx_mut.Goals as goal

pub invariant_of-self-lent : goal.invariant_of-self-lent
invariant_of-self-lent g c w =
    let held = rw c.in-Some.is at (c.get_inx_mut.follows.holds (record c.in-Some.link.now { t = w })) in
    let number = g.P.Inx.InxKey.packed_number in
    let a = c.self.inside.arena in
    let n = g.P.Inx.InxKey.number c.args.i in
    let link = c.in-Some.link.now in
    let stored = sym c.in-Some.ensures.value in
    record {
      agree = written-agrees number a _ n link w stored held.1 c.self.invariant.agree;
      at_rest = subst (λ b. AreAtRest number b.slots) (sym held.1) (written_at_rest number a.slots n link (record link { t = w }) stored refl c.self.invariant.at_rest);
    }

pub returns-in-Some : goal.returns-in-Some
returns-in-Some g c =
    let a = c.self.inside.arena in
    let n = g.P.Inx.InxKey.number c.args.i in
    let l = c.in-Some.link.now in (
      (
        refl,
        (λ w.
            let held = rw c.in-Some.is at (c.get_inx_mut.follows.holds (record l { t = w })) in
            rw (← c.self.view_is) (
              written-view_after g.P.Inx.InxKey.packed_number a _ n l w (sym c.in-Some.ensures.value) held.1,
              (written-state g.P.Inx.InxKey.packed_number a _ n l w (sym c.in-Some.ensures.value) held.1, written-link_map g.P.Inx.InxKey.packed_number a _ n l w (sym c.in-Some.ensures.value) held.1),
            )),
        refl,
      ),
      record { writes_back = tt; value = rw (← c.self.view_is) (sym (value_there g.P.Inx.InxKey.packed_number a n ∙ ap (option_map held_in) (sym c.in-Some.ensures.value))) },
    )

pub returns-in-None : goal.returns-in-None
returns-in-None g c = ((refl, (λ w. tt), ap (links_view g.P.Inx.InxKey.packed_number) c.get_inx_mut.follows.holds-at-none ∙ c.self.view_is), record { writes_back = tt; value = rw (← c.self.view_is) (sym (value_there g.P.Inx.InxKey.packed_number c.self.inside.arena (g.P.Inx.InxKey.number c.args.i) ∙ ap (option_map held_in) (sym c.in-None.ensures.value))) })
