use Rattle.std.proofs.Common.{refl, sym, subst, ◌∙◌}
use Rattle.polygons.specs.Rings.{AllCyclic}
use Rattle.chain_laws.specs.Chains.{cyclic}
use Rattle.chain_lists.proofs.ValueWriteLemmas.{has_new_value}
use Rattle.polygons.proofs.polygons.Polygons.get_mut.Goals as goal

pub invariant_of-self-lent : goal.invariant_of-self-lent
invariant_of-self-lent g c w =
    let held = rw c.in-Some.is at (c.get_mut.follows.holds w) in
    subst AllCyclic (sym (g.met.A.ChainArenaTrait.write_keeps _ _ _ _ held.1)) c.self.invariant

pub returns-in-Some : goal.returns-in-Some
returns-in-Some g c =
    let p = g.P.PtrKey.key c.args.corner in (
      (
        refl,
        (λ w.
            let held = rw c.in-Some.is at (c.get_mut.follows.holds w) in
            rw (← c.self.view_is) (has_new_value g.A.ArenaTrait.state g.A.ChainArenaTrait.interlinks cyclic (λ l. refl) c.self.inside.corners _ p.0 w held.0 p.1 (g.met.A.ChainArenaTrait.write_keeps _ _ _ _ held.1))),
        refl,
      ),
      record {
        writes_back = tt;
        some = rw (← c.self.view_is) (λ some. c.in-Some.ensures.some.0 refl, λ valid. refl);
        point = rw (← c.self.view_is) c.in-Some.ensures.value;
      },
    )

pub returns-in-None : goal.returns-in-None
returns-in-None g c = (
  (refl, (λ w. tt), c.get_mut.follows.holds-at-none ∙ c.self.view_is),
  record { writes_back = tt; some = rw (← c.self.view_is) (λ some. absurd (cc), λ valid. c.in-None.ensures.some.1 valid); point = tt },
)
