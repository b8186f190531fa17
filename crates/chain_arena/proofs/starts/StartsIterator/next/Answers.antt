use Rattle.std.proofs.Common.{◌≡◌, ℕ, ◌<◌, true, false, List, ◌∷◌, length, refl, ap, sym, ◌∙◌, arith}
use Rattle.std.specs.Prelude.{not, is_none, if◌then◌else◌}
use Rattle.chain_links.specs.ChainArena.{LinkView}
use Rattle.chain_links.specs.Links.{entry_views, link_view}
use Rattle.chain_arena.specs.Starts.{starts_among}
use Rattle.chain_arena.proofs.StartLemmas.{missing}
use Rattle.chain_arena.proofs.starts.StartsIterator.next.Goals as goal

shorter : {X : Type 0} (x : X) (s t : List X) → s ≡ x ∷ t → length t < length s
shorter x s t is = let h = ap length is in omega (arith, h)

first_kept : {Gen T : Type 0} (e : (ℕ × Gen) × LinkView T) (es : List ((ℕ × Gen) × LinkView T)) → is_none e.1.prev ≡ true → starts_among (e ∷ es) ≡ e.0 ∷ starts_among es
first_kept e es is = ap (λ b. if b then e.0 ∷ starts_among es else starts_among es) is

first_passed : {Gen T : Type 0} (e : (ℕ × Gen) × LinkView T) (es : List ((ℕ × Gen) × LinkView T)) → is_none e.1.prev ≡ false → starts_among (e ∷ es) ≡ starts_among es
first_passed e es is = ap (λ b. if b then e.0 ∷ starts_among es else starts_among es) is

pub loop-item-init : goal.loop-item-init
loop-item-init g c = refl

pub returns-then-is_none-clause-steps : goal.returns-then-is_none-clause-steps
returns-then-is_none-clause-steps g c =
    let packed = g.P.Inx.InxKey.packed_number in
    sym c.self.view_is ∙ (sym c.loop-item.invariant ∙ (ap (λ es. starts_among (entry_views packed es)) c.in-Some.ensures.steps
    ∙ first_kept (g.P.PtrKey.key c.in-Some.item.0, link_view packed c.in-Some.item.1.now) (entry_views packed c.next.new.self) (missing g.P.Inx.InxKey.number c.prev.result _ true c.prev.ensures (c.is_none.ensures ∙ ap not c.if-is_none.true))))

pub returns-then-is_none-clause-goes : goal.returns-then-is_none-clause-goes
returns-then-is_none-clause-goes g c = record { on = λ _. (tt, tt, shorter _ _ _ (returns-then-is_none-clause-steps g c)); keeps = tt; rests = λ _. tt }

pub loop-item-smaller : goal.loop-item-smaller
loop-item-smaller g c = shorter _ _ _ c.in-Some.ensures.steps

pub loop-item-preserved : goal.loop-item-preserved
loop-item-preserved g c =
    let packed = g.P.Inx.InxKey.packed_number in
    sym (first_passed (g.P.PtrKey.key c.in-Some.item.0, link_view packed c.in-Some.item.1.now) (entry_views packed c.next.new.self) (missing g.P.Inx.InxKey.number c.prev.result _ false c.prev.ensures (c.is_none.ensures ∙ ap not c.if-is_none.false)))
    ∙ (sym (ap (λ es. starts_among (entry_views packed es)) c.in-Some.ensures.steps) ∙ c.loop-item.invariant)

pub returns-clause-steps : goal.returns-clause-steps
returns-clause-steps g c =
    let packed = g.P.Inx.InxKey.packed_number in (
      sym c.self.view_is ∙ (sym c.loop-item.invariant ∙ ap (λ es. starts_among (entry_views packed es)) c.in_default.ensures.steps.0),
      ap (λ es. starts_among (entry_views packed es)) c.in_default.ensures.steps.1,
    )
