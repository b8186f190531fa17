use Rattle.std.proofs.Common.{ℕ, ◌≤◌, Bool, true, false, List, [], ◌∷◌, length, ap, sym, ◌∙◌, subst, arith}
use Rattle.std.specs.Prelude.{is_none, if◌then◌else◌}
use Rattle.chain_links.specs.ChainArena.{LinkView, on_value}
use Rattle.chain_links.specs.Links.{entry_views, link_view}
use Rattle.chain_compaction.proofs.ValueViewLemmas.{entry_views-all}
use Rattle.std.proofs.lemmas.List.{length-map}
use Rattle.chain_arena.specs.Starts.{starts_among, AreStarts}
use Rattle.chain_arena.proofs.StartLemmas.{are_starts}
use Rattle.chain_arena.proofs.chain_arena.ChainArena.starts.Goals as goal

among_at_most : {Gen T : Type 0} (es : List ((ℕ × Gen) × LinkView T)) → length (starts_among es) ≤ length es
among_at_most [] = omega arith
among_at_most {Gen} (e ∷ es) = by (is_none e.1.prev) (among_at_most es)
  where
    by : (b : Bool) → length (starts_among es) ≤ length es → length (if b then e.0 ∷ starts_among es else starts_among es) ≤ length (e ∷ es)
    by true few = omega (arith, few)
    by false few = omega (arith, few)

pub returns-clause-list : goal.returns-clause-list
returns-clause-list g c =
    let packed = g.P.Inx.InxKey.packed_number in
    rw (← c.self.view_is) (ap (λ es. starts_among (entry_views packed es)) c.links_of.ensures.0 ∙ ap starts_among (entry_views-all packed c.self.inside.arena))

pub returns-clause-starts : goal.returns-clause-starts
returns-clause-starts g c = subst (AreStarts c.args.self.now) (sym (returns-clause-list g c)) (are_starts c.args.self.now c.invariants.ensures.agree)

pub returns-clause-fits : goal.returns-clause-fits
returns-clause-fits g c =
    let packed = g.P.Inx.InxKey.packed_number in
    let few = among_at_most (entry_views packed c.links_of.result) in
    let same = length-map c.links_of.result (on_value (link_view packed)) in
    omega (arith, few, same, c.links_of.ensures.1)
