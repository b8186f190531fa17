use Rattle.std.proofs.Common.{refl, ap₂, sym, ◌∙◌}
use Rattle.std.proofs.lemmas.Bool.{false≢true}
use Rattle.chain_links.proofs.ArenaInsertionLemmas.{entry_count-links_view}
use Rattle.chain_linking.proofs.ConnectionLemmas.{same_valid}
use Rattle.chain_linking.specs.BackSteps.{back_walker_at}
use Rattle.chain_arena.proofs.chain_arena.ChainArena.advancer_chain_back.Goals as goal

pub returns-then-contains : goal.returns-then-contains
returns-then-contains g c =
    let number = g.P.Inx.InxKey.packed_number in
    let a = c.self.inside.arena in
    rw (← c.self.view_is) (
      (same_valid number a (g.P.PtrKey.key c.args.p)).0 (c.if-contains.ensures.0 refl),
      c.new.ensures ∙ ap₂ back_walker_at (c.len.ensures.entries ∙ sym (entry_count-links_view number a)) c.inx.ensures,
    )

pub returns-else-contains : goal.returns-else-contains
returns-else-contains g c =
    let same = same_valid g.P.Inx.InxKey.packed_number c.self.inside.arena (g.P.PtrKey.key c.args.p) in
    rw (← c.self.view_is) (λ valid. false≢true (c.if-contains.ensures.1 (same.1 valid)))
