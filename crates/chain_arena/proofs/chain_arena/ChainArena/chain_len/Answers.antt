use Rattle.std.proofs.Common.{length, sym, ap, ◌∙◌}
use Rattle.std.proofs.lemmas.List.{length-map}
use Rattle.chain_laws.proofs.WalkLemmas.Walker.{no_other_walk}
use Rattle.chain_links.specs.ChainArena.{link_map}
use Rattle.chain_arena.specs.Drains.{walk_left}
use Rattle.chain_arena.proofs.ChainDrainLemmas.{walk_left-valid}
use Rattle.chain_arena.proofs.chain_arena.ChainArena.chain_len.Goals as goal

pub returns-in-Some : goal.returns-in-Some
returns-in-Some g c =
    let a = c.args.self.now in
    let p = g.P.PtrKey.key c.args.p in
    let links = c.in-Some.ensures in (
      links.0,
      c.count_links.ensures ∙ (sym (length-map c.in-Some.links (λ e. e.0))
          ∙ ap length (no_other_walk (link_map a) p.0 _ (walk_left a p.0) links.1.walk (walk_left-valid a p c.invariants.ensures.agree links.0))),
    )
