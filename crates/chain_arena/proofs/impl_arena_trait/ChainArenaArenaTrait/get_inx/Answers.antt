use Rattle.std.proofs.Common.{ap, sym, ◌∙◌, of_calls}
use Rattle.std.specs.Option.{option_map}
use Rattle.chain_links.specs.ChainArena.{on_value}
use Rattle.chain_linking.proofs.ConnectionLemmas.{value_at}
use Rattle.chain_links.specs.Links.{held_in}
use Rattle.chain_arena.proofs.impl_arena_trait.ChainArenaArenaTrait.get_inx.Goals as goal

pub returns-in-Some : goal.returns-in-Some
returns-in-Some g c =
    let at = value_at g.P.Inx.InxKey.packed_number c.self.inside.arena (g.P.Inx.InxKey.number c.args.i) ∙ ap (option_map (on_value held_in)) (sym c.in-Some.ensures) in
    rw (← c.self.view_is, at) (search of_calls)

pub returns-in-None : goal.returns-in-None
returns-in-None g c = rw (← c.self.view_is) (sym (value_at g.P.Inx.InxKey.packed_number c.self.inside.arena (g.P.Inx.InxKey.number c.args.i) ∙ ap (option_map (on_value held_in)) (sym c.in-None.ensures)))
