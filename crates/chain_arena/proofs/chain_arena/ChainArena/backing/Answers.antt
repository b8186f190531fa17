use Rattle.std.proofs.Common.{ap, sym, ◌∙◌, map}
use Rattle.std.specs.Prelude.{min}
use Rattle.std.specs.Option.{option_map}
use Rattle.chain_links.specs.Links.{pair_view}
use Rattle.chain_arena.proofs.chain_arena.ChainArena.backing.Goals as goal

pub returns : goal.returns
returns g c =
    let of_links = c.backing.ensures in
    rw (← c.self.view_is) (record {
      slots = ap (map (option_map (pair_view g.P.Inx.InxKey.packed_number))) of_links.slots;
      freed = of_links.freed;
      capacity = of_links.capacity;
      arena_capacity = of_links.arena_capacity ∙ ap (λ n. min n g.P.Inx.InxKey.greatest) (sym of_links.capacity);
      maximum = of_links.maximum;
    })
