use Rattle.std.proofs.Common.{refl, ap, ap₂, ◌∙◌, sym, subst₂}
use Rattle.chain_laws.specs.Insertions.{IsInsertPosition}
use Rattle.chain_laws.proofs.InsertionLemmas.Positions.{position_had}
use Rattle.arena_traits.specs.Arena.{next_index, with_capacity_of}
use Rattle.chain_links.specs.ChainArena.{link_map, insert_between, nonzero_index}
use Rattle.chain_arena.proofs.InsertionEffectLemmas.{known_between}
use Rattle.chain_arena.proofs.insert_entry.ChainArenaInsertEntry.insert.Goals as goal

pub insert_between-requires-clause-position : goal.insert_between-requires-clause-position
insert_between-requires-clause-position g c =
    let a = c.args.self.arena.now in
    subst₂ (IsInsertPosition (link_map a) (next_index a)) (sym c.index_or_none.ensures) (sym c.index_or_none-2.ensures)
    (position_had (link_map a) (next_index a) (nonzero_index c.args.self.prev) (nonzero_index c.args.self.next) c.args.self.fits)

pub returns : goal.returns
returns g c =
    let a = c.args.self.arena.now in
    let u = nonzero_index c.args.self.prev in
    let v = nonzero_index c.args.self.next in
    let made = c.insert_between.ensures in
    let state = made.state ∙ ap₂ (insert_between a c.args.t) c.index_or_none.ensures c.index_or_none-2.ensures in record {
      state = state;
      inserted = known_between a c.args.t made.listed c.insert_between.new.self u v (state ∙ ap (with_capacity_of (insert_between a c.args.t u v)) (sym state))
          (next_index a, a.counter) refl made.agreed (position_had (link_map a) (next_index a) u v c.args.self.fits);
    }
