use Rattle.std.proofs.Common.{◌≡◌, ℕ, Option, Some, ap, ◌∙◌}
use Rattle.std.specs.Option.{option_map}
use Rattle.chain_laws.specs.Chains.{HasLink, next_of}
use Rattle.chain_laws.specs.Joins.{with_neighbors}
use Rattle.chain_laws.specs.Splices.{without_run}
use Rattle.chain_links.specs.ChainArena.{link_map, with_link_map}
use Rattle.chain_links.specs.Links.{links_view}
use Rattle.chain_linking.proofs.NeighborLemmas.{if_each, next_named, prev_named}
use Rattle.chain_linking.proofs.SpliceWriteLemmas.{skipped_by, still_there, after_there, splices}
use Rattle.chain_linking.proofs.connection.splice.Given.{Over}
use Rattle.chain_linking.proofs.connection.splice.Goals.{After-link_pair}
use Rattle.chain_linking.proofs.connection.splice.Goals as goal

skips_it : (g : Over) (c : After-link_pair g) → links_view g.P.Inx.InxKey.packed_number c.link_pair.new.arena
    ≡ with_link_map (links_view g.P.Inx.InxKey.packed_number c.args.arena.now) (without_run (link_map (links_view g.P.Inx.InxKey.packed_number c.args.arena.now)) (g.P.Inx.InxKey.number c.args.first) (g.P.Inx.InxKey.number c.args.last))
skips_it g c =
    let number = g.P.Inx.InxKey.number in
    let packed = g.P.Inx.InxKey.packed_number in
    skipped_by (links_view packed c.args.arena.now) (links_view packed c.link_pair.new.arena) (number c.args.first) (number c.args.last) (option_map number c.beside-prev.result.0) (option_map number c.beside-next.result.1)
    c.beside-prev.ensures.prev c.beside-next.ensures.next c.link_pair.ensures.links

there : (g : Over) (c : After-link_pair g) (j : ℕ) → HasLink (link_map (links_view g.P.Inx.InxKey.packed_number c.args.arena.now)) j → HasLink (link_map (links_view g.P.Inx.InxKey.packed_number c.link_pair.new.arena)) j
there g c j valid = still_there (links_view g.P.Inx.InxKey.packed_number c.args.arena.now) (links_view g.P.Inx.InxKey.packed_number c.link_pair.new.arena) (g.P.Inx.InxKey.number c.args.first) (g.P.Inx.InxKey.number c.args.last) (skips_it g c) j valid

pub link_pair-requires-clause-prev : goal.link_pair-requires-clause-prev
link_pair-requires-clause-prev g c =
    rw c.beside-prev.ensures.prev (prev_named (link_map (links_view g.P.Inx.InxKey.packed_number c.args.arena.now)) (g.P.Inx.InxKey.number c.args.first) c.requires.agrees)

pub link_pair-requires-clause-next : goal.link_pair-requires-clause-next
link_pair-requires-clause-next g c =
    rw c.beside-next.ensures.next (next_named (link_map (links_view g.P.Inx.InxKey.packed_number c.args.arena.now)) (g.P.Inx.InxKey.number c.args.last) c.requires.agrees)

pub beside-after-requires : goal.beside-after-requires
beside-after-requires g c = there g c (g.P.Inx.InxKey.number c.args.p) c.requires.before

pub link_pairs-requires-clause-first_prev : goal.link_pairs-requires-clause-first_prev
link_pairs-requires-clause-first_prev g c = there g (goal.at.link_pairs-requires-clause-first_prev g c).After-link_pair (g.P.Inx.InxKey.number c.args.p) c.requires.before

pub link_pairs-requires-clause-first_next : goal.link_pairs-requires-clause-first_next
link_pairs-requires-clause-first_next g c = there g (goal.at.link_pairs-requires-clause-first_next g c).After-link_pair (g.P.Inx.InxKey.number c.args.first) c.requires.first

pub link_pairs-requires-clause-second_prev : goal.link_pairs-requires-clause-second_prev
link_pairs-requires-clause-second_prev g c = there g (goal.at.link_pairs-requires-clause-second_prev g c).After-link_pair (g.P.Inx.InxKey.number c.args.last) c.requires.last

pub link_pairs-requires-clause-second_next : goal.link_pairs-requires-clause-second_next
link_pairs-requires-clause-second_next g c =
    let a = links_view g.P.Inx.InxKey.packed_number c.args.arena.now in
    let b = links_view g.P.Inx.InxKey.packed_number c.link_pair.new.arena in
    let p = g.P.Inx.InxKey.number c.args.p in
    let first = g.P.Inx.InxKey.number c.args.first in
    let last = g.P.Inx.InxKey.number c.args.last in
    rw c.beside-after.ensures.next (if_each (next_of (link_map b) p) (HasLink (link_map b))
    (λ k is. after_there a b first last (skips_it g (goal.at.link_pairs-requires-clause-second_next g c).After-link_pair) p k c.requires.agrees is))

pub returns : goal.returns
returns g c =
    let a = links_view g.P.Inx.InxKey.packed_number c.args.arena.now in
    let b = links_view g.P.Inx.InxKey.packed_number c.link_pair.new.arena in
    let p = g.P.Inx.InxKey.number c.args.p in
    let first = g.P.Inx.InxKey.number c.args.first in
    let last = g.P.Inx.InxKey.number c.args.last in
    record {
      links = splices a b first last (skips_it g (goal.at.returns g c).After-link_pair) (links_view g.P.Inx.InxKey.packed_number c.link_pairs.new.arena) p
          (c.link_pairs.ensures.links ∙ ap (λ (v : Option ℕ). with_link_map b (with_neighbors (with_neighbors (link_map b) (Some p) (Some first)) (Some last) v)) c.beside-after.ensures.next);
      at_rest = λ rest. c.link_pairs.ensures.at_rest (c.link_pair.ensures.at_rest rest);
    }
