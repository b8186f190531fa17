use Rattle.std.proofs.Common.{◌≡◌, ◌<◌, ℕ, Option, Some, sym, ◌∙◌, ap, subst, arith}
use Rattle.std.specs.Option.{option_map}
use Rattle.chain_laws.specs.Chains.{IsWellLinked}
use Rattle.chain_laws.specs.Insertions.{IsInsertPosition}
use Rattle.chain_laws.proofs.InsertionLemmas.Pairs.{position_between}
use Rattle.arena_traits.specs.Arena.{entry_count, next_index}
use Rattle.chain_links.specs.Links.{links_view, AreAtRest}
use Rattle.chain_links.proofs.RestLemmas.{inserted_at_rest}
use Rattle.chain_links.specs.ChainArena.{link_map, insert_between}
use Rattle.chain_links.proofs.ArenaInsertionLemmas.{entry_count-links_view, listed-links_view, link_map-next, next_index-links_view}
use Rattle.chain_linking.specs.LinkWrites.{arena_with_both}
use Rattle.chain_linking.proofs.LinkInsertionLemmas.{inserted_beside, both_stored}
use Rattle.chain_arena.proofs.NewLinkLemmas.{next_viewed}
use Rattle.chain_arena.proofs.InsertionEffectLemmas.{agrees-insert_between}
use Rattle.chain_arena.proofs.chain_arena.ChainArena.insert_between.Given.{Over}
use Rattle.chain_arena.proofs.chain_arena.ChainArena.insert_between.Goals.{After-inx, After-write_beside}
use Rattle.chain_arena.proofs.chain_arena.ChainArena.insert_between.Goals as goal

abbrev before : (g : Over) → After-inx g → Option ℕ
before g c = option_map g.P.Inx.InxKey.number c.args.beside.0

abbrev after : (g : Over) → After-inx g → Option ℕ
after g c = option_map g.P.Inx.InxKey.number c.args.beside.1

position : (g : Over) (c : After-inx g) → let s = links_view g.P.Inx.InxKey.packed_number c.self.inside.arena in IsInsertPosition (link_map s) (next_index s) (before g c) (after g c)
position g c = rw (← c.self.view_is) at c.requires.position

at_next : (g : Over) (c : After-inx g) → g.P.Inx.InxKey.number c.inx.result ≡ next_index (links_view g.P.Inx.InxKey.packed_number c.self.inside.arena)
at_next g c =
    c.inx.ensures ∙ (ap (λ p. p.0) {y = (next_index c.self.inside.arena, c.self.inside.arena.counter)} c.insert_next-p.ensures.ptr ∙ sym (next_index-links_view g.P.Inx.InxKey.packed_number c.self.inside.arena))

pub insert_next-p-requires : goal.insert_next-p-requires
insert_next-p-requires g c =
    let packed = g.P.Inx.InxKey.packed_number in
    let a = c.self.inside.arena in
    let within_capacity : entry_count (links_view packed a) < a.capacity = rw (← c.self.view_is) at c.requires.capacity in
    let same = entry_count-links_view packed a in
    omega (arith, within_capacity, same)

pub write_beside-requires-clause-before : goal.write_beside-requires-clause-before
write_beside-requires-clause-before g c =
    let it = (goal.at.write_beside-requires-clause-before g c).After-inx in
    (both_stored g.P.Inx.InxKey.packed_number c.self.inside.arena c.insert_next-p.new.self (before g it) (after g it) c.new.result c.invariants.ensures.listed c.self.invariant.agree (position g it) c.insert_next-p.ensures.after).0

pub write_beside-requires-clause-after : goal.write_beside-requires-clause-after
write_beside-requires-clause-after g c =
    let it = (goal.at.write_beside-requires-clause-after g c).After-inx in
    (both_stored g.P.Inx.InxKey.packed_number c.self.inside.arena c.insert_next-p.new.self (before g it) (after g it) c.new.result c.invariants.ensures.listed c.self.invariant.agree (position g it) c.insert_next-p.ensures.after).1

inserted : (g : Over) (c : After-write_beside g) → let s = links_view g.P.Inx.InxKey.packed_number c.self.inside.arena in
    links_view g.P.Inx.InxKey.packed_number c.write_beside.new.arena ≡ insert_between s c.args.t (option_map g.P.Inx.InxKey.number c.args.beside.0) (option_map g.P.Inx.InxKey.number c.args.beside.1)
inserted g c =
    let packed = g.P.Inx.InxKey.packed_number in
    let a = c.self.inside.arena in
    let s = links_view packed a in
    let b = links_view packed c.insert_next-p.new.self in
    let q = next_index s in
    let u = option_map g.P.Inx.InxKey.number c.args.beside.0 in
    let v = option_map g.P.Inx.InxKey.number c.args.beside.1 in
    let at = (goal.at.returns g c).After-inx in
    inserted_beside packed a c.insert_next-p.new.self (links_view packed c.write_beside.new.arena) u v c.args.t c.new.result c.invariants.ensures.listed c.new.ensures.link
    (position_between (link_map s) q u v c.self.invariant.agree (link_map-next s (listed-links_view packed a c.invariants.ensures.listed).free) (position g at)).forward.itself c.insert_next-p.ensures.after
    (c.write_beside.ensures.links ∙ ap (λ (n : ℕ). arena_with_both b u (Some n) v (Some n)) (at_next g at))

pub invariant_of-self : goal.invariant_of-self
invariant_of-self g c =
    let packed = g.P.Inx.InxKey.packed_number in
    let a = c.self.inside.arena in
    let s = links_view packed a in
    record {
      agree = subst IsWellLinked (sym (ap (λ a. link_map a) (inserted g c)))
          (agrees-insert_between s c.args.t (listed-links_view packed a c.invariants.ensures.listed) (option_map g.P.Inx.InxKey.number c.args.beside.0) (option_map g.P.Inx.InxKey.number c.args.beside.1)
          c.self.invariant.agree (rw (← c.self.view_is) at c.requires.position));
      at_rest = c.write_beside.ensures.at_rest (subst (λ b. AreAtRest packed b.slots) (sym c.insert_next-p.ensures.after)
          (inserted_at_rest packed a.freed a.slots a.counter c.new.result c.new.ensures.at_rest c.self.invariant.at_rest));
    }

pub returns : goal.returns
returns g c =
    let packed = g.P.Inx.InxKey.packed_number in
    let a = c.self.inside.arena in
    rw (← c.self.view_is) (record {
      pointer = next_viewed packed a (g.P.PtrKey.key c.insert_next-p.result) c.insert_next-p.ensures.ptr;
      state = inserted g c;
      listed = listed-links_view packed a c.invariants.ensures.listed;
      agreed = c.self.invariant.agree;
    })
