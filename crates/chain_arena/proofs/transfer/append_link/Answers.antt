use Rattle.std.proofs.Common.{◌≡◌, ◌+◌, sym, ap₂, ◌∙◌, subst, subst₂}
use Rattle.std.specs.Option.{option_map}
use Rattle.chain_laws.specs.Insertions.{IsInsertPosition}
use Rattle.chain_laws.specs.Transfer.{end_before, end_after}
use Rattle.arena_traits.specs.Arena.{next_index}
use Rattle.chain_links.specs.ChainArena.{insert_between, link_map}
use Rattle.chain_arena.specs.Transfers.{AreEnds}
use Rattle.chain_arena.proofs.transfer.append_link.Given.{Over}
use Rattle.chain_arena.proofs.transfer.append_link.Goals.{After-beside_end}
use Rattle.chain_arena.proofs.transfer.append_link.Goals as goal

at : (g : Over) (c : After-beside_end g) → g.P.Inx.InxKey.number c.inx-i.result ≡ next_index c.args.target.now
at g c = c.inx-i.ensures ∙ c.requires.index

pub insert_between-requires-clause-position : goal.insert_between-requires-clause-position
insert_between-requires-clause-position g c =
    let a = c.args.target.now in
    let i = g.P.Inx.InxKey.number c.inx-i.result in
    let ends = c.requires.ends in
    let beside = c.beside_end.ensures ends.0 (subst (AreEnds g.P.Inx.InxKey.number c.args.ends ends.0) (sym (at g c)) ends.1) in
    subst₂ (IsInsertPosition (link_map a) (next_index a))
    (sym (subst (λ n. option_map g.P.Inx.InxKey.number c.beside_end.result.0 ≡ end_before c.args.is_cyclic ends.0 n) (at g c) beside.0))
    (sym (subst (λ n. option_map g.P.Inx.InxKey.number c.beside_end.result.1 ≡ end_after c.args.is_cyclic ends.0 n) (at g c) beside.1)) ends.2

pub returns-clause-arranged : goal.returns-clause-arranged
returns-clause-arranged g c m ends =
    let number = g.P.Inx.InxKey.number in
    let q = next_index c.args.target.now in
    let is : number c.inx-i.result ≡ q = c.inx-i.ensures ∙ c.requires.index in
    let there = subst (AreEnds number c.args.ends m) (sym is) ends in
    let beside = c.beside_end.ensures m there in (
      c.insert_between.ensures.state ∙ ap₂ (insert_between c.args.target.now c.args.t) (subst (λ n. option_map number c.beside_end.result.0 ≡ end_before c.args.is_cyclic m n) is beside.0) (subst (λ n. option_map number c.beside_end.result.1 ≡ end_after c.args.is_cyclic m n) is beside.1),
      subst (λ n. AreEnds number c.with_end.result (m + 1) (n + 1)) is (c.with_end.ensures m there),
    )
