use Rattle.std.proofs.Common.{of_calls, ◌≡◌, None, Some, refl, sym, ap, ◌∙◌, subst}
use Rattle.std.specs.Prelude.{is_some}
use Rattle.std.specs.Option.{option_map}
use Rattle.std.proofs.lemmas.Bool.{false≢true}
use Rattle.arena_core.specs.Invalidation.{value_within}
use Rattle.arena_traits.specs.Arena.{entry_at}
use Rattle.arena_traits.specs.Entries.{view_of}
use Rattle.arena_traits.proofs.ArenaViewLemmas.{value_within-made}
use Rattle.arena_traits.proofs.CallOutcomeLemmas.{removed_value, where_some, where_none}
use Rattle.chain_links.specs.Links.{links_view, link_view, pair_view, AreAtRest}
use Rattle.chain_links.proofs.LinkStateLemmas.{entry_at-links_view}
use Rattle.chain_links.proofs.MappedArenaLemmas.{with_each-remove_at}
use Rattle.chain_links.proofs.RestLemmas.{set_at_rest}
use Rattle.chain_linking.proofs.ConnectionLemmas.{prev_of-view_after, next_of-view_after}
use Rattle.chain_links.specs.ChainArena.{link_map}
use Rattle.chain_linking.specs.LinkWrites.{WereBeside}
use Rattle.chain_linking.proofs.UnlinkLemmas.{removal_by_steps, were_beside}
use Rattle.chain_linking.proofs.link_writes.remove_link_at.Goals as goal
use Rattle.chain_linking.proofs.link_writes.remove_link_at.Goals.{After-next}
use Rattle.chain_linking.proofs.link_writes.remove_link_at.Given.{Over}

beside : (g : Over) (c : After-next g)
    → WereBeside (link_map (links_view g.P.Inx.InxKey.packed_number c.remove_inx.new.self)) (g.P.Inx.InxKey.number c.args.i)
    (option_map g.P.Inx.InxKey.number c.prev.result) (option_map g.P.Inx.InxKey.number c.next.result)
beside g c =
    let number = g.P.Inx.InxKey.number in
    let packed = g.P.Inx.InxKey.packed_number in
    let a = c.args.arena.now in
    let n = number c.args.i in
    let link = c.in-Some.link in
    let returned = removed_value view_of entry_at g.P.Gen.GenKey.following g.P.Gen.GenKey.wraps a c.remove_inx.new.self n c.remove_inx.result c.remove_inx.ensures.outcome in
    let stored : entry_at a n ≡ Some (c.in-Some.generation, link) = sym returned ∙ (sym (ap (λ x. x.0) c.overflowing-entry.ensures) ∙ c.in-Some.is) in
    let named_prev : option_map number c.prev.result ≡ packed link.prev = search of_calls in
    let named_next : option_map number c.next.result ≡ packed link.next = search of_calls in
    were_beside g.P.Gen.GenKey.following (links_view packed a) (links_view packed c.remove_inx.new.self) n _ _
    (ap (links_view packed) (where_some (value_within c.remove_inx.result) c.remove_inx.ensures.implementation (returned ∙ stored)) ∙ with_each-remove_at (link_view packed) g.P.Gen.GenKey.following a n) c.requires
    (named_prev ∙ sym (prev_of-view_after packed a (n, c.in-Some.generation) link stored)) (named_next ∙ sym (next_of-view_after packed a (n, c.in-Some.generation) link stored))

pub connect_former_neighbors-requires : goal.connect_former_neighbors-requires
connect_former_neighbors-requires g c = beside g c

pub returns-in-Some : goal.returns-in-Some
returns-in-Some g c =
    let number = g.P.Inx.InxKey.number in
    let packed = g.P.Inx.InxKey.packed_number in
    let a = c.args.arena.now in
    let n = number c.args.i in
    let link = c.in-Some.link in
    let returned = removed_value view_of entry_at g.P.Gen.GenKey.following g.P.Gen.GenKey.wraps a c.remove_inx.new.self n c.remove_inx.result c.remove_inx.ensures.outcome in
    let stored : entry_at a n ≡ Some (c.in-Some.generation, link) = sym returned ∙ (sym (ap (λ x. x.0) c.overflowing-entry.ensures) ∙ c.in-Some.is) in
    let found : value_within c.from_overflow.result ≡ Some (c.in-Some.generation, link) = search (of_calls, value_within-made) in
    let named_prev : option_map number c.prev.result ≡ packed link.prev = search of_calls in
    let named_next : option_map number c.next.result ≡ packed link.next = search of_calls in
    record {
      returned = ap (option_map (pair_view packed)) found ∙ sym (entry_at-links_view packed a n ∙ ap (option_map (pair_view packed)) stored);
      overflow = search (of_calls, value_within-made);
      valid = λ _. removal_by_steps g.P.Gen.GenKey.following (links_view packed a) (links_view packed c.remove_inx.new.self) (links_view packed c.connect_former_neighbors.new.arena) n
          (option_map number c.prev.result) (option_map number c.next.result)
          (ap (links_view packed) (where_some (value_within c.remove_inx.result) c.remove_inx.ensures.implementation (returned ∙ stored)) ∙ with_each-remove_at (link_view packed) g.P.Gen.GenKey.following a n)
          c.connect_former_neighbors.ensures.links
          (named_prev ∙ sym (prev_of-view_after packed a (n, c.in-Some.generation) link stored))
          (named_next ∙ sym (next_of-view_after packed a (n, c.in-Some.generation) link stored));
      invalid = λ none. absurd (false≢true (sym (ap is_some none) ∙ ap is_some found));
      at_rest = λ rest. c.connect_former_neighbors.ensures.at_rest (subst (λ b. AreAtRest packed b.slots) (sym (where_some (value_within c.remove_inx.result) c.remove_inx.ensures.implementation (returned ∙ stored))) (set_at_rest packed a.slots n None refl rest));
    }

pub returns-in-None : goal.returns-in-None
returns-in-None g c =
    let packed = g.P.Inx.InxKey.packed_number in
    let a = c.args.arena.now in
    let n = g.P.Inx.InxKey.number c.args.i in
    let returned = removed_value view_of entry_at g.P.Gen.GenKey.following g.P.Gen.GenKey.wraps a c.remove_inx.new.self n c.remove_inx.result c.remove_inx.ensures.outcome in
    let none : entry_at a n ≡ None = sym returned ∙ (sym (ap (λ x. x.0) c.overflowing-entry.ensures) ∙ c.in-None.is) in
    let same = where_none (value_within c.remove_inx.result) c.remove_inx.ensures.invalid (returned ∙ none) in
    record {
      returned = sym (entry_at-links_view packed a n ∙ ap (option_map (pair_view packed)) none);
      overflow = refl;
      valid = λ some. absurd (false≢true some);
      invalid = λ _. same;
      at_rest = λ rest. subst (λ b. AreAtRest packed b.slots) (sym same) rest;
    }
