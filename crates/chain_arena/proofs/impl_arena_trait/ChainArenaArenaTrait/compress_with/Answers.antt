use Rattle.std.proofs.Common.{length, refl, ap, sym, ◌∙◌, subst}
use Rattle.arena_core.specs.Invalidation.{invalidation_option}
use Rattle.arena_traits.specs.Entries.{entries}
use Rattle.arena_traits.specs.Compressions.{overflows_after_compression}
use Rattle.arena_traits.proofs.ArenaViewLemmas.{length-entries}
use Rattle.chain_links.specs.Links.{links_view, AreAtRest}
use Rattle.chain_arena.proofs.ArenaCompressionLemmas.{links_compressed, links_visited, positions_closed, links_agree}
use Rattle.chain_links.proofs.ArenaInsertionLemmas.{count-values}
use Rattle.chain_arena.proofs.impl_arena_trait.ChainArenaArenaTrait.compress_with.Goals as goal

pub invariant_of-self : goal.invariant_of-self
invariant_of-self g c =
    let view_after = links_view g.P.Inx.InxKey.packed_number in
    record {
      agree =
          links_agree g.F.FnMut g.P.PtrKey.key c.args.map _ (view_after c.self.inside.arena) (view_after c.begin_generation-overflow.new.self) (view_after c.gather.new.arena)
          (ap view_after c.begin_generation-overflow.ensures.after) c.gather.ensures.gathered c.self.invariant.agree;
      at_rest = c.gather.ensures.at_rest (subst (λ a. AreAtRest g.P.Inx.InxKey.packed_number a.slots) (sym c.begin_generation-overflow.ensures.after) c.self.invariant.at_rest);
    }

pub returns : goal.returns
returns g c =
    let number = g.P.Inx.InxKey.packed_number in
    let a = c.self.inside.arena in
    let old = links_view number a in
    let mid = links_view number c.begin_generation-overflow.new.self in
    let new = links_view number c.gather.new.arena in
    let begun = ap (links_view number) c.begin_generation-overflow.ensures.after in
    let counted = length-entries a ∙ sym (count-values number a) in
    rw (← c.self.view_is) (record {
      outcome = record {
        compressed = links_compressed g.F.FnMut g.P.PtrKey.key c.args.map _ old mid new begun c.gather.ensures.gathered g.P.Gen.GenKey.first g.P.Gen.GenKey.following c.args.reset (length (entries a)) refl counted;
        overflow = c.begin_generation-overflow.ensures.overflow ∙ ap (λ n. invalidation_option (overflows_after_compression g.P.Gen.GenKey.wraps c.args.reset n a.counter) tt) counted;
      };
      visits = links_visited g.F.FnMut g.P.PtrKey.key c.args.map _ old mid new begun c.gather.ensures.gathered;
      implementation = positions_closed g.F.FnMut g.P.PtrKey.key c.args.map _ old mid new begun c.gather.ensures.gathered;
    })
