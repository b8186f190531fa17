use Rattle.std.proofs.Common.{◌+◌, length, refl, ap, sym, ◌∙◌, subst}
use Rattle.arena_core.specs.Invalidation.{invalidation_option}
use Rattle.arena_traits.specs.Entries.{entries}
use Rattle.arena_traits.specs.Compressions.{overflows_after_compression}
use Rattle.arena_traits.proofs.ArenaViewLemmas.{length-entries}
use Rattle.chain_links.specs.Links.{links_view, IsChainArena}
use Rattle.chain_arena.proofs.CanonicalCompressionLemmas.{arranged_agree, arranged_canonical, arranged_stack_capacity, arranged_reported}
use Rattle.chain_links.proofs.ArenaInsertionLemmas.{count-values}
use Rattle.chain_arena.proofs.chain_arena.ChainArena.compress_canonical_by.Goals as goal

pub invariant_of-self : goal.invariant_of-self
invariant_of-self g c =
    let view_after = links_view g.P.Inx.InxKey.packed_number in
    record {
      agree =
          arranged_agree g.V.Visitor.sees g.P.PtrKey.key c.args.visitor c.arrange-visitor.result.0 _ (view_after c.self.inside.arena) (view_after c.begin_generation-overflow.new.self) (view_after c.arrange-visitor.new.arena)
          (ap view_after c.begin_generation-overflow.ensures.after) c.arrange-visitor.ensures.arranged c.self.invariant.agree;
      at_rest = c.arrange-visitor.ensures.at_rest;
    }

pub arrange-visitor-requires-clause-links : goal.arrange-visitor-requires-clause-links
arrange-visitor-requires-clause-links g c =
    subst (IsChainArena g.P.Inx.InxKey.packed_number) (sym c.begin_generation-overflow.ensures.after) (record { agree = c.self.invariant.agree; at_rest = c.self.invariant.at_rest })

pub returns : goal.returns
returns g c =
    let number = g.P.Inx.InxKey.packed_number in
    let a = c.self.inside.arena in
    let old = links_view number a in
    let mid = links_view number c.begin_generation-overflow.new.self in
    let new = links_view number c.arrange-visitor.new.arena in
    let begun = ap (links_view number) c.begin_generation-overflow.ensures.after in
    let made = c.arrange-visitor.ensures in
    let sees = g.V.Visitor.sees in
    let key = g.P.PtrKey.key in
    let to = c.arrange-visitor.result.0 in
    rw (← c.self.view_is) (record {
      compressed = (
        record {
          canonical = arranged_canonical sees key c.args.visitor to _ old mid new begun made.arranged g.P.Gen.GenKey.first g.P.Gen.GenKey.following c.args.reset (length (entries a)) refl (length-entries a ∙ sym (count-values number a));
          overflow = c.begin_generation-overflow.ensures.overflow ∙ ap (λ n. invalidation_option (overflows_after_compression g.P.Gen.GenKey.wraps c.args.reset n a.counter) tt) (length-entries a ∙ sym (count-values number a));
        },
        arranged_stack_capacity sees key c.args.visitor to _ old mid new begun made.arranged,
      );
      reports = arranged_reported sees key c.args.visitor to _ old mid new begun made.arranged;
      ready = made.ready;
      counted = (
        made.placed ∙ ap (λ x. x.placed + c.arrange-visitor.result.1.placed) c.begin_generation-overflow.ensures.after,
        made.touched ∙ ap (λ x. x.touched + c.arrange-visitor.result.1.touched) c.begin_generation-overflow.ensures.after,
      );
    })
