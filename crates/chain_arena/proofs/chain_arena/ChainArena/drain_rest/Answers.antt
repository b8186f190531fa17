use Rattle.std.proofs.Common.{◌≡◌, rules, refl, ap, map, ◌∙◌, subst}
use Rattle.std.proofs.lemmas.List.{length-map}
use Rattle.arena_traits.specs.Entries.{entries, index_of}
use Rattle.chain_links.specs.ChainArena.{values_of}
use Rattle.chain_arena.specs.Drains.{entries_left, without_each, CountsUp}
use Rattle.chain_arena.proofs.ChainDrainLemmas.{without_each-counts}
use Rattle.chain_arena.proofs.LinkDrainLemmas.{without_each-first, without_each-all, entries_left-step}
use Rattle.chain_arena.proofs.chain_arena.ChainArena.drain_rest.Goals as goal

pub loop-next-init : goal.loop-next-init
loop-next-init g c = refl

pub loop-next-smaller-in-Some : goal.loop-next-smaller-in-Some
loop-next-smaller-in-Some g c = entries_left-step g.P.PtrKey.key g.P.Gen.GenKey.following g.P.Gen.GenKey.wraps _ _ _ _ _ c.in-Some.ensures

pub loop-next-preserved-in-Some : goal.loop-next-preserved-in-Some
loop-next-preserved-in-Some g c = without_each-first g.P.PtrKey.key g.P.Gen.GenKey.following g.P.Gen.GenKey.wraps _ _ _ _ _ c.in-Some.ensures ∙ c.loop-next.invariant

pub loop-next-smaller-in-Some-2 : goal.loop-next-smaller-in-Some-2
loop-next-smaller-in-Some-2 g c = entries_left-step g.P.PtrKey.key g.P.Gen.GenKey.following g.P.Gen.GenKey.wraps _ _ _ _ _ c.in-Some.ensures

pub loop-next-preserved-in-Some-2 : goal.loop-next-preserved-in-Some-2
loop-next-preserved-in-Some-2 g c = without_each-first g.P.PtrKey.key g.P.Gen.GenKey.following g.P.Gen.GenKey.wraps _ _ _ _ _ c.in-Some.ensures ∙ c.loop-next.invariant

pub returns : goal.returns
returns g c =
    let following = g.P.Gen.GenKey.following in
    let old = c.args.self.now in
    let new = c.drain_first.new.self in
    let left = entries_left old c.args.from in
    let state : new ≡ without_each following old (map index_of left) = search rules in (
      state,
      subst (λ n. CountsUp following n old new) (length-map left index_of) (without_each-counts following old new (map index_of left) state),
      λ all.
          ap (λ a. entries (values_of a)) state
          ∙ (ap (λ es. entries (values_of (without_each following old (map index_of es)))) all ∙ without_each-all following old (entries (values_of old)) refl),
    )
