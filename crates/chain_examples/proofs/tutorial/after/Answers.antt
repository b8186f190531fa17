use Rattle.std.proofs.Common.{◌≡◌, ℕ, Option, None, Some, refl, sym, ap, ◌∙◌, subst}
use Rattle.std.specs.Prelude.{IfSome, is_some}
use Rattle.chain_laws.specs.Chains.{next_of}
use Rattle.chain_laws.proofs.ChainLemmas.LinkedLists.{prev_valid}
use Rattle.arena_traits.specs.Arena.{IsValid}
use Rattle.chain_traits.proofs.NeighborPointerLemmas.{was_read, none_read}
use Rattle.chain_examples.proofs.tutorial.after.Goals as goal

pub returns-in-Some-clause-next : goal.returns-in-Some-clause-next
returns-in-Some-clause-next g c =
    subst (λ o. IfSome o (λ q. IsValid (g.A.ArenaTrait.entry c.args.arena.now) (g.P.PtrKey.key q) × (next_of (g.A.ChainArenaTrait.interlinks c.args.arena.now) (g.P.PtrKey.key c.args.p).0 ≡ Some (g.P.PtrKey.key q).0)))
    (sym c.next.ensures) (was_read g.P.PtrKey.key (g.A.ArenaTrait.entry c.args.arena.now) c.in-Some.link.next _ c.in-Some.ensures.outcome.link.after)

both_some : {P : Type 0} (X : P → Type 0) (number : P → ℕ) (o : Option P) (n : Option ℕ) → IfSome o (λ q. X q × (n ≡ Some (number q))) → (o ≡ None → n ≡ None) → is_some o ≡ is_some n
both_some X number None n some none = sym (ap is_some (none refl))
both_some X number (Some q) n some none = sym (ap is_some some.1)

pub returns-in-Some-clause-some : goal.returns-in-Some-clause-some
returns-in-Some-clause-some g c =
    let links = g.A.ChainArenaTrait.interlinks c.args.arena.now in
    let entry = g.A.ArenaTrait.entry c.args.arena.now in
    let i = (g.P.PtrKey.key c.args.p).0 in
    let same = both_some (λ q. IsValid entry (g.P.PtrKey.key q)) (λ q. (g.P.PtrKey.key q).0) c.in-Some.link.next (next_of links i)
    (was_read g.P.PtrKey.key entry c.in-Some.link.next _ c.in-Some.ensures.outcome.link.after)
    (none_read g.P.PtrKey.key entry c.in-Some.link.next (next_of links i) c.in-Some.ensures.outcome.link.after
    (λ j is. sym (g.met.A.ChainArenaTrait.links_are_entries c.args.arena.now j) ∙ ap is_some (prev_valid links j i ((c.in-Some.ensures.agree.both i j).0 is)).links)) in
    (λ some. (c.in-Some.ensures.outcome.some.0 refl, sym same ∙ (ap is_some (sym c.next.ensures) ∙ some)), λ both. ap is_some c.next.ensures ∙ (same ∙ both.1))
