use Rattle.std.proofs.Common.{◌≡◌, Some, sym, ap, ◌∙◌, subst}
use Rattle.std.specs.Prelude.{IfSome, is_some}
use Rattle.chain_laws.specs.Chains.{next_of}
use Rattle.chain_laws.proofs.ChainLemmas.LinkedLists.{prev_valid}
use Rattle.arena_traits.specs.Arena.{IsValid}
use Rattle.arena_ptr.specs.ToolPtr.{key_of}
use Rattle.chain_links.specs.ChainArena.{entry, link_map}
use Rattle.chain_linking.specs.ChainArenaLaws.{links_exist}
use Rattle.chain_traits.proofs.NeighborPointerLemmas.{was_read, none_read}
use Rattle.chain_arena_examples.proofs.named_type.pointer_after.Goals as goal

pub returns-in-Some-clause-some : goal.returns-in-Some-clause-some
returns-in-Some-clause-some c =
    subst (λ o. IfSome o (λ q. IsValid (entry c.args.arena.now) (key_of q) × (next_of (link_map c.args.arena.now) (key_of c.args.p).0 ≡ Some (key_of q).0)))
    (sym c.next.ensures) (was_read key_of (entry c.args.arena.now) c.in-Some.link.next _ c.in-Some.ensures.outcome.link.after)

pub returns-in-Some-clause-none : goal.returns-in-Some-clause-none
returns-in-Some-clause-none c valid none =
    let links = link_map c.args.arena.now in
    let i = (key_of c.args.p).0 in
    none_read key_of (entry c.args.arena.now) c.in-Some.link.next (next_of links i) c.in-Some.ensures.outcome.link.after
    (λ j is. sym (links_exist c.args.arena.now j) ∙ ap is_some (prev_valid links j i ((c.in-Some.ensures.agree.both i j).0 is)).links) (sym c.next.ensures ∙ none)
