use Rattle.std.proofs.Common.{subst}
use Rattle.std.specs.Option.{option_map}
use Rattle.arena_traits.specs.Entries.{entries}
use Rattle.arena_traits.specs.Advancers.{IsAdvance}
use Rattle.chain_links.specs.Links.{held_in}
use Rattle.chain_compaction.proofs.ValueViewLemmas.{lookup-with_each, values_of-links_view}
use Rattle.chain_arena.proofs.impl_arena_trait.PtrAdvancerAdvancerChainArena.advance.Goals as goal

pub returns : goal.returns
returns g c = rw (← c.collection.view_is) (subst (λ v. IsAdvance (entries v) c.args.self.now.cursor (option_map g.P.PtrKey.key c.advance.result) c.advance.new.self.cursor)
    (values_of-links_view g.P.Inx.InxKey.packed_number c.collection.inside.arena) (lookup-with_each held_in c.collection.inside.arena _ _ _ c.advance.ensures))
