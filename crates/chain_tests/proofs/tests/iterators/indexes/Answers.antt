use Rattle.std.proofs.Common.{ap, sym, ◌∙◌, map}
use Rattle.std.proofs.lemmas.Simd.{map-map}
use Rattle.arena_core.specs.PackedOptions.{zero_is_none}
use Rattle.arena_traits.specs.Entries.{index_of}
use Rattle.chain_links.specs.ChainArena.{on_value}
use Rattle.chain_links.specs.Links.{link_view}
use Rattle.chain_tests.proofs.tests.iterators.indexes.Goals as goal

pub loop-p-init : goal.loop-p-init
loop-p-init g c =
    rw c.new-all.ensures.items (sym (map-map index_of (on_value (link_view zero_is_none)) c.into_iter-p-iterator.result) ∙ ap (map index_of) c.into_iter-p-iterator.ensures.into_iter_gives.0)
