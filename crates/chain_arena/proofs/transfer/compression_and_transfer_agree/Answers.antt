use Rattle.std.proofs.Common.{sym, ap, ◌∙◌, subst}
use Rattle.chain_laws.specs.Chains.{all_items}
use Rattle.chain_laws.specs.Renamings.{IsRenaming}
use Rattle.chain_laws.specs.Arrangements.{place_in}
use Rattle.chain_laws.proofs.RenamingLemmas.Chains.{renaming_is_determined}
use Rattle.chain_laws.proofs.ChainLemmas.Partitions.{no_others}
use Rattle.chain_links.specs.ChainArena.{link_map}
use Rattle.chain_arena.proofs.transfer.compression_and_transfer_agree.Goals as goal

pub returns : goal.returns
returns g c reset generation f source compressed source_after links compressed_links old new layout transfer =
    let here = layout.order in
    let there = transfer.order in
    let same = here.items ∙ (ap all_items (no_others links here.chains there.chains here.are there.are) ∙ sym there.items) in
    (same, renaming_is_determined _ links compressed_links (link_map new) (subst (λ is. IsRenaming (place_in is) links compressed_links) same layout.renamed) transfer.renamed)
