use Rattle.std.proofs.Common.{◌≡◌, ℕ, Some, ap}
use Rattle.std.specs.Option.{option_map}
use Rattle.chain_laws.specs.Chains.{HasLink}
use Rattle.arena_traits.specs.Arena.{Arena, entry_at}
use Rattle.chain_links.specs.ChainArena.{LinkView, link_map, interlinks_of}
use Rattle.chain_links.specs.Links.{links_view}
use Rattle.chain_links.specs.Walkers.{index_and_entry}
use Rattle.chain_linking.proofs.WalkerLemmas.{read_some}
use Rattle.chain_linking.proofs.back_step.last_of.Goals as goal

was_read : {Gen T : Type 0} (a : Arena Gen (LinkView T)) (i : ℕ) (item : ℕ × (Gen × LinkView T)) → Some item ≡ option_map (index_and_entry i) (entry_at a i) → HasLink (link_map a) i
was_read a i item is = record { link = interlinks_of item.1; links = ap (option_map interlinks_of) (read_some i item.0 item.1 (entry_at a i) is) }

pub end_of_chain-requires-clause-began : goal.end_of_chain-requires-clause-began
end_of_chain-requires-clause-began g c = was_read (links_view g.P.Inx.InxKey.packed_number c.args.arena.now) (g.P.Inx.InxKey.number c.args.start) _ c.in-Some.ensures.link
