-- The links up to index k have no destination.
use Rattle.std.proofs.Common.{◌≡◌, ℕ, ◌≤◌, None}
use Rattle.chain_links.specs.Links.{links_view, destination_at}
use Rattle.chain_linking.proofs.destinations.clear_destinations.Given as goal

abbrev pub invariant-loop-k : goal.invariant-loop-k
invariant-loop-k g l =
    let number = g.P.Inx.InxKey.packed_number in
    record {
      links : links_view number l.arena ≡ links_view number l.fn.arena;
      cleared : (j : ℕ) → j ≤ l.k → destination_at number l.arena.slots j ≡ None;
    }
