-- The moves written and those left make the whole, for which the capacity suffices.
use Rattle.std.proofs.Common.{◌≡◌, ◌≤◌, ◌++◌, string_bytes, map, length}
use Rattle.std.specs.List.{concat}
use Rattle.std.specs.String.{string_capacity}
use Rattle.chain_commands.specs.Responses.{move_text}
use Rattle.chain_commands.proofs.infallible_text.write_each.Given as goal

abbrev pub invariant-loop-link : goal.invariant-loop-link
invariant-loop-link l = record {
  whole : string_bytes l.text ++ concat (map move_text l.rest) ≡ string_bytes l.fn.text ++ concat (map move_text l.moves);
  capacity : string_capacity l.fn.text ≤ string_capacity l.text;
}

abbrev pub decreases-loop-link : goal.decreases-loop-link
decreases-loop-link l = length l.rest
