-- The pointers parsed so far and those of the words that are left are those of all words.
use Rattle.std.proofs.Common.{◌≡◌, ◌++◌, length}
use Rattle.std.specs.Option.{option_map}
use Rattle.chain_commands.specs.Words.{words_of}
use Rattle.chain_commands.specs.Commands.{pointers_of}
use Rattle.chain_commands.proofs.order.pointers.Given as goal

abbrev pub invariant-loop-word : goal.invariant-loop-word
invariant-loop-word l = pointers_of (words_of l.words) ≡ option_map (λ ps. l.links.items ++ ps) (pointers_of (words_of l.left))

abbrev pub decreases-loop-word : goal.decreases-loop-word
decreases-loop-word l = length (words_of l.left)
