use Rattle.std.proofs.Common.{◌≡◌, ◌∙◌, ◌++◌, List, ℕ, ◌∷◌, ◌+◌, ◌≤◌, map, string_bytes, length, ap, arith, length-append}
use Rattle.std.specs.List.{concat}
use Rattle.arena_ptr.specs.declared.tool_ptr.ToolPtr.{ToolPtr}
use Rattle.chain_commands.specs.Responses.{move_text}
use Rattle.chain_commands.proofs.infallible_text.write_each.Goals as goal

first_capacity : (text all start : List ℕ) (rest others : List (ToolPtr × ToolPtr)) (m : ToolPtr × ToolPtr) (old new : ℕ) → rest ≡ m ∷ others
    → text ++ concat (map move_text rest) ≡ start ++ all → length start + length all ≤ old → old ≤ new → length text + length (move_text m) ≤ new
first_capacity text all start rest others m old new is whole fits more =
    let long = ap length whole in
    let split = ap (λ ms. length (concat (map move_text ms))) is ∙ length-append (move_text m) (concat (map move_text others)) in
    omega (arith, long, split, fits, more, length-append text (concat (map move_text rest)), length-append start all)

pub write_move-requires : goal.write_move-requires
write_move-requires c =
    first_capacity (string_bytes c.loop-link.text) (concat (map move_text c.args.moves.now)) (string_bytes c.args.text.now) c.loop-link.rest.now c.in-Some.others.now c.in-Some.link.now _ _ c.in-Some.ensures.cases.0 c.loop-link.invariant.whole c.requires c.loop-link.invariant.capacity
