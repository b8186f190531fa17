-- The greatest length of the response to `moves F`.
use Rattle.std.proofs.Common.{◌≡◌, ℕ, ◌+◌, ◌*◌, ◌<◌, ◌≤◌, List, [], ◌∷◌, ◌++◌, map, length, codes, decimal, refl, arith, length-append}
use Rattle.std.specs.List.{concat}
use Rattle.std.proofs.lemmas.Fmt.{length-decimal-le}
use Rattle.arena_ptr.specs.ToolPtr.{key_of}
use Rattle.arena_core.specs.declared.invalidation.InvalidationOption.{InvalidationOption}
use Rattle.arena_core.specs.declared.invalidation.InvalidationOption.TheVariants as option
use Rattle.arena_ptr.specs.declared.tool_ptr.ToolPtr.{ToolPtr}
use Rattle.chain_commands.specs.Responses.{pointer_text, move_text, moves_text, overflow_text, greatest_index}

decimal_capacity : (n : ℕ) → n ≤ greatest_index → length (decimal n) ≤ 10
decimal_capacity n most = length-decimal-le 10 n (omega arith) (omega arith) (omega arith)

three_parts : (xs mid ys : List ℕ) (m k n : ℕ) → length xs ≤ m → length mid ≡ k → length ys ≤ n → length (xs ++ mid ++ ys) ≤ m + k + n
three_parts xs mid ys m k n first between last = grind (arith, first, between, last, length-append)

pointer_capacity : (p : ToolPtr) → length (pointer_text (key_of p)) ≤ 21
pointer_capacity p =
    three_parts (decimal p.inx.number) (codes ".") (decimal p.generation.number) 10 1 10 (decimal_capacity p.inx.number p.inx.in_range.1) refl
    (decimal_capacity p.generation.number p.generation.in_range.1)

move_capacity : (m : ToolPtr × ToolPtr) → length (move_text m) ≤ 44
move_capacity m =
    let both = three_parts (pointer_text (key_of m.0)) (codes ">") (pointer_text (key_of m.1)) 21 1 21 (pointer_capacity m.0) refl (pointer_capacity m.1) in
    three_parts [] (codes " ") (pointer_text (key_of m.0) ++ codes ">" ++ pointer_text (key_of m.1)) 0 1 43 (omega arith) refl both

each_capacity : (moves : List (ToolPtr × ToolPtr)) → length (concat (map move_text moves)) ≤ 44 * length moves
each_capacity [] = omega arith
each_capacity (m ∷ moves) =
    omega (arith, move_capacity m, each_capacity moves, length-append (move_text m) (concat (map move_text moves)))

overflow_capacity : (known : InvalidationOption Unit) → length (overflow_text known) ≤ 9
overflow_capacity (option.Success done) = omega arith
overflow_capacity (option.GenerationOverflow done) = omega arith

pub moves_capacity : (links : ℕ) (moves : List (ToolPtr × ToolPtr)) (known : InvalidationOption Unit) → links ≤ greatest_index → length moves ≡ links
    → length (moves_text moves known) < links * 44 + 26
moves_capacity links moves known most as_many =
    let count = decimal_capacity (length moves) (omega (arith, most, as_many)) in
    let all = three_parts (decimal (length moves)) (concat (map move_text moves)) (overflow_text known) 10 _ 9 count refl (overflow_capacity known) in
    omega (arith, as_many, all, each_capacity moves)
