use Rattle.std.specs.Prelude.{ℕ, false, List, ◌++◌, codes}
use Rattle.std.specs.Fmt.{digits}

-- Lower-case hexadecimal, without a prefix.
abbrev pub hexadecimal : ℕ → List ℕ
hexadecimal n = digits 16 false n

abbrev pub in_parentheses : ℕ → List ℕ
in_parentheses n = codes "(" ++ hexadecimal n ++ codes ")"
