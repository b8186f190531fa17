use Rattle.std.specs.Prelude.{ℕ, List, ◌++◌, Option, None, Some, codes}
use Rattle.std.specs.Fmt.{option_append}
use Rattle.arena_core.specs.PointerText.{hexadecimal}

-- An index in hexadecimal, or `none`.
abbrev pub index_text : List ℕ → Option ℕ → List ℕ
index_text none None = none
index_text none (Some i) = hexadecimal i

abbrev pub neighbors_text : Option ℕ → Option ℕ → List ℕ
neighbors_text prev next = codes "{" ++ index_text (codes "(start)") prev ++ codes ", " ++ index_text (codes "(end)") next ++ codes "} "

-- A link's text, as `{1, (end)} "B"`, if its value has one.
abbrev pub link_text : Option ℕ → Option ℕ → Option (List ℕ) → Option (List ℕ)
link_text prev next value = option_append (Some (neighbors_text prev next)) value
